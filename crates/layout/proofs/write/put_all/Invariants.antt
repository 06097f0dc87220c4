-- `write::put_all`: the slices before this one are written. Assumes nothing.
use Rattle.std.proofs.Common.{◌≡◌, length, take}
use Rattle.words.specs.Bytes.{bytes_of}
use Rattle.layout.specs.Layout.{Put, joined}
use Rattle.layout.proofs.write.put_all.Given as goal

abbrev pub invariant-loop-words : goal.invariant-loop-words
invariant-loop-words l = record {
  same : length l.out ≡ length l.initial.out;
  placed : Put l.initial.out 0 (bytes_of (joined (take l.words-index l.slices))) l.out l.at;
}
