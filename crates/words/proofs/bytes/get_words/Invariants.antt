-- `bytes::get_words` meets its contract: the words before i are read, the others as they were. Assumes nothing.
use Rattle.std.proofs.Common.{◌≡◌, ◌*◌, take, drop}
use Rattle.std.proofs.lemmas.List.Edits.{sets}
use Rattle.words.specs.Bytes.{words_of}
use Rattle.words.proofs.bytes.get_words.Given as goal

abbrev pub invariant-loop-i : goal.invariant-loop-i
invariant-loop-i l = l.out ≡ sets l.initial.out 0 (words_of (take (4 * l.i) (drop l.at l.bytes)))
