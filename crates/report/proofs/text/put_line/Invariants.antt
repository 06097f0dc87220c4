-- `text::put_line`: the numbers before this one are written, a space behind each. Assumes nothing.
use Rattle.std.proofs.Common.{◌≡◌, ◌++◌, ◌+◌, ◌*◌, ◌≤◌, flat_map, take}
use Rattle.arrayvec.specs.ArrayString.{array_string_len}
use Rattle.report.proofs.Lines.{spaced}
use Rattle.report.proofs.text.put_line.Given as goal

abbrev pub invariant-loop-n : goal.invariant-loop-n
invariant-loop-n l = record {
  text : l.out.bytes ≡ l.initial.out.bytes ++ flat_map spaced (take l.n-index l.front);
  room : array_string_len l.out ≤ array_string_len l.initial.out + 11 * l.n-index;
}
