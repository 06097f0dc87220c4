-- `text::put_lines`: what is written, with the lines of the numbers that are left. Assumes nothing.
use Rattle.std.proofs.Common.{◌≡◌, ◌++◌, ◌+◌, ◌*◌, ◌≤◌, length}
use Rattle.std.specs.Slice.Iter.{chunks_exact_rest, chunks_exact_size}
use Rattle.arrayvec.specs.ArrayString.{array_string_len}
use Rattle.report.specs.Text.{lines_text}
use Rattle.report.proofs.text.put_lines.Given as goal

abbrev pub invariant-loop-line : goal.invariant-loop-line
invariant-loop-line l = record {
  six : chunks_exact_size l.line-iterator ≡ 6;
  text : l.out.bytes ++ lines_text (chunks_exact_rest l.line-iterator) ≡ l.initial.out.bytes ++ lines_text l.numbers;
  room : array_string_len l.out + 11 * length (chunks_exact_rest l.line-iterator) ≤ array_string_len l.initial.out + 11 * length l.numbers;
}
