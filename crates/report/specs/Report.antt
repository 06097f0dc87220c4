-- 01, "One listing whole": what `sinkrounds` prints for its input. Assumes nothing.
use Rattle.std.specs.Prelude.{true, false, List, ◌++◌, ℕ, ◌*◌, take}
use Rattle.model.specs.declared.Answer.{Answer}
use Rattle.model.specs.Pass.{rounds}
use Rattle.layout.specs.Layout.{readable}
use Rattle.host.specs.Host.{sunk}
use Rattle.report.specs.Text.{lines_text, answer_heading, last_line, text, unread_text}

-- with the program's registers and operands lent: a line for each round, then the answer; `unread 0` "where the input is cut short,
-- longer than its counts say, or past the program's sizes"
abbrev pub report_of : List ℕ → List ℕ
report_of bs = elim (readable bs) [ true ↦ text (sunk bs 512 2048) | false ↦ unread_text ]

-- ---- in between

-- what comes behind the heading, of an answer and its lines, six words each
abbrev pub ran_text : Answer → List ℕ → List ℕ
ran_text a ws = lines_text (take (6 * rounds a) ws) ++ answer_heading ++ last_line a
