-- `text::put_line` meets its contract: the last number behind the others. Assumes nothing.
use Rattle.report.proofs.Lines.{line_done}
use Rattle.report.proofs.text.put_line.Goals as goal

pub returns-after-loop-n-clause-text : goal.returns-after-loop-n-clause-text
returns-after-loop-n-clause-text c =
    line_done c.args.numbers.now c.in-Some.front.now _ _ _ c.in-Some.last.now c.loop-n.n-index c.in-Some.ensures.cases.0 c.loop-n-test.false c.loop-n.invariant.text c.put_number-in-Some.ensures.text
