-- `text::put_lines` meets its contract: one line more, until none is left. Assumes nothing.
use Rattle.std.proofs.Common.{◌≡◌, ◌∙◌, ◌++◌, length, length-append, ap, arith}
use Rattle.std.specs.Slice.Iter.{chunks_exact_rest}
use Rattle.report.proofs.Lines.{lines_step, lines_done}
use Rattle.report.proofs.text.put_lines.Goals as goal

pub loop-line-preserved : goal.loop-line-preserved
loop-line-preserved c =
    let i = c.loop-line.invariant in
    let steps = c.in-Some.ensures.steps in
    let x = c.in-Some.line.now in
    let rest = chunks_exact_rest c.next.new.self in
    let cut : chunks_exact_rest c.loop-line.line-iterator ≡ x ++ rest = steps.1.0 in
    let six : length x ≡ 6 = steps.1.1 ∙ i.six in
    record {
      six = steps.0 ∙ i.six;
      text = lines_step x _ rest _ _ _ cut six i.text c.put_line.ensures.text;
      room = omega (arith, ap length cut, length-append x rest, i.room, c.put_line.ensures.short);
    }

pub returns-clause-text : goal.returns-clause-text
returns-clause-text c = lines_done (chunks_exact_rest c.loop-line.line-iterator) _ _ (omega (arith, c.in-None.ensures.steps.1.0, c.loop-line.invariant.six)) c.loop-line.invariant.text
