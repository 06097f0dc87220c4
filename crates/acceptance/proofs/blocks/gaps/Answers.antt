-- `acceptance::blocks::gaps` meets its contract. What is left of the bounds has the answer that the whole has. Assumes nothing.
use mathlib.Core.Path.{◌∙◌}
use Rattle.acceptance.proofs.Gaps.{gap_on, odd_on}
use Rattle.acceptance.proofs.blocks.gaps.Goals as goal

pub loop-pair-preserved : goal.loop-pair-preserved
loop-pair-preserved c =
    let i = c.loop-pair.invariant in
    let z = c.in-Some.ensures.steps in
    record { left = gap_on _ _ _ _ _ z.1.0 (z.1.1 ∙ i.two) c.if-pair-at.false ∙ i.left; odd = odd_on _ _ _ z.1.0 (z.1.1 ∙ i.two) ∙ i.odd; two = z.0 ∙ i.two }
