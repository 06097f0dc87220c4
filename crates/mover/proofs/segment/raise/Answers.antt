-- `mover::segment::raise` meets its contract. Assumes nothing.
use Rattle.std.proofs.Common.{◌∙◌, refl, sym}
use Rattle.mover.proofs.Moves.{went, raise_law, raise_none}
use Rattle.mover.proofs.segment.raise.Goals as goal

pub returns-then-s-eq0 : goal.returns-then-s-eq0
returns-then-s-eq0 c = let g = c.gather-s.ensures in let q = c.requires in (sym c.if-s-eq0.true ∙ went g q.0 refl, raise_none g q.0 refl q.1 c.if-s-eq0.true)

pub returns : goal.returns
returns c =
    let g = c.gather-s.ensures in
    let q = c.requires in
    (went g q.0 refl, raise_law g q.0 refl q.1 c.lift.ensures c.copy.ensures)
