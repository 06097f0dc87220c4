-- `chains::chain::end_of` meets its contract. Assumes nothing.
use mathlib.Core.Path.{refl}
use Rattle.chains.proofs.Search.{empty_end, goes_end, parts_end, other_end}
use Rattle.chains.proofs.chain.end_of.Goals as goal

pub returns-then-e-s : goal.returns-then-e-s
returns-then-e-s c = empty_end c.args.bounds.now c.args.recs.now c.args.b refl refl c.if-e-s.true

pub returns-in-Goes : goal.returns-in-Goes
returns-in-Goes c = goes_end _ _ _ refl refl c.if-e-s.false c.requires _ c.shape.ensures c.row.ensures c.kind.ensures c.in-Goes.is c.payload.ensures

pub returns-in-Parts : goal.returns-in-Parts
returns-in-Parts c = parts_end _ _ _ refl refl c.if-e-s.false c.requires _ c.shape.ensures c.row.ensures c.kind.ensures c.in-Parts.is c.payload-in-Parts.ensures c.payload-in-Parts-2.ensures

pub returns-in-Cases : goal.returns-in-Cases
returns-in-Cases c = other_end _ _ _ refl refl c.if-e-s.false c.requires _ c.shape.ensures c.row.ensures c.kind.ensures c.in-Cases.is
