-- `checks::branches::bad_branch` meets its contract. Assumes nothing.
use mathlib.Core.Bool.{◌||◌}
use mathlib.Core.Path.{ap, ap₂, ◌∙◌}
use Prim.Native.Nat.{ℕ}
use lib.Dec.{leb}
use Rattle.model.specs.Picture.{inst}
use Rattle.checks.proofs.Targets.{at_goes, at_parts, at_cases, at_stops}
use Rattle.checks.proofs.branches.bad_branch.Goals as goal

pub returns-in-Goes : goal.returns-in-Goes
returns-in-Goes c =
    let a = c.args in
    ap (leb a.blocks) c.payload-t.ensures ∙ at_goes a.blocks (inst a.rec.recs.now a.rec.p) c.requires.known.kind c.requires.row c.shape.ensures c.in-Goes.is

pub returns-in-Parts : goal.returns-in-Parts
returns-in-Parts c =
    let a = c.args in
    ap₂ (λ (t f : ℕ). leb a.blocks t || leb a.blocks f) c.payload-t.ensures c.payload-f.ensures
    ∙ at_parts a.blocks (inst a.rec.recs.now a.rec.p) c.requires.known.kind c.requires.row c.shape.ensures c.in-Parts.is

pub returns-in-Cases : goal.returns-in-Cases
returns-in-Cases c = let a = c.args in at_cases a.blocks (inst a.rec.recs.now a.rec.p) c.requires.known.kind c.requires.row c.shape.ensures c.in-Cases.is

pub returns-in-Stops : goal.returns-in-Stops
returns-in-Stops c = let a = c.args in at_stops a.blocks (inst a.rec.recs.now a.rec.p) c.requires.known.kind c.requires.row c.shape.ensures c.in-Stops.is
