-- `legality::kept::read_ok` meets its contract. Assumes nothing.
use mathlib.Core.Path.{sym, ap, ◌∙◌}
use native.Mathlib.Omega.{arith}
use Rattle.inst.specs.Index.{word_of}
use Rattle.inst.proofs.Indices.{a_reg}
use Rattle.legality.proofs.Testing.{place_absent, place_there}
use Rattle.legality.proofs.kept.read_ok.Goals as goal

pub returns-in_default : goal.returns-in_default
returns-in_default c = place_absent _ _ _ (ap word_of c.in_default.is)

pub bounds-st-at : goal.bounds-st-at
bounds-st-at c =
    let is = c.in-Some.is in
    omega (arith, (a_reg is c.requires.0).0, ap word_of is, c.at.ensures)

pub returns : goal.returns
returns c =
    let is = c.in-Some.is in
    place_there _ _ _ (a_reg is c.requires.0).1 (c.at.ensures ∙ sym (ap word_of is))
