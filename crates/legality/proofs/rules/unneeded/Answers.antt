-- `legality::rules::unneeded` meets its contract. Assumes nothing.
use mathlib.Core.Path.{sym, ap, ◌∙◌}
use native.Mathlib.Omega.{arith}
use Rattle.inst.specs.Index.{word_of}
use Rattle.inst.proofs.Indices.{a_reg}
use Rattle.legality.proofs.Starting.{result_absent, result_there}
use Rattle.legality.proofs.rules.unneeded.Goals as goal

pub returns-in_default : goal.returns-in_default
returns-in_default c = result_absent _ _ _ _ _ (ap word_of c.in_default.is)

pub bounds-asked-k : goal.bounds-asked-k
bounds-asked-k c =
    let is = c.in-Some.is in
    omega (arith, (a_reg is c.requires.0).0, ap word_of is, c.at-k.ensures)

pub returns : goal.returns
returns c =
    let is = c.in-Some.is in
    result_there _ _ _ _ _ (a_reg is c.requires.0).1 (c.at-k.ensures ∙ sym (ap word_of is)) c.bit_in.ensures
