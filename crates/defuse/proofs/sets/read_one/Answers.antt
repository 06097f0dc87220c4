-- `defuse::sets::read_one` meets its contract. Assumes nothing.
use native.Mathlib.Omega.{arith}
use Rattle.inst.proofs.Indices.{below}
use Rattle.defuse.proofs.Runs.{none_held, one_read}
use Rattle.defuse.proofs.sets.read_one.Goals as goal

pub returns-in_default : goal.returns-in_default
returns-in_default c = none_held _ _ c.in_default.is

pub set_in-requires : goal.set_in-requires
set_in-requires c = omega (arith, below c.in-Some.is c.requires.1, c.requires.0.fits, c.at.ensures)

pub returns : goal.returns
returns c = one_read _ _ _ c.in-Some.is c.at.ensures c.set_in.ensures
