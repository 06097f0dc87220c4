-- `analyse::marks::stamp` meets its contract. Assumes nothing.
use native.Mathlib.Omega.{arith}
use Rattle.effects.specs.Origin.{num}
use Rattle.effects.proofs.Origins.{num_le}
use Rattle.analyse.specs.Step.{stamp}
use Rattle.analyse.proofs.marks.stamp.Goals as goal

pub returns : goal.returns
unfolding stamp num
returns c = (omega (arith, c.from.ensures, c.from-2.ensures, c.from-3.ensures), omega (arith, c.from.ensures, c.from-2.ensures, c.from-3.ensures, num_le c.args.len, num_le c.args.layout))
