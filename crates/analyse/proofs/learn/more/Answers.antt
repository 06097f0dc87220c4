-- `analyse::learn::more` meets its contract. Assumes nothing.
use mathlib.Core.Path.{refl}
use Rattle.analyse.specs.Step.{more}
use Rattle.analyse.proofs.learn.more.Goals as goal

pub returns : goal.returns
unfolding more
returns c = refl
