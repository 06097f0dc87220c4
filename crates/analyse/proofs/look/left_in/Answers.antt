-- `analyse::look::left_in` meets its contract. Assumes nothing.
use mathlib.Core.Path.{refl}
use Rattle.analyse.specs.State.{left_in}
use Rattle.analyse.proofs.look.left_in.Goals as goal

pub returns : goal.returns
unfolding left_in
returns c = refl
