-- `inst::constant::is_nan` meets its contract. Assumes nothing.
use mathlib.Core.Path.{refl}
use lib.Ieee.{nan_bits}
use Rattle.inst.proofs.constant.is_nan.Goals as goal

pub returns : goal.returns
unfolding nan_bits
returns c = refl
