-- An arm by its number. Assumes nothing.
use mathlib.Core.Path.{◌≡◌, sym}
use Prim.Native.Nat.{ℕ}
use lib.ListN.{get_or, get_or-map}
use Rattle.inst.specs.Table.{arm_at}
use Rattle.effects.specs.Arms.{arm_of}
use Rattle.effects.specs.declared.arms.Arm.TheVariants.{Other}
use Rattle.effects.specs.declared.arms.TheConstants.{ARMS}

pub arm_found : (n : ℕ) → arm_of (get_or ARMS n Other) ≡ arm_at n
arm_found n = sym (get_or-map arm_of ARMS n Other)
