-- An arm's number gives the arm back, and is below 32. Assumes nothing.
use mathlib.Core.Path.{◌≡◌, refl}
use Prim.Native.Nat.{◌<◌}
use package.native.Mathlib.Omega.{arith}
use Rattle.model.specs.Kinds.{Arm, const, constF, addr_of, move, select, truth, bin, index, check, dopeLen, load, alloc, layout_of, signal, fills, store, cat, native, stops, deref, writes, other}
use Rattle.inst.specs.Table.{arm_code, arm_at}

pub arm_kept : (a : Arm) → arm_at (arm_code a) ≡ a
arm_kept const = refl
arm_kept constF = refl
arm_kept addr_of = refl
arm_kept move = refl
arm_kept select = refl
arm_kept truth = refl
arm_kept bin = refl
arm_kept index = refl
arm_kept check = refl
arm_kept dopeLen = refl
arm_kept load = refl
arm_kept alloc = refl
arm_kept layout_of = refl
arm_kept signal = refl
arm_kept fills = refl
arm_kept store = refl
arm_kept cat = refl
arm_kept native = refl
arm_kept stops = refl
arm_kept deref = refl
arm_kept writes = refl
arm_kept other = refl

pub arm_small : (a : Arm) → arm_code a < 32
arm_small const = omega arith
arm_small constF = omega arith
arm_small addr_of = omega arith
arm_small move = omega arith
arm_small select = omega arith
arm_small truth = omega arith
arm_small bin = omega arith
arm_small index = omega arith
arm_small check = omega arith
arm_small dopeLen = omega arith
arm_small load = omega arith
arm_small alloc = omega arith
arm_small layout_of = omega arith
arm_small signal = omega arith
arm_small fills = omega arith
arm_small store = omega arith
arm_small cat = omega arith
arm_small native = omega arith
arm_small stops = omega arith
arm_small deref = omega arith
arm_small writes = omega arith
arm_small other = omega arith
