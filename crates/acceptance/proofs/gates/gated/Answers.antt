-- `acceptance::gates::gated` meets its contract. Assumes nothing.
use native.Mathlib.Omega.{arith}
use Prim.Native.Nat.{◌*◌, ◌/◌, ◌≤◌}
use lib.ListN.{length}
use native.Mathlib.Nat.{mul-le-mul_left}
use Rattle.acceptance.proofs.gates.gated.Goals as goal

pub overflow_mul-result : goal.overflow_mul-result
overflow_mul-result c =
    let b = length c.args.bounds.now / 2 in
    let z : c.args.regs * b ≤ c.args.regs * 4096 = mul-le-mul_left c.args.regs c.requires.0 in omega (arith, c.ranges.regs)
