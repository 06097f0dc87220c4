-- `flow::live::raise` meets its contract. Assumes nothing.
use Prim.Native.Nat.{◌<◌, ◌^◌}
use native.Mathlib.Omega.{arith}
use lib.ListN.{get_or}
use Rattle.flow.proofs.Joins.{raised_lt}
use Rattle.flow.proofs.live.raise.Goals as goal

pub returns-clause-d_bound : goal.returns-clause-d_bound
returns-clause-d_bound c =
    let a = c.args in
    let old : get_or a.bits.now a.a 0 < 2 ^ 64 = omega arith in
    let not_taken : get_or a.bits.now a.d 0 < 2 ^ 64 = omega arith in
    (raised_lt a.bits.now a.a a.c a.d old, not_taken)
