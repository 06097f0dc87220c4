-- `pool::types::add_types` meets its contract. Assumes nothing.

use Rattle.pool.proofs.Typing.{Typing}
use Rattle.pool.proofs.types.add_types.Given as goal

abbrev pub invariant-loop-p : goal.invariant-loop-p
invariant-loop-p l = Typing l.r l.m l.initial.types l.w l.types l.n l.p
