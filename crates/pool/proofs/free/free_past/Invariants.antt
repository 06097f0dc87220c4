-- `pool::free::free_past` meets its contract. Assumes nothing.
use Rattle.pool.proofs.Releases.{Releasing}
use Rattle.pool.proofs.free.free_past.Given as goal

abbrev pub invariant-loop-w : goal.invariant-loop-w
invariant-loop-w l = Releasing l.p l.initial.free.items l.held l.free.items l.w-index
