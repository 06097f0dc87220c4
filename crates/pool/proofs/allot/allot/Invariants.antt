-- `pool::allot::allot` meets its contract. Assumes nothing.
use Rattle.pool.proofs.Allots.{Allotting}
use Rattle.pool.proofs.allot.allot.Given as goal

abbrev pub invariant-loop-p : goal.invariant-loop-p
invariant-loop-p l = Allotting l.r l.m l.types l.initial.w l.w l.pool l.p
