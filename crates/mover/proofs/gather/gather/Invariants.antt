-- `mover::gather::gather` meets its contract. Assumes nothing.
use Rattle.mover.specs.Order.{Gathered}
use Rattle.mover.proofs.gather.gather.Given as goal

abbrev pub invariant-loop-p : goal.invariant-loop-p
invariant-loop-p l = Gathered l.r.w l.chain l.r.lo l.initial.xs l.xs l.initial.saved l.saved l.p l.s
