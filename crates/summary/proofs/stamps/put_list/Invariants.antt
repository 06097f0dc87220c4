-- `summary::stamps::put_list` meets its contract. Assumes nothing.
use lib.ListN.{take}
use Rattle.summary.specs.Passes.{Stamped}
use Rattle.summary.proofs.stamps.put_list.Given as goal

abbrev pub invariant-loop-r : goal.invariant-loop-r
invariant-loop-r l = Stamped (take l.r-index l.list) l.d.keep l.d.lo l.d.v l.initial.st l.st
