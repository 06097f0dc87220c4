-- `rename::count::count_x` meets its contract. Assumes nothing.
use Rattle.rename.proofs.Counting.{CountingX}
use Rattle.rename.proofs.count.count_x.Given as goal

abbrev pub invariant-loop-p : goal.invariant-loop-p
invariant-loop-p l = CountingX l.walk.from l.walk.inside l.initial.names l.names l.code.recs.now l.code.ops.now l.walk.w.now l.n l.p
