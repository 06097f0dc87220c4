-- `rename::count::count_target` meets its contract. Assumes nothing.
use Rattle.rename.proofs.Counting.{CountingOwn}
use Rattle.rename.proofs.count.count_target.Given as goal

abbrev pub invariant-loop-q : goal.invariant-loop-q
invariant-loop-q l = CountingOwn l.fn.s.from l.fn.s.past l.initial.names l.names l.code.recs.now l.code.ops.now l.n l.k l.q
