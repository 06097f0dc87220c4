-- `rename::walk::own_all` meets its contract. Assumes nothing.
use Rattle.rename.proofs.Owning.{Owning}
use Rattle.rename.proofs.walk.own_all.Given as goal

abbrev pub invariant-loop-q : goal.invariant-loop-q
invariant-loop-q l = Owning l.o l.fn.s.from l.fn.s.past l.initial.names l.names l.initial.recs l.recs l.initial.ops l.ops l.n l.q
