-- `rename::walk::pass_all` meets its contract. Assumes nothing.
use Rattle.rename.proofs.Passing.{Passing}
use Rattle.rename.proofs.walk.pass_all.Given as goal

abbrev pub invariant-loop-p : goal.invariant-loop-p
invariant-loop-p l = Passing l.u l.walk.from l.walk.inside l.initial.names l.names l.initial.recs l.recs l.initial.ops l.ops l.walk.w.now l.n l.p
