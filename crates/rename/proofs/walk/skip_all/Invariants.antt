-- `rename::walk::skip_all` meets its contract. Assumes nothing.
use Rattle.rename.proofs.Passing.{Skipping}
use Rattle.rename.proofs.walk.skip_all.Given as goal

abbrev pub invariant-loop-p : goal.invariant-loop-p
invariant-loop-p l = Skipping l.walk.inside l.walk.places l.initial.names l.names l.code.recs.now l.walk.w.now l.p
