-- `search::find::seek` meets its contract. Assumes nothing.
use Rattle.search.proofs.Looked.{Passing}
use Rattle.search.proofs.find.seek.Given as goal

abbrev pub invariant-loop-b : goal.invariant-loop-b
invariant-loop-b l = Passing l.body.func.bounds.now l.body.func.recs.now l.body.replay.now l.body.sizes l.work32 l.from l.b
