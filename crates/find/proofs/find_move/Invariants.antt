-- `find::find_move`: where the search stands, of every picture and facts that the work slices were for. Assumes nothing.
use Rattle.find.proofs.Onward.{Running, to_come}
use Rattle.find.proofs.find_move.Given as goal

abbrev pub invariant-loop-look : goal.invariant-loop-look
invariant-loop-look l = Running l.body.func.bounds.now l.body.func.recs.now l.body.ops.now l.body.func.pairs.now l.body.func.targets.now l.body.replay.now l.body.sizes l.fn.work64 l.fn.work32 l.work64 l.work32 l.look

abbrev pub decreases-loop-look : goal.decreases-loop-look
decreases-loop-look l = to_come l.look
