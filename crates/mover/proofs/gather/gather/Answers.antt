-- `mover::gather::gather` meets its contract. Assumes nothing.
use Rattle.std.proofs.Common.{refl}
use Rattle.mover.proofs.Cells.{gathered_none, gathered_more}
use Rattle.mover.proofs.gather.gather.Goals as goal

pub loop-p-init : goal.loop-p-init
loop-p-init c = gathered_none _ _ _ _ _

pub loop-p-preserved : goal.loop-p-preserved
loop-p-preserved c = let r = c.args.r in gathered_more c.loop-p.invariant refl c.loop-p-test.true c.requires.0 c.requires.1 c.take_one-s.ensures
