-- `pool::allot::allot` meets its contract. Assumes nothing.
use Rattle.pool.proofs.Allots.{allotting_none, allotting_more}
use Rattle.pool.proofs.allot.allot.Goals as goal

pub loop-p-init : goal.loop-p-init
loop-p-init c = allotting_none c.requires c.new-pool.ensures.0 c.new-pool.ensures.1 c.new-pool.ensures.2

pub loop-p-preserved : goal.loop-p-preserved
loop-p-preserved c = allotting_more c.requires c.loop-p.invariant c.loop-p-test.true c.position.ensures
