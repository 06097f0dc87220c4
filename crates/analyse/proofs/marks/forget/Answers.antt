-- `analyse::marks::forget` meets its contract. Assumes nothing.
use Rattle.analyse.proofs.Marking.{forgetting_none, forgetting_more, forgetting_end}
use Rattle.analyse.proofs.marks.forget.Goals as goal

pub loop-w-init : goal.loop-w-init
loop-w-init c = forgetting_none _ _

pub loop-w-preserved : goal.loop-w-preserved
loop-w-preserved c = forgetting_more c.loop-w.invariant c.loop-w-test.true

pub returns : goal.returns
returns c = forgetting_end _ c.requires c.loop-w.invariant c.loop-w-test.false
