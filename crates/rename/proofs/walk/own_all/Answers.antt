-- `rename::walk::own_all` meets its contract. Assumes nothing.
use Rattle.rename.proofs.Owning.{owning_none, owning_ask, owning_more, owning_end}
use Rattle.rename.proofs.walk.own_all.Goals as goal

pub loop-q-init : goal.loop-q-init
loop-q-init c = owning_none _ _ _ _ _ _ c.requires.is.order

pub own-n-requires : goal.own-n-requires
own-n-requires c = let k = c.requires in (record { u = k.u; is = owning_ask k.is c.loop-q.invariant c.loop-q-test.true })

pub loop-q-preserved : goal.loop-q-preserved
loop-q-preserved c = owning_more c.requires.is c.loop-q.invariant c.loop-q-test.true c.own-n.ensures

pub returns : goal.returns
returns c = owning_end c.loop-q.invariant c.loop-q-test.false
