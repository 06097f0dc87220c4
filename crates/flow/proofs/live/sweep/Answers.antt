-- `flow::live::sweep` meets its contract. Assumes nothing.
use Rattle.model.specs.Picture.{succs}
use Rattle.cfg.specs.Func.{drawn_of}
use Rattle.flow.proofs.Joins.{onto}
use Rattle.flow.proofs.Orders.{taken_more, edges_taken}
use Rattle.flow.proofs.live.sweep.Goals as goal

pub loop-k-preserved : goal.loop-k-preserved
loop-k-preserved c =
    let l = c.loop-k in
    let n = c.blocks-2.ensures in
    taken_more c.args.order l.k (succs (drawn_of c.args.func.now)) _ (rw n at c.loop-k-test.true) (rw n at c.kth-b.ensures) c.succs.ensures.0
    l.invariant (onto l.invariant.rest (rw n at c.settle-changed.ensures))

pub returns : goal.returns
returns c =
    let n = c.blocks-2.ensures in
    edges_taken c.args.order (succs (drawn_of c.args.func.now)) (rw n at c.loop-k.auto.k-end) (rw n at c.loop-k-test.false) c.loop-k.invariant
