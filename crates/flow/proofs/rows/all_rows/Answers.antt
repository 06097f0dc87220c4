-- `flow::rows::all_rows` meets its contract. Assumes nothing.
use native.Mathlib.Omega.{arith}
use Rattle.flow.proofs.Renewed.{made_none, made_more}
use Rattle.flow.proofs.rows.all_rows.Goals as goal

pub loop-k-init : goal.loop-k-init
loop-k-init c = made_none _ (omega arith)

pub loop-k-preserved : goal.loop-k-preserved
loop-k-preserved c =
    let e = rw c.known.ensures at c.block_rows.ensures in
    made_more (omega arith) (omega arith) c.loop-k.invariant e.rows e.only_rows e.writers
