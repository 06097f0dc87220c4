-- `flow::live::sweep` meets its contract. Assumes nothing.
use Prim.Native.Nat.{◌*◌}
use lib.ListN.{drop}
use Rattle.model.specs.Picture.{succs}
use Rattle.cfg.specs.Func.{blocks_of, drawn_of}
use Rattle.flow.specs.Progress.{Progress}
use Rattle.flow.proofs.Joins.{Blocks}
use Rattle.flow.proofs.Orders.{Taken}
use Rattle.flow.proofs.live.sweep.Given as goal

abbrev pub invariant-loop-k : goal.invariant-loop-k
invariant-loop-k l = let n = blocks_of l.func in Progress n l.w (drop (n * l.w) l.initial.bits) (Blocks (Taken l.order n l.k) l.w (succs (drawn_of l.func))) l.initial.bits l.bits l.changed
