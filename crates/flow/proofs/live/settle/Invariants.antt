-- `flow::live::settle` meets its contract. Assumes nothing.
use mathlib.Core.Path.{◌≡◌}
use Prim.Native.Nat.{ℕ, ◌*◌, ◌<◌}
use lib.ListN.{drop}
use Rattle.cfg.specs.Succs.{left}
use Rattle.cfg.proofs.Each.{From}
use Rattle.flow.specs.Progress.{Among, Progress}
use Rattle.flow.proofs.live.settle.Given as goal

abbrev pub invariant-loop-s : goal.invariant-loop-s
invariant-loop-s l =
    let g = l.fn.grid in
    let ss = l.fn.succs.list.now in
    (k : ℕ) × From ss k (left l.s-iterator)
    × Progress g.blocks g.width (drop (g.blocks * g.width) l.initial.bits) (λ c x i. (c ≡ l.fn.b.0) × Among ss k x × (i < g.width)) l.initial.bits l.bits l.changed
