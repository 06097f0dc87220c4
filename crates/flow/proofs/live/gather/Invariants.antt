-- `flow::live::gather` meets its contract. Assumes nothing.
use mathlib.Core.Path.{◌≡◌}
use Prim.Native.Nat.{ℕ}
use lib.ListN.{drop}
use Rattle.cfg.specs.Succs.{left}
use Rattle.cfg.proofs.Each.{From}
use Rattle.flow.specs.Live.{gathered}
use Rattle.flow.proofs.live.gather.Given as goal

abbrev pub invariant-loop-s : goal.invariant-loop-s
invariant-loop-s l =
    let w = l.fn.grid.width in
    let ss = l.fn.succs.list.now in
    (k : ℕ) × From ss k (left l.s-iterator) × (gathered l.bits w l.i l.x (drop k ss) ≡ gathered l.bits w l.i 0 ss)
