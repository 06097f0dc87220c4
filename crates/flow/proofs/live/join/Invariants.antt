-- `flow::live::join` meets its contract. Assumes nothing.
use Prim.Native.Nat.{◌*◌, ◌<◌}
use mathlib.Core.Path.{◌≡◌}
use lib.ListN.{drop}
use Rattle.flow.specs.Progress.{Progress}
use Rattle.flow.proofs.live.join.Given as goal

abbrev pub invariant-loop-i : goal.invariant-loop-i
invariant-loop-i l = let g = l.fn.grid in Progress g.blocks g.width (drop (g.blocks * g.width) l.initial.bits) (λ c x j. (c ≡ l.fn.b.0) × (x ≡ l.fn.s.0) × (j < l.i)) l.initial.bits l.bits l.changed
