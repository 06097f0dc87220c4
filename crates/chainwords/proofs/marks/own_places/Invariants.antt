-- `chainwords::marks::own_places` meets its contract. Assumes nothing.
use mathlib.Core.Path.{◌≡◌}
use Prim.Native.Nat.{ℕ, ◌<◌}
use lib.ListN.{length, get_or}
use Rattle.chainwords.proofs.marks.own_places.Given as goal

abbrev pub invariant-loop-p : goal.invariant-loop-p
invariant-loop-p l = record { size : length l.lasts ≡ 800; own : (q : ℕ) → q < l.p → get_or l.lasts q 0 ≡ q }
