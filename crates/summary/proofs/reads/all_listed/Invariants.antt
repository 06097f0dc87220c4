-- `summary::reads::all_listed` meets its contract. Assumes nothing.
use mathlib.Core.Path.{◌≡◌}
use mathlib.Core.Bool.{Bool}
use Prim.Native.Nat.{ℕ}
use lib.ListN.{drop}
use Rattle.words.specs.Lists.{all}
use Rattle.summary.specs.Passes.{Tests}
use Rattle.summary.proofs.reads.all_listed.Given as goal

abbrev pub invariant-loop-r : goal.invariant-loop-r
invariant-loop-r g l = (t : ℕ → Bool) → Tests l.count (goal.F-post g l.test) t → all t l.list ≡ all t (drop l.r-index l.list)
