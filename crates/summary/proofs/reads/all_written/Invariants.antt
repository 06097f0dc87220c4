-- `summary::reads::all_written` meets its contract. Assumes nothing.
use mathlib.Core.Path.{◌≡◌}
use mathlib.Core.Bool.{Bool}
use Prim.Native.Nat.{ℕ}
use Rattle.words.specs.Lists.{all}
use Rattle.model.specs.Picture.{inst, writes}
use Rattle.inst.specs.Record.{rest_writes}
use Rattle.summary.specs.Passes.{Tests}
use Rattle.summary.proofs.reads.all_written.Given as goal

abbrev pub invariant-loop-s : goal.invariant-loop-s
invariant-loop-s g l = (t : ℕ → Bool) → Tests l.count (goal.F-post g l.test) t → all t (writes (inst l.slots.recs.now l.slots.p)) ≡ all t (rest_writes (inst l.slots.recs.now l.slots.p) l.s)
