-- `inst::written::change_written` meets its contract. Assumes nothing.
use Rattle.std.proofs.Common.{ℕ, ◌≡◌}
use Rattle.inst.specs.Written.{Makes}
use Rattle.inst.proofs.Writing.{Writing}
use Rattle.inst.proofs.written.change_written.Given as goal

abbrev pub invariant-loop-s : goal.invariant-loop-s
invariant-loop-s g l = (f : ℕ → ℕ) → Makes (goal.F-post g l.f) f → ((v : ℕ) → f (f v) ≡ f v) → Writing f l.slots.recs.now l.slots.p l.s l.initial.words l.words
