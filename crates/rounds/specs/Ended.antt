-- 01, "The call": what the call gives and leaves at its end, by the outcome that `model` says; and the work slices then. Assumes nothing.
use Rattle.std.specs.Prelude.{◌≡◌, List, ◌++◌, ℕ, ◌*◌, ◌-◌, length, replicate}
use Rattle.words.specs.Lists.{concat}
use Rattle.model.specs.declared.Answer.{Answer}
use Rattle.model.specs.Pass.{Outcome, rounds}
use Rattle.apply.specs.Apply.{Holds}

-- the answer, the lines of its rounds, six words each, then zeros, and the six slices are those of the outcome o
pub record Did (o : Outcome) (answer : Answer) (lines bounds recs locs vias types ops : List ℕ) : Type 0 where
  pub answer_is : answer ≡ o.answer
  pub lines_are : lines ≡ concat o.lines ++ replicate (48 - 6 * rounds answer) 0
  pub holds : Holds o.left bounds recs locs vias types ops

-- the work slices keep their lengths, and where the picture is refused, by cause n, their contents
pub record Work (n : ℕ) (work64 work32 work64' work32' : List ℕ) : Type 0 where
  pub size64 : length work64' ≡ length work64
  pub size32 : length work32' ≡ length work32
  pub kept : (n ≡ 0 → ⊥) → (work64' ≡ work64) × (work32' ≡ work32)
