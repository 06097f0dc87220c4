-- 01, "The call": refusals and gates, before anything is tried. Assumes nothing.
use Rattle.std.specs.Prelude.{◌≡◌, false, List, ℕ}
use Rattle.std.specs.declared.ops.ControlFlow.{ControlFlow}
use Rattle.std.specs.declared.ops.ControlFlow.TheVariants.{Continue, Break}
use Rattle.model.specs.declared.Answer.{Answer}
use Rattle.model.specs.Picture.{Picture}
use Rattle.model.specs.Refusal.{refusal}
use Rattle.model.specs.Pass.{rounds, ends_in, gated, sink}
use Rattle.acceptance.specs.declared.lent.Lent.{Lent}
use Rattle.acceptance.specs.Lent.{picture}
use Rattle.sizes.specs.declared.Room.{Room}

-- the answer where no round is tried
abbrev pub IsJudged : Picture → ℕ → ℕ → ℕ → ControlFlow Answer (Unit {0}) → Type 0
IsJudged P w64 w32 nf (Break a) = (sink P w64 w32 nf ≡ ends_in a P) × (rounds a ≡ 0)
IsJudged P w64 w32 nf (Continue u) = (refusal P w64 w32 nf ≡ 0) × (gated P ≡ false)

-- replay does not matter
pub record Judged (lent : Lent) (room : Room) (r : ControlFlow Answer (Unit {0})) : Type 0 where
  pub is : (replay : List ℕ) → IsJudged (picture lent replay) room.w64 room.w32 room.records r
