-- 01, "A round": one round by itself. Assumes nothing.
use Rattle.std.specs.Prelude.{◌≡◌, List, ℕ, length}
use Rattle.model.specs.Picture.{Picture}
use Rattle.model.specs.Refusal.{refusal, records}
use Rattle.model.specs.Analyse.{Facts}
use Rattle.apply.specs.Apply.{Holds}
use Rattle.sizes.specs.declared.Sizes.{Sizes}
use Rattle.sizes.specs.Parts.{sizes_of}
use Rattle.chainwords.specs.Work.{Begun}
use Rattle.oneround.specs.declared.weigh.Step.{Step}
use Rattle.oneround.specs.Make.{IsNext}

-- the picture P, of sizes s, is accepted, and the work slices hold what a call began with
pub record Open (P : Picture) (s : Sizes) (work64 work32 : List ℕ) : Type 0 where
  pub accepted : refusal P (length work64) (length work32) records ≡ 0
  pub sizes_are : s ≡ sizes_of P
  pub G : Facts
  pub begun : Begun P G work64 work32

-- the slices and the work slices after it, by the facts G that they held
pub record Stepped (P : Picture) (work64 work32 : List ℕ) (r : Step) (bounds recs locs vias types ops work64' work32' : List ℕ) : Type 0 where
  pub size64 : length work64' ≡ length work64
  pub size32 : length work32' ≡ length work32
  pub is : (G : Facts) → Begun P G work64 work32 → IsNext P r (λ Q. Holds Q bounds recs locs vias types ops × Begun Q G work64' work32') G
