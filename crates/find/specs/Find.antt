-- 01, "A round": the move of a round, `model`'s `round`: what the search for it answers. Assumes nothing.
use Rattle.std.specs.Prelude.{◌≡◌, List, ℕ, length, Option, Some, None}
use Rattle.model.specs.Picture.{Picture}
use Rattle.model.specs.Analyse.{Facts}
use Rattle.model.specs.Pass.{round}
use Rattle.sizes.specs.declared.Sizes.{Sizes}
use Rattle.apply.specs.declared.moves.Move.{Move}
use Rattle.chainwords.specs.Work.{Shown, Begun, chain_words}
use Rattle.trial.specs.Trial.{Found}

-- by the facts G, mv is the move of the round, the words of its chain stand for it, and the work slices hold what the call began with
pub record Sure (P : Picture) (G : Facts) (work64 work32 : List ℕ) (mv : Move) : Type 0 where
  pub begun : Begun P G work64 work32
  pub x : ℕ
  pub found : Found P G x mv (chain_words work32)
  pub first : round P G ≡ Some found.a

-- the round has no move
pub record Over (P : Picture) (G : Facts) (work64 work32 : List ℕ) : Type 0 where
  pub begun : Begun P G work64 work32
  pub none_is : round P G ≡ None

-- what it answers
abbrev pub IsAnswered : Picture → Facts → List ℕ → List ℕ → Option Move → Type 0
IsAnswered P G work64 work32 (Some mv) = Sure P G work64 work32 mv
IsAnswered P G work64 work32 None = Over P G work64 work32

-- there is an accepted picture whose lists these are, and the work slices hold what the call began with
pub record Finding (bounds recs ops pairs targets replay : List ℕ) (s : Sizes) (work64 work32 : List ℕ) : Type 0 where
  pub P : Picture
  pub G : Facts
  pub shown : Shown P bounds recs ops pairs targets replay s (length work64) (length work32)
  pub begun : Begun P G work64 work32

-- the work slices after: of every picture and facts that they were for
pub record Searched (bounds recs ops pairs targets replay : List ℕ) (s : Sizes) (work64 work32 work64' work32' : List ℕ) (r : Option Move) : Type 0 where
  pub size64 : length work64' ≡ length work64
  pub size32 : length work32' ≡ length work32
  pub is : (P : Picture) (G : Facts) → Shown P bounds recs ops pairs targets replay s (length work64) (length work32) → Begun P G work64 work32 → IsAnswered P G work64' work32' r
