-- 01, "two sorts of index that no sum or call confuses": what a number stands for, by its range test. Assumes nothing.
use Rattle.std.specs.Prelude.{Bool, true, false, ℕ, ◌≤◌, ◌<◌, ltb, List, [], ◌∷◌, Option, Some, None}
use Rattle.words.specs.Lists.{In}
use Rattle.model.specs.Picture.{absent}
use Rattle.inst.specs.declared.index.Reg.{Reg}
use Rattle.inst.specs.declared.index.BlockId.{BlockId}

abbrev pub pick : {A : Type 0} → Bool → A → Option A
pick true a = Some a
pick false a = None

unfoldable pub reg_of : ℕ → ℕ → Option Reg
reg_of n count = pick (ltb n count) (record { 0 = n })

unfoldable pub block_of : ℕ → ℕ → Option BlockId
block_of n count = pick (ltb n count) (record { 0 = n })

-- its number, or absent where there is none
abbrev pub word_of : Option Reg → ℕ
word_of (Some r) = r.0
word_of None = absent

-- one of count registers, if it is one
abbrev pub Among : ℕ → Option Reg → Type 0
Among count (Some r) = (r.0 < count) × (r.0 < absent)
Among count None = Unit {0}

-- the register, if it is one
abbrev pub one : Option Reg → List ℕ
one (Some r) = r.0 ∷ []
one None = []

-- each of the list is one of R registers, and absent is none
pub record Low (R : ℕ) (l : List ℕ) : Type 0 where
  pub few : R ≤ 65536
  pub each : (q : ℕ) → In q l → q < R
