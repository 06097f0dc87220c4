-- 01, "The move" of a round, made, with the rows of the blocks that it changed. Assumes nothing.
use Rattle.std.specs.Prelude.{◌≡◌, true, false, List, [], ℕ, ◌+◌, ◌*◌, ◌/◌, ◌≤◌, ◌<◌, get_or, length, None, Some}
use Rattle.model.specs.Picture.{Picture}
use Rattle.model.specs.Refusal.{refusal, records}
use Rattle.model.specs.Analyse.{Facts}
use Rattle.model.specs.Move.{Plan, apply}
use Rattle.model.specs.Pass as Pass
use Rattle.model.specs.Pass.{fits}
use Rattle.apply.specs.Apply.{Rest, picture, Holds}
use Rattle.cfg.specs.Drawn.{drawn}
use Rattle.flow.specs.Live.{Rows}
use Rattle.sizes.specs.declared.Sizes.{Sizes}
use Rattle.sizes.specs.Parts.{sizes_of}
use Rattle.chainwords.specs.Work.{Begun, chain_words}
use Rattle.oneround.specs.declared.weigh.Step.{Step}
use Rattle.oneround.specs.declared.weigh.Step.TheVariants.{Ends, Goes, Short}
use Rattle.oneround.specs.Weigh.{Says, IsPrepared}

-- ---- the rows

-- the rows of blocks from and into can be made anew: these are the lists of an accepted picture of so many registers in use
pub record Renewing (bounds recs ops work64 : List ℕ) (was regs from into : ℕ) : Type 0 where
  pub Q : Picture
  pub w32 : ℕ
  pub accepted : refusal Q (length work64) w32 records ≡ 0
  pub bounds_are : bounds ≡ Q.bounds
  pub recs_are : recs ≡ Q.recs
  pub ops_are : ops ≡ Q.ops
  pub regs_are : regs ≡ Q.regs
  pub was_few : was ≤ 65536
  pub from_block : from < length bounds / 2
  pub into_block : into < length bounds / 2

-- they were, with rows of w words, which were of v: each block's stand, if those of the other blocks stood where rows are as wide as
-- before; and nothing behind the rows changed
pub record Renewed (bounds recs ops work64 : List ℕ) (v w from into : ℕ) (work64' : List ℕ) : Type 0 where
  pub size : length work64' ≡ length work64
  pub behind : (i : ℕ) → 3 * (length bounds / 2) * w + w ≤ i → get_or work64' i 0 ≡ get_or work64 i 0
  pub rows : (b : ℕ) → b < length bounds / 2 → (w ≡ v → (b ≡ from → ⊥) → (b ≡ into → ⊥) → Rows (drawn bounds recs ops [] []) w b work64)
      → Rows (drawn bounds recs ops [] []) w b work64'

-- ---- the move

-- the picture after a round, by what it came to
abbrev pub IsNext : Picture → Step → (Picture → Type 0) → Facts → Type 0
IsNext P (Goes l) F G = (a : Plan) × (Pass.round P G ≡ Some a) × (fits P (apply P a) ≡ true) × Says P a l × F (apply P a)
IsNext P Short F G = (a : Plan) × (Pass.round P G ≡ Some a) × (fits P (apply P a) ≡ false) × F P
IsNext P Ends F G = (Pass.round P G ≡ None) × F P

-- there is an accepted picture of these lists and sizes, and facts by which the round comes to q
pub record Making (bounds recs locs vias types ops : List ℕ) (s : Sizes) (work64 work32 : List ℕ) (q : Step) : Type 0 where
  pub rest : Rest
  pub G : Facts
  pub accepted : refusal (picture bounds recs locs vias types s.regs ops s.opers rest) (length work64) (length work32) records ≡ 0
  pub sizes_are : s ≡ sizes_of (picture bounds recs locs vias types s.regs ops s.opers rest)
  pub begun : Begun (picture bounds recs locs vias types s.regs ops s.opers rest) G work64 work32
  pub is : IsPrepared (picture bounds recs locs vias types s.regs ops s.opers rest) G q (chain_words work32)

-- of every such picture and facts: the slices hold the picture after it, and the work slices what the call began with
pub record Made (bounds recs locs vias types ops : List ℕ) (s : Sizes) (work64 work32 : List ℕ) (q : Step) (bounds' recs' locs' vias' types' ops' work64' : List ℕ) : Type 0 where
  pub size64 : length work64' ≡ length work64
  pub is : (rest : Rest) (G : Facts) → refusal (picture bounds recs locs vias types s.regs ops s.opers rest) (length work64) (length work32) records ≡ 0
      → Begun (picture bounds recs locs vias types s.regs ops s.opers rest) G work64 work32 → IsPrepared (picture bounds recs locs vias types s.regs ops s.opers rest) G q (chain_words work32)
      → IsNext (picture bounds recs locs vias types s.regs ops s.opers rest) q (λ Q. Holds Q bounds' recs' locs' vias' types' ops' × Begun Q G work64' work32) G
