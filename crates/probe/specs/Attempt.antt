-- 01, "A round": the move from one block x of a picture, as a first round finds it, and what the search leaves. Assumes nothing.
use Rattle.std.specs.Prelude.{◌≡◌, true, false, List, ℕ, zero, suc, ◌+◌, ◌-◌, ◌≤◌, ◌<◌, ltb, length, Option, Some, None, Result, Ok, Err}
use Rattle.words.specs.Lists.{count}
use Rattle.model.specs.Picture.{Picture, nblocks, size}
use Rattle.model.specs.Refusal.{refusal}
use Rattle.model.specs.Analyse.{facts}
use Rattle.model.specs.Move.{Plan, try_block}
use Rattle.apply.specs.Apply.{Stands}
use Rattle.facts.specs.declared.Fact.{Fact}
use Rattle.inst.specs.declared.index.BlockId.{BlockId}
use Rattle.sizes.specs.declared.Room.{Room}
use Rattle.sizes.specs.declared.Sizes.{Sizes}
use Rattle.sizes.specs.Parts.{sizes_of}
use Rattle.apply.specs.declared.moves.Move.{Move}
use Rattle.chainwords.specs.Work.{Shown, Held, chain_words}
use Rattle.search.specs.declared.find.Look.{Look}
use Rattle.search.specs.Search.{IsLooked}
use Rattle.trial.specs.Trial.{IsTried}
use Rattle.cfg.specs.declared.body.Body.{Body}
use Rattle.probe.specs.declared.attempt.Asked.{Asked}
use Rattle.probe.specs.Heads.{with_four}

-- ---- the number and the words that are given

-- of an answer of the search: 1 if there is a move, and its target, positions in x but for its last, positions of the chain, members
abbrev pub move_number : Option Move → ℕ
move_number (Some mv) = 1
move_number None = 0

abbrev pub with_move : List ℕ → Option Move → List ℕ
with_move out (Some mv) = with_four out mv.into.0 mv.inside mv.places mv.moved
with_move out None = out

-- of `model`'s plan
abbrev pub plan_number : Option Plan → ℕ
plan_number (Some a) = 1
plan_number None = 0

abbrev pub with_plan : List ℕ → ℕ → Option Plan → List ℕ
with_plan out n (Some a) = with_four out a.into n (length a.run) (count a.set)
with_plan out n None = out

-- of the picture with work slices of these lengths and so many records: 200 and the number of a refusal; 300 where x is no block
abbrev pub attempt : Picture → ℕ → ℕ → ℕ → ℕ → ℕ
attempt P w64 w32 nf x =
    elim (refusal P w64 w32 nf) [
      | suc n ↦ 200 + suc n
      | zero ↦ elim (ltb x (nblocks P)) [ true ↦ plan_number (try_block P (facts P) x) | false ↦ 300 ]
    ]

abbrev pub with_attempt : List ℕ → Picture → ℕ → ℕ → ℕ → ℕ → List ℕ
with_attempt out P w64 w32 nf x =
    elim (refusal P w64 w32 nf) [
      | suc n ↦ out
      | zero ↦ elim (ltb x (nblocks P)) [ true ↦ with_plan out (size P x - 1) (try_block P (facts P) x) | false ↦ out ]
    ]

-- ---- what is left

-- the work slices keep their lengths; where nothing was sought, their contents; of a move the chain's words stand for the plan
pub record Left (P : Picture) (x nf : ℕ) (work64 work32 work64' work32' : List ℕ) : Type 0 where
  pub size64 : length work64' ≡ length work64
  pub size32 : length work32' ≡ length work32
  pub kept : (refusal P (length work64) (length work32) nf ≡ 0 → x < nblocks P → ⊥) → (work64' ≡ work64) × (work32' ≡ work32)
  pub stands : (a : Plan) → refusal P (length work64) (length work32) nf ≡ 0 → x < nblocks P → try_block P (facts P) x ≡ Some a
      → Stands P a (size P x - 1) (length a.run) (chain_words work32')

-- so does the list of records, but for what it then holds
pub record Listed (P : Picture) (x w64 w32 : ℕ) (facts facts' : List Fact) : Type 0 where
  pub size : length facts' ≡ length facts
  pub kept : (refusal P w64 w32 (length facts) ≡ 0 → x < nblocks P → ⊥) → facts' ≡ facts

-- ---- before the chain is tried

-- why nothing is sought from block x, with the answer n: the picture is refused, or x is no block
pub data Stopped (P : Picture) (w64 w32 nf x n : ℕ) : Type 0 where
  refused : (refusal P w64 w32 nf ≡ 0 → ⊥) → n ≡ 200 + refusal P w64 w32 nf → Stopped P w64 w32 nf x n
  no_block : refusal P w64 w32 nf ≡ 0 → nblocks P ≤ x → n ≡ 300 → Stopped P w64 w32 nf x n

-- x is block b of an accepted picture, and s its sizes
pub record Taken (P : Picture) (w64 w32 nf x : ℕ) (s : Sizes) (b : BlockId) : Type 0 where
  pub accepted : refusal P w64 w32 nf ≡ 0
  pub is_block : x < nblocks P
  pub block_is : b.0 ≡ x
  pub sizes_are : s ≡ sizes_of P

abbrev pub IsJudged : Picture → Room → ℕ → Result Asked ℕ → Type 0
IsJudged P r x (Ok a) = Taken P r.w64 r.w32 r.records x a.sizes a.block
IsJudged P r x (Err n) = Stopped P r.w64 r.w32 r.records x n

pub record Judges (P : Picture) (r : Room) (x : ℕ) (j : Result Asked ℕ) : Type 0 where
  pub is : IsJudged P r x j

-- ---- the search

-- P is a picture that this body shows
abbrev pub ShownIn : Picture → Body → ℕ → ℕ → Type 0
ShownIn P b w64 w32 = Shown P b.func.bounds.now b.func.recs.now b.ops.now b.func.pairs.now b.func.targets.now b.replay.now b.sizes w64 w32

-- there is such a picture, an accepted one, and x is one of its blocks
pub record Asking (b : Body) (w64 w32 x : ℕ) : Type 0 where
  pub P : Picture
  pub shown : ShownIn P b w64 w32
  pub is_block : x < nblocks P

-- of every such picture: the work slices hold what a round needs, and o is the chain from block x, or it has no move
pub record Seen (b : Body) (work64 work32 work64' work32' : List ℕ) (x : ℕ) (o : Option Look) : Type 0 where
  pub size64 : length work64' ≡ length work64
  pub size32 : length work32' ≡ length work32
  pub held : (P : Picture) → ShownIn P b (length work64) (length work32) → Held P (facts P) work64' work32'
  pub is : (P : Picture) → ShownIn P b (length work64) (length work32) → IsLooked P x o

-- r is the move from block x, and the chain's words stand for it
pub record Tried (b : Body) (work64 work32 work64' work32' : List ℕ) (x : ℕ) (r : Option Move) : Type 0 where
  pub size64 : length work64' ≡ length work64
  pub size32 : length work32' ≡ length work32
  pub is : (P : Picture) → ShownIn P b (length work64) (length work32) → IsTried P (facts P) x r (chain_words work32')
