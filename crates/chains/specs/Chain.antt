-- 01, "A round": a chain as a struct of six block numbers and a count, and what the words of blocks and predecessors stand
-- for. Assumes nothing.
use Rattle.std.specs.Prelude.{◌≡◌, List, [], ◌∷◌, ℕ, ◌+◌, ◌*◌, ◌-◌, ◌≤◌, ◌<◌, true, false, eqb, get_or, length, map, Option, Some, None}
use Rattle.words.specs.Lists.{upto}
use Rattle.model.specs.Picture.{Picture, inst, End, goes, parts, cases, stops, end_of, ending, callers}
use Rattle.model.specs.Move as M
use Rattle.model.specs.Move.{chain, chain_from}
use Rattle.inst.specs.Record.{word}
use Rattle.chains.specs.declared.chain.Chain.{Chain}
use Rattle.chains.specs.declared.chain.Ending.{Ending}
use Rattle.chains.specs.declared.chain.Ending.TheVariants.{Goes, Parts, Stops}

-- ---- the struct

-- its blocks, as many as are in use, and the last of them
abbrev pub block_at : Chain → ℕ → ℕ
block_at c k = (get_or c.blocks k (record { 0 = 0 })).0

unfoldable pub blocks_of : Chain → List ℕ
blocks_of c = map (block_at c) (upto c.count)

unfoldable pub last_of : Chain → ℕ
last_of c = get_or (blocks_of c) (c.count - 1) 0

-- at least one block, at most six
pub record Few (c : Chain) : Type 0 where
  pub least : 1 ≤ c.count
  pub most : c.count ≤ 6

-- and each is a block
pub record Sound (c : Chain) (B : ℕ) : Type 0 where
  pub few : Few c
  pub each : (k : ℕ) → k < c.count → get_or (blocks_of c) k 0 < B

abbrev pub SoundOf : Option Chain → ℕ → Type 0
SoundOf (Some c) B = Sound c B
SoundOf None B = Unit {0}

-- ---- what it stands for

-- the chain that c stands for
abbrev pub chain_in : Chain → M.Chain
chain_in c = record { blocks = blocks_of c; last = last_of c; t = c.t.0; f = c.f.0 }

-- a chain of these blocks that goes to t or f
unfoldable pub ended : Chain → ℕ → ℕ → Option M.Chain
ended c t f = Some (record { blocks = blocks_of c; last = last_of c; t = t; f = f })

unfoldable pub chain_of : Option Chain → Option M.Chain
chain_of (Some c) = ended c c.t.0 c.f.0
chain_of None = None

-- what the search finds from there on
unfoldable pub rest : Picture → Option Chain → Option M.Chain
rest P (Some c) = chain_from P (6 - c.count) (blocks_of c) (last_of c)
rest P None = None

-- ---- a block's end

unfoldable pub ending_of : End → Ending
ending_of (goes t) = Goes t
ending_of (parts t f) = Parts t f
ending_of (cases c) = Stops
ending_of stops = Stops

-- as `model` has it, of the bounds and records alone
abbrev pub end_in : List ℕ → List ℕ → ℕ → End
end_in bounds recs b =
    let e = get_or bounds (2 * b + 1) 0 in
    elim (eqb (e - get_or bounds (2 * b) 0) 0) [ true ↦ stops | false ↦ end_of (inst recs (e - 1)) ]

-- ---- what acceptance gives

-- block b's bounds are there, and its records, and the kind of the last is one
pub record Block (bounds recs : List ℕ) (b : ℕ) : Type 0 where
  pub pair : 2 * b + 2 ≤ length bounds
  pub whole : 16 * get_or bounds (2 * b + 1) 0 ≤ length recs
  pub kind : get_or bounds (2 * b) 0 < get_or bounds (2 * b + 1) 0 → word recs (get_or bounds (2 * b + 1) 0 - 1) 0 < 101

-- of all B blocks, which go to blocks
pub record Blocks (bounds recs : List ℕ) (B : ℕ) : Type 0 where
  pub block : (b : ℕ) → b < B → Block bounds recs b
  pub goes_in : (b t : ℕ) → b < B → end_in bounds recs b ≡ goes t → t < B
  pub parts_in : (b t f : ℕ) → b < B → end_in bounds recs b ≡ parts t f → (t < B) × (f < B)

-- two words a block: how many predecessors, the start of the function among those of block 0, 2 for more than one; and the one, if it
-- is one
pub record Preds (P : Picture) (words : List ℕ) (B : ℕ) : Type 0 where
  pub count : (b : ℕ) → b < B → eqb (get_or words (2 * b) 0) 1 ≡ eqb (length (callers P b)) 1
  pub sole : (b : ℕ) → b < B → length (callers P b) ≡ 1 → callers P b ≡ get_or words (2 * b + 1) 0 ∷ []

-- the picture that is lent
pub record Shown (P : Picture) (bounds recs words : List ℕ) (B : ℕ) : Type 0 where
  pub bounds_are : P.bounds ≡ bounds
  pub recs_are : P.recs ≡ recs
  pub preds_are : Preds P words B

-- ---- what the search answers

abbrev pub IsGrown : Chain → Option Chain → Type 0
IsGrown c (Some d) = d.count ≡ c.count + 1
IsGrown c None = Unit {0}

-- the chain c with block `to`, or none
pub record Next (c : Chain) (to : ℕ) (words : List ℕ) (B : ℕ) (r : Option Chain) : Type 0 where
  pub sound : SoundOf r B
  pub more : IsGrown c r
  pub goes_on : (P : Picture) → Preds P words B → ending P (last_of c) ≡ goes to → rest P r ≡ rest P (Some c)

-- the chain from block x
pub record Found (bounds recs words : List ℕ) (x B : ℕ) (r : Option Chain) : Type 0 where
  pub sound : SoundOf r B
  pub is : (P : Picture) → Shown P bounds recs words B → chain_of r ≡ chain P x
