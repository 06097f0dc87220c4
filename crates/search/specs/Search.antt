-- 01, "A round": what the call begins with, and the search for the next block whose chain is to be tried, of which `model`'s `first_plan`
-- is made. Assumes nothing.
use Rattle.std.specs.Prelude.{◌≡◌, List, ℕ, ◌≤◌, length, Option, Some, None}
use Rattle.words.specs.Lists.{upto}
use Rattle.model.specs.Picture.{Picture, nblocks}
use Rattle.model.specs.Refusal.{refusal, records}
use Rattle.model.specs.Analyse.{Facts, facts}
use Rattle.model.specs.Move.{try_block}
use Rattle.model.specs.Pass.{first_plan}
use Rattle.chains.specs.Chain.{Preds}
use Rattle.sizes.specs.declared.Sizes.{Sizes}
use Rattle.chainwords.specs.Work.{Shown, Begun, Held, pred_words}
use Rattle.worth.specs.Worth.{Chosen}
use Rattle.search.specs.declared.find.Look.{Look}

-- ---- the start of the call

-- there is an accepted picture whose lists and sizes these are
pub record Beginning (bounds recs ops pairs targets work64 work32 : List ℕ) (s : Sizes) : Type 0 where
  pub P : Picture
  pub accepted : refusal P (length work64) (length work32) records ≡ 0
  pub bounds_are : bounds ≡ P.bounds
  pub recs_are : recs ≡ P.recs
  pub ops_are : ops ≡ P.ops
  pub pairs_are : pairs ≡ P.pairs
  pub targets_are : targets ≡ P.targets
  pub blocks_are : s.blocks ≡ nblocks P
  pub lent_are : s.lent ≡ length P.types
  pub insts_are : s.insts ≡ length P.locs
  pub regs_are : s.regs ≡ P.regs

-- the work slices hold facts, predecessors and rows of every such picture
pub record Began (bounds recs ops pairs targets work64 work32 : List ℕ) (s : Sizes) (work64' work32' : List ℕ) : Type 0 where
  pub size64 : length work64' ≡ length work64
  pub size32 : length work32' ≡ length work32
  pub begun : (P : Picture) → refusal P (length work64) (length work32) records ≡ 0 → P.bounds ≡ bounds → P.recs ≡ recs → P.ops ≡ ops → P.pairs ≡ pairs
      → P.targets ≡ targets → length P.types ≡ s.lent → length P.locs ≡ s.insts → P.regs ≡ s.regs → Begun P (facts P) work64' work32'

-- ---- the search

-- there is an accepted picture whose lists these are, and the work slices hold what the call began with
pub record Looking (bounds recs pairs targets replay : List ℕ) (s : Sizes) (work64 work32 : List ℕ) : Type 0 where
  pub P : Picture
  pub G : Facts
  pub shown : Shown P bounds recs P.ops pairs targets replay s (length work64) (length work32)
  pub begun : Begun P G work64 work32

-- these lists are those of the accepted picture P that a search from a block reads, and the words hold the predecessors
pub record Sees (P : Picture) (bounds recs replay : List ℕ) (s : Sizes) (work32 : List ℕ) : Type 0 where
  pub w64 : ℕ
  pub shown : Shown P bounds recs P.ops P.pairs P.targets replay s w64 (length work32)
  pub preds : Preds P (pred_words P work32) (nblocks P)

pub record Seeking (bounds recs replay : List ℕ) (s : Sizes) (work32 : List ℕ) : Type 0 where
  pub P : Picture
  pub sees : Sees P bounds recs replay s work32

-- one block: its chain, or it has no move, whatever the facts are
abbrev pub IsLooked : Picture → ℕ → Option Look → Type 0
IsLooked P x (Some k) = (k.x.0 ≡ x) × Chosen P x k.c
IsLooked P x None = (G : Facts) → try_block P G x ≡ None

pub record Looked (bounds recs replay : List ℕ) (s : Sizes) (work32 : List ℕ) (x : ℕ) (r : Option Look) : Type 0 where
  pub is : (P : Picture) → Sees P bounds recs replay s work32 → IsLooked P x r

-- no block from a up to b has a move, whatever the facts are: if those before a have none, those before b have none
abbrev pub IsPassed : Picture → ℕ → ℕ → Type 0
IsPassed P a b = (G : Facts) → first_plan P G (upto a) ≡ None → first_plan P G (upto b) ≡ None

-- the first block from block `from` on
abbrev pub IsSought : Picture → ℕ → Option Look → Type 0
IsSought P from (Some k) = (from ≤ k.x.0) × IsPassed P from k.x.0 × Chosen P k.x.0 k.c
IsSought P from None = IsPassed P from (nblocks P)

pub record Sought (bounds recs replay : List ℕ) (s : Sizes) (work32 : List ℕ) (from : ℕ) (r : Option Look) : Type 0 where
  pub is : (P : Picture) → Sees P bounds recs replay s work32 → IsSought P from r

-- a round's first, with live-in anew
pub record Opened (bounds recs pairs targets replay : List ℕ) (s : Sizes) (work64 work32 work64' : List ℕ) (r : Option Look) : Type 0 where
  pub size64 : length work64' ≡ length work64
  pub held : (P : Picture) (G : Facts) → Shown P bounds recs P.ops pairs targets replay s (length work64) (length work32) → Begun P G work64 work32 → Held P G work64' work32
  pub is : (P : Picture) (G : Facts) → Shown P bounds recs P.ops pairs targets replay s (length work64) (length work32) → Begun P G work64 work32 → IsSought P 0 r
