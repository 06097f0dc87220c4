-- The two lent work slices (01, "Port order and sizes"), as the search for a move uses them: each part, where `sizes` says it lies, and
-- what stands there. Assumes nothing.
use Rattle.std.specs.Prelude.{◌≡◌, List, ℕ, ◌+◌, ◌*◌, ◌≤◌, ◌<◌, length, take, drop}
use Rattle.model.specs.Picture.{Picture, nblocks}
use Rattle.model.specs.Refusal.{records, refusal}
use Rattle.model.specs.Analyse.{Facts}
use Rattle.flow.specs.Live.{Live, Rows}
use Rattle.chains.specs.Chain.{Preds}
use Rattle.regfacts.specs.Flags.{Seen}
use Rattle.sizes.specs.declared.Sizes.{Sizes}
use Rattle.words.specs.Bits.{width}

-- ---- where the parts lie

-- 64-bit: live-in and writes of each block, a row each; the row of registers needed elsewhere; what each block reads first, a row each;
-- from at_regs on a word a register lent (facts and last writer), then another (stamps, or new names)
abbrev pub at_needed : Picture → ℕ
at_needed P = nblocks P * width P.regs + nblocks P * width P.regs

abbrev pub at_regs : Picture → ℕ
at_regs P = 4 * nblocks P * width (length P.types)

abbrev pub at_stamps : Picture → ℕ
at_stamps P = at_regs P + length P.types

abbrev pub reg_words : Picture → List ℕ → List ℕ
reg_words P work64 = take (length P.types) (drop (at_regs P) work64)

-- 32-bit: ten words a position of the chain; a copy of the words of the registers in use; two words a block, its predecessors
abbrev pub chain_words : List ℕ → List ℕ
chain_words work32 = take 8000 work32

abbrev pub copied_words : Picture → List ℕ → List ℕ
copied_words P work32 = take P.regs (drop 8000 work32)

abbrev pub pred_words : Picture → List ℕ → List ℕ
pred_words P work32 = take (2 * nblocks P) (drop (8000 + length P.types) work32)

-- ---- what stands there

-- from the start of the call on: the facts on registers, the predecessors, and of each block what it reads first and what it writes
pub record Begun (P : Picture) (G : Facts) (work64 work32 : List ℕ) : Type 0 where
  pub seen : Seen G (length P.types) (reg_words P work64)
  pub known : length G ≤ P.regs
  pub preds : Preds P (pred_words P work32) (nblocks P)
  pub rows : (b : ℕ) → b < nblocks P → Rows P (width P.regs) b work64

-- in a round as well: live-in
pub record Held (P : Picture) (G : Facts) (work64 work32 : List ℕ) : Type 0 where
  pub begun : Begun P G work64 work32
  pub live : Live P (width P.regs) work64

-- ---- the picture that is lent

-- P is accepted with work slices of these lengths and records enough, these are its lists, and s its sizes
pub record Lists (P : Picture) (bounds recs ops : List ℕ) (s : Sizes) (w64 w32 : ℕ) : Type 0 where
  pub accepted : refusal P w64 w32 records ≡ 0
  pub bounds_are : bounds ≡ P.bounds
  pub recs_are : recs ≡ P.recs
  pub ops_are : ops ≡ P.ops
  pub blocks_are : s.blocks ≡ nblocks P
  pub insts_are : s.insts ≡ length P.locs
  pub regs_are : s.regs ≡ P.regs
  pub lent_are : s.lent ≡ length P.types

-- and its case tables
pub record Tabled (P : Picture) (pairs targets : List ℕ) : Type 0 where
  pub pairs_are : pairs ≡ P.pairs
  pub targets_are : targets ≡ P.targets

-- and replay
pub record Shown (P : Picture) (bounds recs ops pairs targets replay : List ℕ) (s : Sizes) (w64 w32 : ℕ) : Type 0 where
  pub lists : Lists P bounds recs ops s w64 w32
  pub tabled : Tabled P pairs targets
  pub replay_are : replay ≡ P.replay

-- there is such a picture, and the work slices hold what a round needs
pub record Given (bounds recs ops pairs targets replay : List ℕ) (s : Sizes) (work64 work32 : List ℕ) : Type 0 where
  pub P : Picture
  pub G : Facts
  pub shown : Shown P bounds recs ops pairs targets replay s (length work64) (length work32)
  pub held : Held P G work64 work32
