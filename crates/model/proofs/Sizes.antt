-- The bounds that no short list shows, as laws of any picture of that size: those of cause 1, the budget, and a chain's 800.
-- Assumes nothing.
use mathlib.Core.Path.{◌≡◌}
use mathlib.Core.Bool.{Bool, true, false, ◌&&◌, or-true, and-false}
use mathlib.Core.List.{List, ◌∷◌}
use Prim.Native.Nat.{ℕ, ◌-◌, ◌*◌}
use lib.Dec.{eqb, leb}
use lib.ListN.{length, drop}
use Rattle.words.specs.Lists.{any}
use Rattle.model.specs.Kinds.{Cat}
use Rattle.model.specs.Picture.{Picture, is_kind, form, nblocks, size}
use Rattle.model.specs.Refusal.{too_large, causes, refusal, lowest, all_code}
use Rattle.model.specs.Move.{Chain, chain_places, replays, worth_a_look}
use Rattle.model.specs.Pass.{gated}

-- ---- cause 1: one more of anything is too large, whatever else is so; and what is too large is refused with 1

first : (b : Bool) (cs : List Bool) → b ≡ true → lowest 1 (b ∷ cs) ≡ 1
first b cs h = rw h

pub large_is_refused : (P : Picture) (w64 w32 nf : ℕ) → too_large P ≡ true → refusal P w64 w32 nf ≡ 1
large_is_refused P w64 w32 nf h = first (too_large P) (drop 1 (causes P w64 w32 nf)) h

module _ (P : Picture) where
  pub blocks_4097 : nblocks P ≡ 4097 → too_large P ≡ true
  blocks_4097 h = rw h

  pub instructions_32769 : length P.locs ≡ 32769 → too_large P ≡ true
  instructions_32769 h = rw (h, or-true)

  pub registers_65537 : length P.types ≡ 65537 → too_large P ≡ true
  registers_65537 h = rw (h, or-true)

  pub operands_131073 : length P.ops ≡ 131073 → too_large P ≡ true
  operands_131073 h = rw (h, or-true)

  pub pair_words_65537 : length P.pairs ≡ 65537 → too_large P ≡ true
  pair_words_65537 h = rw (h, or-true)

  pub target_words_65537 : length P.targets ≡ 65537 → too_large P ≡ true
  target_words_65537 h = rw (h, or-true)

-- as many as may be of everything, all in use
pub record Full (P : Picture) : Type 0 where
  pub blocks : nblocks P ≡ 4096
  pub insts : length P.locs ≡ 32768
  pub types : length P.types ≡ 65536
  pub ops : length P.ops ≡ 131072
  pub pairs : length P.pairs ≡ 65536
  pub targets : length P.targets ≡ 65536
  pub regs : P.regs ≡ 65536
  pub opers : P.opers ≡ 131072

pub full_is_not_large : (P : Picture) → Full P → too_large P ≡ false
full_is_not_large P f = rw (f.blocks, f.insts, f.types, f.ops, f.pairs, f.targets, f.regs, f.opers)

-- ---- the budget: registers in use, times blocks, where there are blocks and a Cat of form 0

module _ (P : Picture) (some_blocks : eqb (nblocks P) 0 ≡ false) (some_cat : any (λ i. is_kind Cat i && eqb (form i) 0) (all_code P) ≡ true) where
  pub budget_kept : P.regs * nblocks P ≡ 2097152 → gated P ≡ false
  budget_kept h = rw (some_blocks, some_cat, h)

  pub budget_passed : P.regs * nblocks P ≡ 2097153 → gated P ≡ true
  budget_passed h = rw (some_blocks, some_cat, h)

-- ---- the chain: 800 positions, and one more

module _ (P : Picture) (x : ℕ) (c : Chain) where
  pub chain_of_800 : replays P c ≡ true → leb 3 (size P x - 1) ≡ true → length (chain_places P c.blocks) ≡ 800 → worth_a_look P x c ≡ true
  chain_of_800 r s h = rw (r, s, h)

  pub chain_of_801 : length (chain_places P c.blocks) ≡ 801 → worth_a_look P x c ≡ false
  chain_of_801 h = rw (h, and-false)
