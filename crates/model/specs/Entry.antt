-- Request 2026-02, "The entry has a caller": the start of the function is one more predecessor of block 0 (`callers`, Picture). So block 0
-- begins a chain, and is no later part of one and no target; where no block leads to it, chains and targets are document 01's. The two
-- statements are shown in laws/proofs/Entry; that block 0 begins a chain is shown by rows. Assumes nothing.
use Rattle.std.specs.Prelude.{◌≡◌, refl, Bool, true, false, not, ◌&&◌, List, [], ◌∷◌, ◌++◌, map, ℕ, zero, suc, ◌<◌, eqb, get_or, length, Option, None, Some}
use Rattle.words.specs.Lists.{In, mem, same}
use Rattle.model.specs.Picture.{Picture, Inst, goes, parts, cases, stops, ending, preds}
use Rattle.model.specs.Move.{Chain, chain, is_target}
use Rattle.model.specs.Build.{shows}
use Rattle.model.specs.Marked.{Row, konst, cmp, branch, jump, output, lent, moves}
use Rattle.model.specs.Small.{Step, keep, wide, once, shown, other, three, three_to, returns, apart, replayed, answered, given}

-- ---- what it says

-- it can't be a later part of a chain, or be a target
pub record OnlyBegins : Type 0 where
  pub no_later_part : (P : Picture) (x k : ℕ) (c : Chain) → chain P x ≡ Some c → suc k < length c.blocks → get_or c.blocks (suc k) 0 ≡ 0 → ⊥
  pub no_target : (P : Picture) (x : ℕ) (c : Chain) → chain P x ≡ Some c → is_target P c 0 ≡ false

-- ---- as before

-- document 01's, by the predecessors alone: the chain from a block, and a target
abbrev pub chain_from_01 : Picture → ℕ → List ℕ → ℕ → Option Chain
chain_from_01 P zero bs cur =
    elim (ending P cur) [ goes to ↦ None | parts t f ↦ Some (record { blocks = bs; last = cur; t = t; f = f }) | cases c ↦ None | stops ↦ None ]
chain_from_01 P (suc k) bs cur =
    elim (ending P cur) [
      | goes to ↦ elim (eqb (length (preds P to)) 1 && not (mem to bs)) [ true ↦ chain_from_01 P k (bs ++ to ∷ []) to | false ↦ None ]
      | parts t f ↦ Some (record { blocks = bs; last = cur; t = t; f = f })
      | cases c ↦ None
      | stops ↦ None
    ]

abbrev pub is_target_01 : Picture → Chain → ℕ → Bool
is_target_01 P c into = not (mem into c.blocks) && same (preds P into) (c.last ∷ [])

-- where no block leads to block 0, each block has the chain that it had, and of the chain's two branches the same are targets
pub record AsBefore : Type 0 where
  pub same_chain : (P : Picture) → preds P 0 ≡ [] → (x : ℕ) → chain P x ≡ chain_from_01 P 5 (x ∷ []) x
  pub same_target : (P : Picture) → preds P 0 ≡ [] → (x b : ℕ) (c : Chain) → chain P x ≡ Some c → In b (c.t ∷ c.f ∷ []) → is_target P c b ≡ is_target_01 P c b

-- ---- rows

-- block 1, of which three Cmps could move, and its end
abbrev from_one : Inst → List Inst
from_one i = konst 8 ∷ three ++ i ∷ []

-- they go to block 2, though that is in replay as well as block 0
abbrev into_two : Inst → Row
into_two i =
    moves (lent (returns ∷ from_one i ∷ returns ∷ apart ∷ []) (wide 0) (0 ∷ 2 ∷ [])) ((1 ∷ 1 ∷ 2 ∷ 3 ∷ 10 ∷ 2 ∷ []) ∷ [])
    (shows (returns ∷ (konst 8 ∷ i ∷ []) ∷ (cmp 9 1 ∷ cmp 9 1 ∷ cmp 9 1 ∷ returns) ∷ apart ∷ []) (wide 1) (0 ∷ 2 ∷ []) (0 ∷ 1 ∷ 5 ∷ 2 ∷ 3 ∷ 4 ∷ 6 ∷ 7 ∷ 8 ∷ []))

-- block 0, of which they move, and its end
abbrev from_zero : Inst → List Step
from_zero i = keep (konst 8) ∷ three_to 9 ++ keep i ∷ []

abbrev pub entry_rows : List Row
entry_rows =
    -- no target, though its one predecessor is the chain's end: nothing moves; the other branch is taken, be block 0 t or f
    replayed (0 ∷ []) (shown 3 ∷ from_one (branch 0 2) ∷ other ∷ [])
    ∷ into_two (branch 0 2)
    ∷ into_two (branch 2 0)
    -- no later part of a chain, though it has one predecessor
    ∷ replayed (2 ∷ []) ((branch 2 3 ∷ []) ∷ from_one (jump 0) ∷ shown 3 ∷ apart ∷ [])
    -- a beginning: its target leads to it; it is its own other branch; a block that nothing reaches leads to it
    ∷ once 1 (from_zero (branch 1 2)) ((output 3 ∷ jump 0 ∷ []) ∷ other ∷ []) (output 9 ∷ jump 0 ∷ []) (other ∷ [])
    ∷ once 1 (from_zero (branch 1 0)) (shown 3 ∷ other ∷ []) (shown 9) (other ∷ [])
    ∷ once 1 (from_zero (branch 1 2)) (shown 3 ∷ other ∷ (jump 0 ∷ []) ∷ []) (shown 9) (other ∷ (jump 0 ∷ []) ∷ [])
    ∷ []

pub entry_cases : map answered entry_rows ≡ map given entry_rows
entry_cases = refl
