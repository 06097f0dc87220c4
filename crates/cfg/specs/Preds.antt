-- Predecessors in two words a block (01, "A round": "has not exactly one predecessor", "sole predecessor"; request 2026-02: the start of
-- the function is one of block 0): how many there are, up to two, and the first. Assumes nothing.
use Rattle.std.specs.Prelude.{◌≡◌, not, cond, ◌&&◌, List, [], ◌∷◌, ℕ, zero, suc, ◌+◌, ◌*◌, ◌<◌, eqb, get_or, set}
use Rattle.model.specs.Picture.{Picture, nblocks, callers}
use Rattle.words.specs.Steps.{steps}

-- 0 none, 1 one, 2 more
abbrev pub many : List ℕ → ℕ
many [] = 0
many (x ∷ []) = 1
many (x ∷ y ∷ l) = 2

abbrev pub first : List ℕ → ℕ
first [] = 0
first (x ∷ l) = x

-- block b's two words say so of the list
pub record Told (words : List ℕ) (b : ℕ) (ps : List ℕ) : Type 0 where
  pub count : get_or words (2 * b) 0 ≡ many ps
  pub which : get_or words (2 * b + 1) 0 ≡ first ps

pub record Preds (P : Picture) (words : List ℕ) : Type 0 where
  pub told : (b : ℕ) → b < nblocks P → Told words b (callers P b)

-- ---- how they are found: the two words k, p of a block that c goes to

abbrev pub count_after : ℕ → ℕ → ℕ → ℕ
count_after k p c = cond (eqb k 0) 1 (cond (eqb k 1 && not (eqb p c)) 2 k)

abbrev pub which_after : ℕ → ℕ → ℕ → ℕ
which_after k p c = cond (eqb k 0) c p

unfoldable pub noted : ℕ → List ℕ → ℕ → List ℕ
noted c ws b =
    set (set ws (2 * b) (count_after (get_or ws (2 * b) 0) (get_or ws (2 * b + 1) 0) c)) (2 * b + 1) (which_after (get_or ws (2 * b) 0) (get_or ws (2 * b + 1) 0) c)

-- the successors of blocks 0 to c - 1, given as lists
unfoldable pub all_noted : (ℕ → List ℕ) → List ℕ → ℕ → List ℕ
all_noted succ ws zero = ws
all_noted succ ws (suc c) = steps (noted c) (all_noted succ ws c) (succ c)
