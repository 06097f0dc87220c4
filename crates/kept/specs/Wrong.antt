-- Moves that are not lawful, and which part of the claim each breaks: on its walk each breaks one, by the test of specs/Shown, and
-- all else holds. proofs/Listing refutes them. In the last two, which request 2026-02 takes away, runs match none, so
-- that nothing they read is matched either. Assumes nothing.
use Rattle.std.specs.Prelude.{◌≡◌, refl, Bool, false, not, List, [], ◌∷◌, ◌++◌, map, ℕ, get_or, replicate}
use Rattle.words.specs.Lists.{upto, all, filter}
use Rattle.model.specs.Kinds.{TakeBounds}
use Rattle.model.specs.Picture.{Picture, Inst}
use Rattle.model.specs.Build.{op, Room, shows}
use Rattle.model.specs.Marked.{konst, cmp, cat, branch, jump, output, ret, lent, nine}
use Rattle.kept.specs.Shown.{runs_of, reads_well, alone, read_matched, follows}
use Rattle.kept.specs.Stood.{broken}

pub record Move : Type 0 where
  pub before : Picture
  pub then : Picture
  pub places : List ℕ
  pub walk : List ℕ

-- the old places, the walk, the code before and after, and what stands beside each
abbrev move : List ℕ → List ℕ → List (List Inst) → Room → List (List Inst) → Room → Move
move was w before m then n = record { before = lent before m []; then = shows then n [] was; places = was; walk = w }

-- nine registers, and a list of one operand
abbrev listed : ℕ → Room
listed r = record { types = replicate 9 0; registers = 9; ops = r ∷ []; operands = 1 }

-- three bounds, of which block 1 reads one
abbrev bounds : ℕ → List (List Inst)
bounds r = (op TakeBounds 0 (3 ∷ 4 ∷ 5 ∷ []) [] [] ∷ branch 1 2 ∷ []) ∷ (output r ∷ ret [] ∷ []) ∷ (ret [] ∷ []) ∷ []

-- a list of one operand behind two values
abbrev lists : List (List Inst)
lists = (konst 8 ∷ cmp 3 1 ∷ cmp 4 1 ∷ cat 0 2 1 ∷ ret [] ∷ []) ∷ []

-- r5 is read, and d written before
abbrev unwritten : ℕ → List (List Inst)
unwritten d = (konst 8 ∷ cmp d 1 ∷ output 5 ∷ ret [] ∷ []) ∷ []

-- three Cmps in block 1, and how it ends
abbrev three_then : Inst → List Inst
three_then i = cmp 3 1 ∷ cmp 4 3 ∷ cmp 5 4 ∷ i ∷ []

-- the same, sunk: registers 9 and 10 in turn
abbrev sunk_three : List Inst
sunk_three = cmp 9 1 ∷ cmp 10 9 ∷ cmp 9 10 ∷ []

abbrev pub moves : List Move
moves =
    -- into a loop: at the second turn of block 1 the Cmp runs again, and both its runs match one
    move (0 ∷ 2 ∷ 1 ∷ 3 ∷ 4 ∷ 5 ∷ []) (0 ∷ 1 ∷ 1 ∷ [])
    ((konst 8 ∷ cmp 3 1 ∷ branch 1 2 ∷ []) ∷ (output 3 ∷ branch 1 2 ∷ []) ∷ (ret [] ∷ []) ∷ []) (nine [])
    ((konst 8 ∷ branch 1 2 ∷ []) ∷ (cmp 9 1 ∷ output 9 ∷ branch 1 2 ∷ []) ∷ (ret [] ∷ []) ∷ []) (nine (0 ∷ []))
    -- another slot of the same run is read
    ∷ move (upto 5) (0 ∷ 1 ∷ []) (bounds 4) (nine []) (bounds 5) (nine [])
    -- another operand of a list
    ∷ move (upto 5) (0 ∷ []) lists (listed 3) lists (listed 4)
    -- a value where there was none
    ∷ move (upto 4) (0 ∷ []) (unwritten 3) (nine []) (unwritten 5) (nine [])
    -- and none where there was one
    ∷ move (upto 4) (0 ∷ []) (unwritten 5) (nine []) (unwritten 3) (nine [])
    -- as document 01 has them (request 2026-02): into block 0, where a walk begins, from block 1, which it has not visited; and past
    -- block 0, to block 2
    ∷ move (2 ∷ 3 ∷ 4 ∷ 0 ∷ 1 ∷ 5 ∷ 6 ∷ []) (0 ∷ [])
    ((output 5 ∷ jump 1 ∷ []) ∷ three_then (branch 0 2) ∷ (ret [] ∷ []) ∷ []) (nine [])
    ((sunk_three ++ output 9 ∷ jump 1 ∷ []) ∷ (branch 0 2 ∷ []) ∷ (ret [] ∷ []) ∷ []) (nine (0 ∷ 0 ∷ []))
    ∷ move (0 ∷ 4 ∷ 1 ∷ 2 ∷ 3 ∷ 5 ∷ 6 ∷ 7 ∷ []) (0 ∷ 2 ∷ [])
    ((branch 2 3 ∷ []) ∷ three_then (jump 0) ∷ (output 5 ∷ jump 1 ∷ []) ∷ (ret [] ∷ []) ∷ []) (nine [])
    ((branch 2 3 ∷ []) ∷ (jump 0 ∷ []) ∷ (sunk_three ++ output 9 ∷ jump 1 ∷ []) ∷ (ret [] ∷ []) ∷ []) (nine (0 ∷ 0 ∷ []))
    ∷ []

-- 0: each run after is matched, and its reads match; 1: no two match one; 2: what a matched run had read is matched
abbrev pub parts : Move → List Bool
parts m =
    let L = m.before in
    let Q = m.then in
    let us = runs_of Q m.walk in
    all (reads_well L Q m.places m.walk) us ∷ all (alone L Q m.places m.walk) us ∷ all (read_matched L Q m.places m.walk) us ∷ []

pub breaks : map (λ m. filter (λ k. not (get_or (parts m) k false)) (upto 3)) moves ≡ (1 ∷ []) ∷ (0 ∷ []) ∷ (0 ∷ []) ∷ (0 ∷ []) ∷ (0 ∷ []) ∷ (0 ∷ 2 ∷ []) ∷ (0 ∷ 2 ∷ []) ∷ []
breaks = refl

pub astray : map (λ m. follows m.before m.then m.places m.walk) moves ≡ replicate 7 false
astray = refl

-- in all of them each instruction stands exactly once
pub stand : map (λ m. broken m.before m.then m.places) moves ≡ replicate 7 []
stand = refl
