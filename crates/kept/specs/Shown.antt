-- The claim of specs/Walk as a test, computed on small pictures. The test is what the statement asks of the runs of one walk, no more
-- (proofs/Accord): a row that fails shows a statement that is false there. Assumes nothing.
use Rattle.std.specs.Prelude.{◌≡◌, refl, Bool, true, false, ◌&&◌, List, [], ◌∷◌, ◌++◌, map, ℕ, eqb, leb, get_or, length, replicate, Option, None, Some}
use Rattle.words.specs.Lists.{◌implies◌, range, upto, all, any, concat}
use Rattle.model.specs.Picture.{Picture, places}
use Rattle.model.specs.Analyse.{when_some, unless_some}
use Rattle.model.specs.Refusal.{records, refusal}
use Rattle.model.specs.Pass.{rounds, sink}
use Rattle.model.specs.Build.{Room}
use Rattle.model.specs.Marked.{konst, cmp, cat, branch, jump, output, ret, first, ends, lent, nine}
use Rattle.kept.specs.Walk.{after, is_walk, Run, Write, takes, is_run, match}

-- ---- the test

-- the runs of a walk
abbrev pub runs_of : Picture → List ℕ → List Run
runs_of P w = concat (map (λ n. map (λ p. record { turn = n; at = p }) (places P (get_or w n 0))) (upto (length w)))

abbrev pub same_run : Run → Run → Bool
same_run u v = eqb u.turn v.turn && eqb u.at v.at

module _ (L Q : Picture) (was w : List ℕ) where
  abbrev pub matches_it : Run → Run → Bool
  matches_it v u = when_some (same_run v) (match L was w u)

  abbrev pub write_matches : Option Write → Option Write → Bool
  write_matches None None = true
  write_matches None (Some v) = false
  write_matches (Some u) None = false
  write_matches (Some u) (Some v) = matches_it v.by u.by && eqb u.slot v.slot

  abbrev pub each_matches : List (Option Write) → List (Option Write) → Bool
  each_matches [] [] = true
  each_matches [] (y ∷ ys) = false
  each_matches (x ∷ xs) [] = false
  each_matches (x ∷ xs) (y ∷ ys) = write_matches x y && each_matches xs ys

  -- matched, and its reads match
  abbrev pub reads_well : Run → Bool
  reads_well u = when_some (λ v. is_run L w v && each_matches (takes Q w u) (takes L w v)) (match L was w u)

  -- no other run matches the same
  abbrev pub alone : Run → Bool
  alone u = all (λ u'. when_some (λ v. matches_it v u') (match L was w u) implies same_run u u') (runs_of Q w)

  -- what the run before had read is matched
  abbrev pub read_matched : Run → Bool
  read_matched u = when_some (λ v. all (unless_some (λ x. is_run L w x.by implies any (matches_it x.by) (runs_of Q w))) (takes L w v)) (match L was w u)

  abbrev pub follows : Bool
  follows = all reads_well (runs_of Q w) && all alone (runs_of Q w) && all read_matched (runs_of Q w)

-- ---- a row: a picture, a number of rounds, a walk

pub record Row : Type 0 where
  pub what : Picture
  pub rounds_done : ℕ
  pub walk : List ℕ

abbrev pub row : Picture → ℕ → List ℕ → Row
row P k w = record { what = P; rounds_done = k; walk = w }

-- demand 3's premises on it: accepted, k at most what the call says, a walk
abbrev pub premises : Row → Bool
premises r =
    let P = r.what in
    eqb (refusal P 1000 9000 records) 0 && leb r.rounds_done (rounds (sink P 1000 9000 records).answer) && is_walk P r.walk

abbrev pub claim : Row → Bool
claim r =
    let s = after r.what r.rounds_done in
    premises r implies follows r.what s.now s.was r.walk

-- ---- the pictures

-- 01's listing
abbrev pub listing : Picture
listing = lent (first 8 6 [] 1 2 ∷ ends) (nine []) []

-- a block that only lets the call past its gate
abbrev gate : List (List ℕ)
gate = cat 0 0 0 ∷ ret [] ∷ []

-- a loop through x and its target, block 2, with block 2 in replay; the second Cmp reads and writes r3
abbrev pub loop : Picture
loop = lent ((konst 8 ∷ jump 1 ∷ []) ∷ (cmp 3 1 ∷ cmp 3 3 ∷ cmp 4 3 ∷ branch 2 3 ∷ []) ∷ (output 4 ∷ jump 1 ∷ []) ∷ gate ∷ []) (nine []) (2 ∷ [])

-- a chain of two blocks, 0 and 1; what goes to block 2 in round 1 goes on to block 4 in round 2
abbrev two_rounds : Room → Picture
two_rounds m =
    lent ((konst 8 ∷ cmp 3 1 ∷ cmp 4 3 ∷ cmp 5 4 ∷ jump 1 ∷ []) ∷ (branch 2 3 ∷ []) ∷ (branch 4 5 ∷ []) ∷ gate ∷ (output 1 ∷ ret [] ∷ []) ∷ (ret [] ∷ []) ∷ []) m
    (2 ∷ 4 ∷ [])

abbrev pub twice : Picture
twice = two_rounds (nine [])

-- the same with a register too few for round 2
abbrev pub cramped : Picture
cramped = two_rounds (record { types = 0 ∷ 0 ∷ 1 ∷ replicate 6 0; registers = 12; ops = []; operands = 1 })

-- request 2026-02, block 0 as the head of a loop: it is x, and its target leads to it
abbrev pub entered : Picture
entered = lent ((konst 8 ∷ cmp 3 1 ∷ cmp 4 3 ∷ cmp 5 4 ∷ branch 1 2 ∷ []) ∷ (output 5 ∷ jump 0 ∷ []) ∷ gate ∷ []) (nine []) (1 ∷ [])

-- block 0 as x's branch t, which is no target; f is
abbrev pub aside : Picture
aside = lent ((konst 8 ∷ jump 1 ∷ []) ∷ (cmp 3 1 ∷ cmp 4 3 ∷ cmp 5 4 ∷ branch 0 2 ∷ []) ∷ gate ∷ []) (nine []) (0 ∷ [])

-- nine blocks; what goes to block 1 is read there, and the walk goes on
abbrev pub far : Picture
far =
    lent ((konst 8 ∷ cmp 3 1 ∷ cmp 4 3 ∷ cmp 5 4 ∷ branch 1 8 ∷ []) ∷ (output 5 ∷ jump 2 ∷ []) ∷ map (λ b. jump b ∷ []) (range 3 5) ++ (output 1 ∷ ret [] ∷ []) ∷ gate ∷ []) (nine [])
    (1 ∷ [])

-- eight places along it; nine in the loop
abbrev pub far_walk : List ℕ
far_walk = upto 8

abbrev pub loop_walk : List ℕ
loop_walk = 0 ∷ 1 ∷ 2 ∷ 1 ∷ 2 ∷ 1 ∷ 2 ∷ 1 ∷ 3 ∷ []

abbrev pub rows : List Row
rows =
    row listing 1 (0 ∷ 1 ∷ [])
    ∷ row listing 1 (0 ∷ 2 ∷ [])
    ∷ row loop 1 (0 ∷ 1 ∷ 2 ∷ 1 ∷ 2 ∷ [])
    ∷ row loop 1 (0 ∷ 1 ∷ 2 ∷ 1 ∷ 3 ∷ [])
    ∷ row twice 1 (0 ∷ 1 ∷ 2 ∷ 4 ∷ [])
    ∷ row twice 2 (0 ∷ 1 ∷ 2 ∷ 4 ∷ [])
    ∷ row twice 2 (0 ∷ 1 ∷ 2 ∷ 5 ∷ [])
    ∷ row cramped 1 (0 ∷ 1 ∷ 2 ∷ 4 ∷ [])
    ∷ row far 1 far_walk
    ∷ row loop 1 loop_walk
    -- block 0 has a predecessor
    ∷ row entered 1 (0 ∷ 1 ∷ 0 ∷ 1 ∷ 0 ∷ 2 ∷ [])
    ∷ row entered 1 (0 ∷ [])
    ∷ row aside 1 (0 ∷ 1 ∷ 0 ∷ 1 ∷ 2 ∷ [])
    ∷ row aside 1 (0 ∷ [])
    -- no walks: a step to a block that is no successor, and one that starts elsewhere
    ∷ row loop 1 (0 ∷ 2 ∷ [])
    ∷ row listing 1 (1 ∷ [])
    ∷ []

pub shown : map claim rows ≡ replicate 16 true
shown = refl

-- the premises of the last two do not hold, and there the claim would be false
pub met : map premises rows ≡ replicate 14 true ++ replicate 2 false
met = refl

pub needed : map (λ r. let s = after r.what r.rounds_done in follows r.what s.now s.was r.walk) rows ≡ replicate 14 true ++ replicate 2 false
needed = refl

-- ---- the instructions that move

pub moved : map (λ k. (after twice k).was) (upto 3)
    ≡ upto 12
    ∷ (0 ∷ 4 ∷ 5 ∷ 1 ∷ 2 ∷ 3 ∷ 6 ∷ 7 ∷ 8 ∷ 9 ∷ 10 ∷ 11 ∷ [])
    ∷ (0 ∷ 4 ∷ 5 ∷ 6 ∷ 7 ∷ 8 ∷ 1 ∷ 2 ∷ 3 ∷ 9 ∷ 10 ∷ 11 ∷ [])
    ∷ []
moved = refl
