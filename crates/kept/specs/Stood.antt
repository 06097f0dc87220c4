-- `Once` of specs/Walk as a test, computed on small pictures: one answer for each of its clauses, in its order, and the number of each
-- clause that a wrong picture breaks. The test asks no more than the statement (proofs/Stood). Assumes nothing.
use Rattle.std.specs.Prelude.{◌≡◌, refl, Bool, true, false, not, ◌&&◌, List, [], ◌∷◌, map, ℕ, eqb, ltb, get_or, length}
use Rattle.words.specs.Lists.{◌implies◌, upto, all, filter, mem, same}
use Rattle.model.specs.Kinds.{Const, ConstF}
use Rattle.model.specs.Picture.{Picture, Inst, inst, nblocks, succs}
use Rattle.model.specs.Build.{op, shows}
use Rattle.model.specs.Marked.{konst, cat, jump, ret, lent, nine}
use Rattle.kept.specs.Walk.{after, bare, is_walk}
use Rattle.kept.specs.Shown.{twice}

-- ---- the test

abbrev pub same_answer : Bool → Bool → Bool
same_answer true b = b
same_answer false b = not b

-- the walks that are tried: the empty one, and the one of block 0 alone
abbrev pub shortest : List (List ℕ)
shortest = [] ∷ (0 ∷ []) ∷ []

-- at each position after
abbrev pub each : List ℕ → (ℕ → Bool) → Bool
each was f = all f (upto (length was))

module _ (L Q : Picture) (was : List ℕ) where
  abbrev pub as_many? : Bool
  as_many? = eqb (length was) (length L.locs) && eqb (length Q.locs) (length L.locs)

  abbrev pub old_place? : Bool
  old_place? = each was (λ p. ltb (get_or was p 0) (length L.locs))

  abbrev pub stands? : Bool
  stands? = all (λ o. mem o was) (upto (length L.locs))

  abbrev pub once? : Bool
  once? = each was (λ p. each was (λ q. eqb (get_or was p 0) (get_or was q 0) implies eqb p q))

  abbrev pub bare? : Bool
  bare? = each was (λ p. same (bare (inst Q.recs p)) (bare (inst L.recs (get_or was p 0))))

  abbrev pub loc? : Bool
  loc? = each was (λ p. eqb (get_or Q.locs p 0) (get_or L.locs (get_or was p 0) 0))

  abbrev pub via? : Bool
  via? = eqb (length Q.vias) (length L.vias) && each was (λ p. eqb (get_or Q.vias p 0) (get_or L.vias (get_or was p 0) 0))

  abbrev pub succs? : Bool
  succs? = all (λ b. same (succs Q b) (succs L b)) (upto (nblocks L))

  abbrev pub walks? : Bool
  walks? = all (λ w. same_answer (is_walk Q w) (is_walk L w)) shortest

  abbrev pub clauses : List Bool
  clauses = as_many? ∷ old_place? ∷ stands? ∷ once? ∷ bare? ∷ loc? ∷ via? ∷ succs? ∷ walks? ∷ []

  -- the clauses that do not hold, counted from 0
  abbrev pub broken : List ℕ
  broken = filter (λ k. not (get_or clauses k false)) (upto 9)

-- ---- what the pass leaves breaks none

pub right : map (λ k. broken twice (after twice k).now (after twice k).was) (upto 3) ≡ [] ∷ [] ∷ [] ∷ []
right = refl

-- ---- wrong pictures after

pub record Wrong : Type 0 where
  pub before : Picture
  pub then : Picture
  pub places : List ℕ

-- four instructions in two blocks
abbrev four : Picture
four = lent ((konst 8 ∷ cat 0 2 0 ∷ jump 1 ∷ []) ∷ (ret [] ∷ []) ∷ []) (nine []) []

-- the same code with other locs and vias
abbrev beside : Picture → List ℕ → List ℕ → Picture
beside P locs vias =
    record {
      bounds = P.bounds;
      recs = P.recs;
      locs = locs;
      vias = vias;
      types = P.types;
      regs = P.regs;
      ops = P.ops;
      opers = P.opers;
      pairs = P.pairs;
      targets = P.targets;
      replay = P.replay;
    }

abbrev wrong : Picture → Picture → List ℕ → Wrong
wrong L Q was = record { before = L; then = Q; places = was }

-- what stands at places 0, 1 and 3 is other code, and each has its own old place
abbrev other : Inst → Inst → Inst → Wrong
other a b c = wrong four (lent ((a ∷ b ∷ jump 1 ∷ []) ∷ (c ∷ []) ∷ []) (nine []) []) (upto 4)

abbrev pub wrongs : List Wrong
wrongs =
    -- an instruction more
    wrong (beside four (upto 4) []) (beside (lent ((konst 8 ∷ cat 0 2 0 ∷ jump 1 ∷ []) ∷ (ret [] ∷ ret [] ∷ []) ∷ []) (nine []) []) (upto 5) []) (upto 4)
    -- an old place that there is not
    ∷ wrong four four (0 ∷ 1 ∷ 2 ∷ 4 ∷ [])
    -- the Const twice, and the Cat lost
    ∷ wrong four (shows ((konst 8 ∷ konst 8 ∷ jump 1 ∷ []) ∷ (ret [] ∷ []) ∷ []) (nine []) [] (0 ∷ 0 ∷ 2 ∷ 3 ∷ [])) (0 ∷ 0 ∷ 2 ∷ 3 ∷ [])
    -- another kind, form, absent slot, list length, payload, and its last word
    ∷ other (op ConstF 0 (1 ∷ []) [] (8 ∷ [])) (cat 0 2 0) (ret [])
    ∷ other (konst 8) (cat 1 2 0) (ret [])
    ∷ other (konst 8) (cat 0 2 0) (ret (1 ∷ []))
    ∷ other (konst 8) (cat 0 2 1) (ret [])
    ∷ other (konst 9) (cat 0 2 0) (ret [])
    ∷ other (op Const 0 (1 ∷ []) [] (8 ∷ 0 ∷ 0 ∷ 0 ∷ 0 ∷ 0 ∷ 1 ∷ [])) (cat 0 2 0) (ret [])
    -- two locs exchanged; two vias; a via more
    ∷ wrong four (beside four (1 ∷ 0 ∷ 2 ∷ 3 ∷ []) (1 ∷ 2 ∷ 3 ∷ 4 ∷ [])) (upto 4)
    ∷ wrong four (beside four (upto 4) (2 ∷ 1 ∷ 3 ∷ 4 ∷ [])) (upto 4)
    ∷ wrong four (beside four (upto 4) (1 ∷ 2 ∷ 3 ∷ 4 ∷ 5 ∷ [])) (upto 4)
    -- the Br in the next block
    ∷ wrong four (lent ((konst 8 ∷ cat 0 2 0 ∷ []) ∷ (jump 1 ∷ ret [] ∷ []) ∷ []) (nine []) []) (upto 4)
    -- an empty block less
    ∷ wrong (lent ([] ∷ []) (nine []) []) (lent [] (nine []) []) []
    ∷ []

abbrev pub broken_by : Wrong → List ℕ
broken_by m = broken m.before m.then m.places

pub breaks : map broken_by wrongs
    ≡ (0 ∷ [])
    ∷ (1 ∷ 2 ∷ 4 ∷ 5 ∷ 6 ∷ [])
    ∷ (2 ∷ 3 ∷ [])
    ∷ (4 ∷ [])
    ∷ (4 ∷ [])
    ∷ (4 ∷ [])
    ∷ (4 ∷ [])
    ∷ (4 ∷ [])
    ∷ (4 ∷ [])
    ∷ (5 ∷ [])
    ∷ (6 ∷ [])
    ∷ (6 ∷ [])
    ∷ (7 ∷ [])
    ∷ (8 ∷ [])
    ∷ []
breaks = refl
