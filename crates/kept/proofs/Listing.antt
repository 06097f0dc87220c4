-- The theorem is not empty: at 01's listing, and at a picture with a chain of two blocks and two rounds, which move three instructions
-- twice, its premises hold and something moves; so they do at each stop between rounds, of nine blocks, and on walks of eight and nine
-- places; and moves that are not lawful do not follow. Assumes nothing.
use mathlib.Core.Path.{◌≡◌, refl}
use mathlib.Core.Bool.{true, false, not}
use mathlib.Core.List.{List, [], ◌∷◌, ◌++◌, map}
use Prim.Native.Nat.{ℕ, ◌≤◌}
use native.Mathlib.Omega.{arith}
use lib.Dec.{T}
use lib.ListN.{replicate}
use Rattle.words.specs.Lists.{In}
use Rattle.words.proofs.Bools.{T_false}
use Rattle.words.proofs.Members.{all_in}
use Rattle.model.specs.Picture.{Picture}
use Rattle.model.specs.Refusal.{records}
use Rattle.model.specs.Pass.{number, sink}
use Rattle.model.specs.Build.{shows}
use Rattle.model.specs.Marked.{konst, cmp, branch, output, ret, sunk, lent, nine, behind}
use Rattle.kept.specs.Walk.{after, is_walk, Follows, Keeps}
use Rattle.kept.specs.Shown.{listing, loop, twice, cramped, entered, aside, far, far_walk, loop_walk, runs_of, reads_well, follows}
use Rattle.kept.specs.Wrong.{Move, moves}
use Rattle.kept.proofs.Answer.{demand3}
use Rattle.kept.proofs.Accord.{refuted}

-- ---- what the theorem says of two pictures

pub listing_kept : Keeps listing (after listing 1).now (after listing 1).was
listing_kept = demand3 listing 1000 9000 records 1 refl (omega arith)

-- eight members stand behind the Const and the CondBr
pub listing_moved : (after listing 1).was ≡ 0 ∷ 9 ∷ 1 ∷ 2 ∷ 3 ∷ 4 ∷ 5 ∷ 6 ∷ 7 ∷ 8 ∷ 10 ∷ 11 ∷ 12 ∷ []
listing_moved = refl

pub twice_kept : (w : List ℕ) → T (is_walk twice w) → Follows twice (after twice 2).now (after twice 2).was w
twice_kept = (demand3 twice 1000 9000 records 2 refl (omega arith)).along

-- at each stop between rounds
pub twice_at : (k : ℕ) → k ≤ 2 → Keeps twice (after twice k).now (after twice k).was
twice_at k h = demand3 twice 1000 9000 records k refl h

-- of nine blocks, on a walk of eight places; and on one of nine places through a loop
pub far_kept : Follows far (after far 1).now (after far 1).was far_walk
far_kept = (demand3 far 1000 9000 records 1 refl (omega arith)).along far_walk tt

pub loop_kept : Follows loop (after loop 1).now (after loop 1).was loop_walk
loop_kept = (demand3 loop 1000 9000 records 1 refl (omega arith)).along loop_walk tt

-- where a block leads to block 0: on a walk that comes back to it, and on one that only begins in it
pub entered_kept : Keeps entered (after entered 1).now (after entered 1).was
entered_kept = demand3 entered 1000 9000 records 1 refl (omega arith)

pub aside_kept : Follows aside (after aside 1).now (after aside 1).was (0 ∷ [])
aside_kept = (demand3 aside 1000 9000 records 1 refl (omega arith)).along (0 ∷ []) tt

-- where the call ends Short
pub cramped_kept : Keeps cramped (after cramped 1).now (after cramped 1).was
cramped_kept = demand3 cramped 1000 9000 records 1 refl (omega arith)

-- Done after 1 and 2 rounds, Short after 1
pub answers : map (λ P. number (sink P 1000 9000 records).answer) (listing ∷ twice ∷ cramped ∷ []) ≡ 1 ∷ 2 ∷ 101 ∷ []
answers = refl

-- ---- what it shuts out

-- the listing's move, where the target's read of the message is not renamed
abbrev unrenamed : Picture
unrenamed = shows ((konst 8 ∷ branch 1 2 ∷ []) ∷ (sunk 6 ++ output 2 ∷ ret [] ∷ []) ∷ (ret [] ∷ []) ∷ []) (nine (1 ∷ 0 ∷ 0 ∷ [])) [] (behind 8 3)

pub unrenamed_refused : Follows listing unrenamed (after listing 1).was (0 ∷ 1 ∷ []) → ⊥
unrenamed_refused = refuted listing unrenamed (after listing 1).was (0 ∷ 1 ∷ []) refl

-- its reads alone do not match
pub unrenamed_read : map (reads_well listing unrenamed (after listing 1).was (0 ∷ 1 ∷ [])) (runs_of unrenamed (0 ∷ 1 ∷ [])) ≡ replicate 10 true ++ false ∷ true ∷ []
unrenamed_read = refl

-- a Cmp that reads r1 sinks below a kept Const that writes r1
abbrev written_again : Picture
written_again = lent ((konst 8 ∷ cmp 3 1 ∷ konst 8 ∷ branch 1 2 ∷ []) ∷ (output 3 ∷ ret [] ∷ []) ∷ (ret [] ∷ []) ∷ []) (nine []) []

abbrev sunk_below : Picture
sunk_below = lent ((konst 8 ∷ konst 8 ∷ branch 1 2 ∷ []) ∷ (cmp 9 1 ∷ output 9 ∷ ret [] ∷ []) ∷ (ret [] ∷ []) ∷ []) (nine (0 ∷ [])) []

pub sunk_below_refused : Follows written_again sunk_below (0 ∷ 2 ∷ 3 ∷ 1 ∷ 4 ∷ 5 ∷ 6 ∷ []) (0 ∷ 1 ∷ []) → ⊥
sunk_below_refused = refuted written_again sunk_below (0 ∷ 2 ∷ 3 ∷ 1 ∷ 4 ∷ 5 ∷ 6 ∷ []) (0 ∷ 1 ∷ []) refl

pub sunk_below_read : map (reads_well written_again sunk_below (0 ∷ 2 ∷ 3 ∷ 1 ∷ 4 ∷ 5 ∷ 6 ∷ []) (0 ∷ 1 ∷ [])) (runs_of sunk_below (0 ∷ 1 ∷ [])) ≡ true ∷ true ∷ true ∷ false ∷ true ∷ true ∷ []
sunk_below_read = refl

-- the moves of specs/Wrong
pub moves_refused : (m : Move) → In m moves → Follows m.before m.then m.places m.walk → ⊥
moves_refused m i =
    refuted m.before m.then m.places m.walk
    (T_false (follows m.before m.then m.places m.walk) (all_in (λ m. not (follows m.before m.then m.places m.walk)) m moves tt i))
