-- Blocks that lie end to end, as cause 3 tests it: each lies within the whole, they lie in turn, and their places are all places.
-- Assumes nothing.
use mathlib.Core.Path.{◌≡◌, sym, ap, ap₂, ◌∙◌, subst}
use mathlib.Core.Logic.{◌⊎◌, inl, inr, ⊎_elim}
use mathlib.Core.Bool.{Bool, true, false, not, ◌||◌, true≢false}
use mathlib.Core.List.{List, [], ◌∷◌, ◌++◌, map}
use Prim.Native.Nat.{ℕ, zero, suc, ◌+◌, ◌-◌, ◌*◌, ◌/◌, ◌≤◌, ◌<◌}
use native.Mathlib.Nat.{add-zero, not-suc-le-zero, le_trans, le_of_eq, sub-zero}
use native.Mathlib.Omega.{arith}
use lib.Dec.{eqb, ltb, eqb→eq, nltb→le}
use lib.ListN.{get_or, length, length-append, get_or-eq_default}
use borrow.Author.Tests.{le-ltb}
use Rattle.words.specs.Lists.{In, range, upto, concat, spans, mem}
use Rattle.words.proofs.Bools.{or_left, or_right, not_false_T, false_T, eqb_self, lt?}
use Rattle.words.proofs.Members.{in_range, in_filter, in_mem}
use Rattle.words.proofs.Lists.{range_append, made_next, map_ext}
use Rattle.model.specs.Picture.{Picture, inst, nblocks, starts, ends, size, places, End, stops, end_of, end_succs, succs, preds}
use Rattle.model.specs.Refusal.{gaps}

-- ---- the first block, and the rest

pub first_block : (at n s e : ℕ) (bs : List ℕ) → gaps at n (s ∷ e ∷ bs) ≡ false → (s ≡ at) × (s ≤ e) × (gaps e n bs ≡ false)
first_block at n s e bs g =
    let h = or_left (not (eqb s at) || ltb e s) (gaps e n bs) g in (
      eqb→eq s at (not_false_T (eqb s at) (or_left (not (eqb s at)) (ltb e s) h)),
      nltb→le e s (false_T (ltb e s) (or_right (not (eqb s at)) (ltb e s) h)),
      or_right (not (eqb s at) || ltb e s) (gaps e n bs) g,
    )

no_block : {C : Type 0} (b : ℕ) → b < 0 / 2 → C
no_block b h = absurd (omega arith)

two : (b : ℕ) → 2 * suc b ≡ suc (suc (2 * b))
two b = omega arith

two_one : (b : ℕ) → 2 * suc b + 1 ≡ suc (suc (2 * b + 1))
two_one b = omega arith

last_is : (at n : ℕ) → gaps at n [] ≡ false → at ≡ n
last_is at n g = eqb→eq at n (not_false_T (eqb at n) g)

-- ---- each lies within the whole, and after those before it

pub ordered : (at n : ℕ) (bs : List ℕ) → gaps at n bs ≡ false → at ≤ n
ordered at n [] g = le_of_eq (last_is at n g)
ordered at n (s ∷ []) g = absurd (true≢false g)
ordered at n (s ∷ e ∷ bs) g =
    let z = first_block at n s e bs g in
    let a = z.0 in
    let b = z.1 in
    let c = ordered e n bs z.2 in
    omega arith

pub block_fits : (at n : ℕ) (bs : List ℕ) → gaps at n bs ≡ false → (b : ℕ) → b < length bs / 2 → (get_or bs (2 * b) 0 ≤ get_or bs (2 * b + 1) 0) × (get_or bs (2 * b + 1) 0 ≤ n)
block_fits at n [] g b h = no_block b h
block_fits at n (s ∷ []) g b h = absurd (true≢false g)
block_fits at n (s ∷ e ∷ bs) g zero h = let z = first_block at n s e bs g in (z.1, ordered e n bs z.2)
block_fits at n (s ∷ e ∷ bs) g (suc b) h = rw (two_one b, two b) (block_fits e n bs (first_block at n s e bs g).2 b (omega arith))

start_from : (at n : ℕ) (bs : List ℕ) → gaps at n bs ≡ false → (b : ℕ) → b < length bs / 2 → at ≤ get_or bs (2 * b) 0
start_from at n [] g b h = no_block b h
start_from at n (s ∷ []) g b h = absurd (true≢false g)
start_from at n (s ∷ e ∷ bs) g zero h = le_of_eq (sym (first_block at n s e bs g).0)
start_from at n (s ∷ e ∷ bs) g (suc b) h =
    let z = first_block at n s e bs g in
    let a = z.0 in
    let c = z.1 in
    let k = start_from e n bs z.2 b (omega arith) in
    rw (two b) (le_trans (le_trans (omega arith) c) k)

pub in_turn : (at n : ℕ) (bs : List ℕ) → gaps at n bs ≡ false → (b c : ℕ) → b < c → c < length bs / 2 → get_or bs (2 * b + 1) 0 ≤ get_or bs (2 * c) 0
in_turn at n [] g b c l h = no_block c h
in_turn at n (s ∷ []) g b c l h = absurd (true≢false g)
in_turn at n (s ∷ e ∷ bs) g b zero l h = absurd (not-suc-le-zero l)
in_turn at n (s ∷ e ∷ bs) g zero (suc c) l h = rw (two c) (start_from e n bs (first_block at n s e bs g).2 c (omega arith))
in_turn at n (s ∷ e ∷ bs) g (suc b) (suc c) l h = rw (two_one b, two c) (in_turn e n bs (first_block at n s e bs g).2 b c (omega arith) (omega arith))

-- ---- every place lies in a block

pub covered : (at n : ℕ) (bs : List ℕ) → gaps at n bs ≡ false → (o : ℕ) → at ≤ o → o < n → (b : ℕ) × (b < length bs / 2) × (get_or bs (2 * b) 0 ≤ o) × (o < get_or bs (2 * b + 1) 0)
covered at n [] g o a h = absurd (omega (arith, last_is at n g))
covered at n (s ∷ []) g o a h = absurd (true≢false g)
covered at n (s ∷ e ∷ bs) g o a h = go (λ l. covered e n bs (first_block at n s e bs g).2 o l h) (lt? o e)
  where
    go : (e ≤ o → (b : ℕ) × (b < length bs / 2) × (get_or bs (2 * b) 0 ≤ o) × (o < get_or bs (2 * b + 1) 0)) → (o < e) ⊎ (e ≤ o)
        → (b : ℕ) × (b < length (s ∷ e ∷ bs) / 2) × (get_or (s ∷ e ∷ bs) (2 * b) 0 ≤ o) × (o < get_or (s ∷ e ∷ bs) (2 * b + 1) 0)
    go k (inl l) = (0, omega arith, (let z = (first_block at n s e bs g).0 in omega arith), l)
    go k (inr l) =
        let r = k l in
        let x = r.1 in
        (suc r.0, omega arith, rw (two r.0) r.2, rw (two_one r.0) r.3)

-- ---- and their places are all places

abbrev span : List ℕ → ℕ → List ℕ
span bs b = range (get_or bs (2 * b) 0) (get_or bs (2 * b + 1) 0 - get_or bs (2 * b) 0)

span_next : (s e : ℕ) (bs : List ℕ) (b : ℕ) → span (s ∷ e ∷ bs) (suc b) ≡ span bs b
span_next s e bs b = rw (two_one b, two b)

pub end_to_end : (at n : ℕ) (bs : List ℕ) → gaps at n bs ≡ false → concat (map (span bs) (upto (length bs / 2))) ≡ range at (n - at)
end_to_end at n [] g = ap (range at) (empty (last_is at n g))
  where
    empty : at ≡ n → zero ≡ n - at
    empty f = omega arith
end_to_end at n (s ∷ []) g = absurd (true≢false g)
end_to_end at n (s ∷ e ∷ bs) g =
    let z = first_block at n s e bs g in
    let a : s ≡ at = z.0 in
    let b : s ≤ e = z.1 in
    let c : e ≤ n = ordered e n bs z.2 in
    let k : length (s ∷ e ∷ bs) / 2 ≡ suc (length bs / 2) = omega arith in
    let from : e ≡ s + (e - s) = omega arith in
    let sums : (e - s) + (n - e) ≡ n - at = omega arith in
    ap (λ (m : ℕ). concat (map (span (s ∷ e ∷ bs)) (upto m))) k
    ∙ ap (λ (l : List (List ℕ)). range s (e - s) ++ concat l) (made_next (span (s ∷ e ∷ bs)) 0 (length bs / 2) ∙ map_ext (λ b. span (s ∷ e ∷ bs) (suc b)) (span bs) (span_next s e bs) (upto (length bs / 2)))
    ∙ ap (λ (l : List ℕ). range s (e - s) ++ l) (end_to_end e n bs z.2 ∙ ap (λ (m : ℕ). range m (n - e)) from)
    ∙ range_append s (e - s) (n - e) ∙ ap₂ range a sums

pub all_places : (P : Picture) → gaps 0 (length P.locs) P.bounds ≡ false → concat (map (places P) (upto (nblocks P))) ≡ upto (length P.locs)
all_places P g = end_to_end 0 (length P.locs) P.bounds g ∙ ap (range 0) (sub-zero (length P.locs))

-- ---- lists laid end to end

pub gaps_spans : (s n : ℕ) (cs : List (List ℕ)) → s + length (concat cs) ≡ n → gaps s n (spans s cs) ≡ false
gaps_spans s n [] e = ap (λ (k : ℕ). not (eqb s k)) (sym e ∙ add-zero s) ∙ ap not (eqb_self s)
gaps_spans s n (c ∷ cs) e =
    ap₂ (λ (x y : Bool). not x || y || gaps (s + length c) n (spans (s + length c) cs)) (eqb_self s) (le-ltb (s + length c) s (omega arith))
    ∙ gaps_spans (s + length c) n cs (omega (arith, length-append c (concat cs)))

-- ---- blocks past the last are empty

pub size_past : (P : Picture) (b : ℕ) → nblocks P ≤ b → size P b ≡ 0
size_past P b h = ap (λ (n : ℕ). n - starts P b) (get_or-eq_default P.bounds 0 (past (length P.bounds) h)) ∙ none_less (starts P b)
  where
    past : (n : ℕ) → n / 2 ≤ b → n ≤ 2 * b + 1
    past n h = omega arith

    none_less : (n : ℕ) → 0 - n ≡ 0
    none_less n = omega arith

pub places_past : (P : Picture) (b : ℕ) → nblocks P ≤ b → places P b ≡ []
places_past P b h = ap (range (starts P b)) (size_past P b h)

pub succs_past : (P : Picture) (b : ℕ) → nblocks P ≤ b → succs P b ≡ []
succs_past P b h = ap (λ (c : Bool). end_succs P (elim c as (λ z. End) [ true ↦ stops | false ↦ end_of (inst P.recs (ends P b - 1)) ])) (ap (λ (n : ℕ). eqb n 0) (size_past P b h))

-- a block of which c is a successor is among c's predecessors
pub is_pred : (P : Picture) (b c : ℕ) → In c (succs P b) → In b (preds P c)
is_pred P b c i =
    ⊎_elim (λ h. in_filter (λ y. mem c (succs P y)) b (upto (nblocks P)) (in_range b 0 (nblocks P) (omega arith) (omega arith)) (in_mem c (succs P b) i))
    (λ h. absurd (subst (In c) (succs_past P b h) i)) (lt? b (nblocks P))

-- the last place of a block that is not empty
pub last_place : (P : Picture) (b n : ℕ) → size P b ≡ suc n → (starts P b + n ≡ ends P b - 1) × In (ends P b - 1) (places P b)
last_place P b n e =
    let s = starts P b in
    let k : s + n ≡ ends P b - 1 = omega arith in
    (k, in_range (ends P b - 1) s (size P b) (omega arith) (omega arith))
