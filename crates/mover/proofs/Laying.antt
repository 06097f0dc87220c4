-- Blocks that lie end to end, by their lengths. Assumes nothing.
use mathlib.Core.Path.{◌≡◌, refl, sym, ap, ap₂, ◌∙◌}
use mathlib.Core.Bool.{false, not, ◌||◌, true≢false}
use mathlib.Core.List.{List, [], ◌∷◌, ◌++◌, map}
use Prim.Native.Nat.{ℕ, zero, suc, ◌+◌, ◌-◌, ◌*◌, ◌/◌, ◌≤◌, ◌<◌}
use native.Mathlib.Nat.{add-zero, zero-add, not-suc-le-zero, le_of_suc-le-suc}
use native.Mathlib.Omega.{arith}
use lib.Dec.{eqb, ltb, eqb→eq, nltb→le}
use lib.ListN.{length, get_or, take}
use lib.Seq.{take_all}
use Rattle.words.specs.Lists.{range, upto, concat}
use Rattle.words.proofs.Bools.{or_left, or_right, not_false_T, false_T}
use Rattle.words.proofs.Lists.{range_append, made_part, map_append}
use Rattle.model.specs.Picture.{Picture, nblocks, starts, size, places}
use Rattle.model.specs.Refusal.{gaps}
use Rattle.mover.proofs.Lengths.{bounds_of, sum}

-- the lengths of the blocks
abbrev pub sizes : List ℕ → List ℕ
sizes [] = []
sizes (s ∷ []) = []
sizes (s ∷ t ∷ bs) = (t - s) ∷ sizes bs

-- what stands before block b
abbrev pub edge : List ℕ → ℕ → ℕ
edge ls b = sum (take b ls)

laid_is : (at n : ℕ) (bs : List ℕ) → gaps at n bs ≡ false → (bs ≡ bounds_of at (sizes bs)) × (at + sum (sizes bs) ≡ n)
laid_is at n [] e = (refl, add-zero at ∙ eqb→eq at n (not_false_T (eqb at n) e))
laid_is at n (s ∷ []) e = absurd (true≢false e)
laid_is at n (s ∷ t ∷ bs) e =
    let a : s ≡ at = eqb→eq s at (not_false_T (eqb s at) (or_left _ _ (or_left _ _ e))) in
    let b : s ≤ t = nltb→le t s (false_T (ltb t s) (or_right (not (eqb s at)) (ltb t s) (or_left _ _ e))) in
    let r = laid_is t n bs (or_right (not (eqb s at) || ltb t s) (gaps t n bs) e) in
    let z : t ≡ at + (t - s) = omega arith in
    (ap₂ (λ (x y : ℕ). x ∷ y ∷ bs) a z ∙ ap (λ (l : List ℕ). at ∷ (at + (t - s)) ∷ l) (r.0 ∙ ap (λ (k : ℕ). bounds_of k (sizes bs)) z), omega (arith, r.1))

length_sizes : (bs : List ℕ) → length (sizes bs) ≡ length bs / 2
length_sizes [] = refl
length_sizes (s ∷ []) = refl
length_sizes (s ∷ t ∷ bs) = let r = length_sizes bs in omega arith

get_or_sizes : (bs : List ℕ) (b : ℕ) → b < length (sizes bs) → get_or (sizes bs) b 0 ≡ get_or bs (2 * b + 1) 0 - get_or bs (2 * b) 0
get_or_sizes [] b h = absurd (not-suc-le-zero h)
get_or_sizes (s ∷ []) b h = absurd (not-suc-le-zero h)
get_or_sizes (s ∷ t ∷ bs) zero h = refl
get_or_sizes (s ∷ t ∷ bs) (suc b) h =
    let two : 2 * suc b ≡ suc (suc (2 * b)) = omega arith in
    let three : 2 * suc b + 1 ≡ suc (suc (2 * b + 1)) = omega arith in
    get_or_sizes bs b (le_of_suc-le-suc h) ∙ sym (ap₂ (λ (x y : ℕ). get_or (s ∷ t ∷ bs) x 0 - get_or (s ∷ t ∷ bs) y 0) three two)

start_of : (s : ℕ) (ls : List ℕ) (b : ℕ) → b < length ls → get_or (bounds_of s ls) (2 * b) 0 ≡ s + edge ls b
start_of s [] b h = absurd (not-suc-le-zero h)
start_of s (l ∷ ls) zero h = sym (add-zero s)
start_of s (l ∷ ls) (suc b) h =
    let two : 2 * suc b ≡ suc (suc (2 * b)) = omega arith in
    ap (λ (k : ℕ). get_or (bounds_of s (l ∷ ls)) k 0) two ∙ start_of (s + l) ls b (le_of_suc-le-suc h) ∙ omega arith

edge_next : (ls : List ℕ) (b : ℕ) → b < length ls → edge ls (suc b) ≡ edge ls b + get_or ls b 0
edge_next [] b h = absurd (not-suc-le-zero h)
edge_next (l ∷ ls) zero h = add-zero l ∙ sym (zero-add l)
edge_next (l ∷ ls) (suc b) h = let r = edge_next ls b (le_of_suc-le-suc h) in omega arith

-- words of the bounds lie between the first and the last, and rise
pub bounds_low : (at n : ℕ) (bs : List ℕ) → gaps at n bs ≡ false → (k : ℕ) → k < length bs → (at ≤ get_or bs k 0) × (get_or bs k 0 ≤ n)
bounds_low at n [] e k h = absurd (not-suc-le-zero h)
bounds_low at n (s ∷ []) e k h = absurd (true≢false e)
bounds_low at n (s ∷ t ∷ bs) e k h = go k h (bounds_low t n bs (or_right (not (eqb s at) || ltb t s) (gaps t n bs) e)) (laid_is t n bs (or_right (not (eqb s at) || ltb t s) (gaps t n bs) e)).1
  where
    a : s ≡ at
    a = eqb→eq s at (not_false_T (eqb s at) (or_left _ _ (or_left _ _ e)))

    b : s ≤ t
    b = nltb→le t s (false_T (ltb t s) (or_right (not (eqb s at)) (ltb t s) (or_left _ _ e)))

    go : (k : ℕ) → k < length (s ∷ t ∷ bs) → ((j : ℕ) → j < length bs → (t ≤ get_or bs j 0) × (get_or bs j 0 ≤ n)) → t + sum (sizes bs) ≡ n → (at ≤ get_or (s ∷ t ∷ bs) k 0) × (get_or (s ∷ t ∷ bs) k 0 ≤ n)
    go zero l r q = let u = a in let v = b in (omega arith, omega arith)
    go (suc zero) l r q = let u = a in let v = b in (omega arith, omega arith)
    go (suc (suc j)) l r q = let w = r j (le_of_suc-le-suc (le_of_suc-le-suc l)) in let u = a in let v = b in (omega (arith, w.0), w.1)

pub bounds_rise : (at n : ℕ) (bs : List ℕ) → gaps at n bs ≡ false → (j k : ℕ) → j ≤ k → k < length bs → get_or bs j 0 ≤ get_or bs k 0
bounds_rise at n [] e j k i h = absurd (not-suc-le-zero h)
bounds_rise at n (s ∷ []) e j k i h = absurd (true≢false e)
bounds_rise at n (s ∷ t ∷ bs) e j k i h =
    go j k i h (bounds_rise t n bs (or_right (not (eqb s at) || ltb t s) (gaps t n bs) e)) (bounds_low t n bs (or_right (not (eqb s at) || ltb t s) (gaps t n bs) e))
  where
    b : s ≤ t
    b = nltb→le t s (false_T (ltb t s) (or_right (not (eqb s at)) (ltb t s) (or_left _ _ e)))

    go : (j k : ℕ) → j ≤ k → k < length (s ∷ t ∷ bs) → ((u v : ℕ) → u ≤ v → v < length bs → get_or bs u 0 ≤ get_or bs v 0) → ((u : ℕ) → u < length bs → (t ≤ get_or bs u 0) × (get_or bs u 0 ≤ n))
        → get_or (s ∷ t ∷ bs) j 0 ≤ get_or (s ∷ t ∷ bs) k 0
    go zero zero i l r q = omega arith
    go zero (suc zero) i l r q = b
    go zero (suc (suc k)) i l r q = let w = (q k (le_of_suc-le-suc (le_of_suc-le-suc l))).0 in let v = b in omega arith
    go (suc j) zero i l r q = absurd (not-suc-le-zero i)
    go (suc zero) (suc zero) i l r q = omega arith
    go (suc zero) (suc (suc k)) i l r q = (q k (le_of_suc-le-suc (le_of_suc-le-suc l))).0
    go (suc (suc j)) (suc zero) i l r q = absurd (not-suc-le-zero (le_of_suc-le-suc i))
    go (suc (suc j)) (suc (suc k)) i l r q = r j k (le_of_suc-le-suc (le_of_suc-le-suc i)) (le_of_suc-le-suc (le_of_suc-le-suc l))

module _ (P : Picture) (n : ℕ) (laid : gaps 0 n P.bounds ≡ false) where
  abbrev pub ls : List ℕ
  ls = sizes P.bounds

  abbrev pub at : ℕ → ℕ
  at b = edge ls b

  count_is : length ls ≡ nblocks P
  count_is = length_sizes P.bounds

  pub start_is : (b : ℕ) → b < nblocks P → starts P b ≡ at b
  start_is b h = ap (λ (l : List ℕ). get_or l (2 * b) 0) (laid_is 0 n P.bounds laid).0 ∙ start_of 0 ls b (let c = count_is in omega arith) ∙ zero-add (at b)

  pub size_is : (b : ℕ) → b < nblocks P → size P b ≡ get_or ls b 0
  size_is b h = sym (get_or_sizes P.bounds b (let c = count_is in omega arith))

  pub next_is : (b : ℕ) → b < nblocks P → at (suc b) ≡ at b + size P b
  next_is b h = edge_next ls b (let c = count_is in omega arith) ∙ ap (λ (k : ℕ). at b + k) (sym (size_is b h))

  pub end_is : at (nblocks P) ≡ n
  end_is = ap sum (take_all (nblocks P) ls (let c = count_is in omega arith)) ∙ (let e = (laid_is 0 n P.bounds laid).1 in omega arith)

  pub places_are : (b : ℕ) → b < nblocks P → places P b ≡ range (at b) (size P b)
  places_are b h = ap (λ (k : ℕ). range k (size P b)) (start_is b h)

  -- the places of blocks one after the other
  pub stretch : (k s : ℕ) → s + k ≤ nblocks P → (at s ≤ at (s + k)) × (concat (map (places P) (range s k)) ≡ range (at s) (at (s + k) - at s))
  stretch zero s h =
      let e : s + 0 ≡ s = add-zero s in
      let z : at (s + 0) ≡ at s = ap at e in
      (omega arith, ap (range (at s)) {x = 0} {y = at (s + 0) - at s} (omega arith))
  stretch (suc k) s h =
      let lt : s < nblocks P = omega arith in
      let r = stretch k (suc s) (omega arith) in
      let e : suc s + k ≡ s + suc k = omega arith in
      let z : at (suc s + k) ≡ at (s + suc k) = ap at e in
      let q = next_is s lt in
      let up = r.0 in (
        omega arith,
        ap₂ (λ (x y : List ℕ). x ++ y) (places_are s lt) (r.1 ∙ ap₂ (λ (x y : ℕ). range x (y - at (suc s))) q z)
            ∙ range_append (at s) (size P s) (at (s + suc k) - at (suc s)) ∙ ap (range (at s)) {x = size P s + (at (s + suc k) - at (suc s))} {y = at (s + suc k) - at s} (omega arith),
      )

  -- words of the bounds: within, at most n, and behind block x at least its length
  pub in_bounds : (b : ℕ) → b < nblocks P → 2 * b + 1 < length P.bounds
  in_bounds b h = omega arith

  pub below : (k : ℕ) → k < length P.bounds → get_or P.bounds k 0 ≤ n
  below k h = (bounds_low 0 n P.bounds laid k h).1

  pub above : (x k c : ℕ) → x < nblocks P → c ≤ size P x → 2 * x + 1 ≤ k → k < length P.bounds → c ≤ get_or P.bounds k 0
  above x k c h e l m = let r = bounds_rise 0 n P.bounds laid (2 * x + 1) k l m in omega arith

  -- the bounds are those of the blocks' lengths
  pub bounds_are : P.bounds ≡ bounds_of 0 (map (size P) (upto (nblocks P)))
  bounds_are =
      (laid_is 0 n P.bounds laid).0
      ∙ ap (bounds_of 0) (sym (made_part (size P) 0 ls (λ p h. size_is p (let c = count_is in omega arith)) (nblocks P) 0 (let c = count_is in omega arith) ∙ take_all (nblocks P) ls (let c = count_is in omega arith)))

-- ---- two blocks among all

module _ {A : Type 0} (F : ℕ → A) (B i j : ℕ) (lt : i < j) (in_b : j < B) where
  pub split_two : map F (upto B) ≡ map F (range 0 i) ++ (F i ∷ (map F (range (i + 1) (j - (i + 1))) ++ (F j ∷ map F (range (j + 1) (B - (j + 1))))))
  split_two =
      let one : upto B ≡ range 0 i ++ range i (B - i) = ap upto {x = B} {y = i + (B - i)} (omega arith) ∙ sym (range_append 0 i (B - i)) ∙ ap (λ (k : ℕ). range 0 i ++ range k (B - i)) (zero-add i) in
      let k : B - i ≡ suc (j - (i + 1) + suc (B - (j + 1))) = omega arith in
      let two : range i (B - i) ≡ i ∷ (range (i + 1) (j - (i + 1)) ++ (j ∷ range (j + 1) (B - (j + 1)))) =
      ap (range i) k ∙ ap (λ (l : List ℕ). i ∷ l)
      (ap (λ (z : ℕ). range z (j - (i + 1) + suc (B - (j + 1)))) {x = suc i} {y = i + 1} (omega arith) ∙ sym (range_append (i + 1) (j - (i + 1)) (suc (B - (j + 1))))
      ∙ ap₂ (λ (z y : ℕ). range (i + 1) (j - (i + 1)) ++ (z ∷ range y (B - (j + 1)))) {x = i + 1 + (j - (i + 1))} {y = j} {u = suc (i + 1 + (j - (i + 1)))} {v = j + 1} (omega arith) (omega arith)) in
      ap (map F) (one ∙ ap (λ (l : List ℕ). range 0 i ++ l) two)
      ∙ map_append F (range 0 i) (i ∷ (range (i + 1) (j - (i + 1)) ++ (j ∷ range (j + 1) (B - (j + 1)))))
      ∙ ap (λ (l : List A). map F (range 0 i) ++ (F i ∷ l)) (map_append F (range (i + 1) (j - (i + 1))) (j ∷ range (j + 1) (B - (j + 1))))
