-- Laws of `sets xs d vs`, xs with vs stored from index d on (lib.Seq): what a copying loop leaves. Assumes nothing.
use mathlib.Core.Path.{◌≡◌, refl, sym, ap, ap₂, ◌∙◌}
use mathlib.Core.List.{List, [], ◌∷◌, ◌++◌, append-nil, map, append_assoc}
use Prim.Native.Nat.{ℕ, zero, suc, ◌+◌, ◌-◌, ◌≤◌, ◌<◌}
use native.Mathlib.Nat.{add-zero, add-suc, suc-add}
use native.Mathlib.Numerals.{add-one}
use native.Mathlib.Omega.{arith}
use borrow.Rule.Slice.PartMut.{put_mid}
use Rattle.std.specs.List.{copy_within}
use Rattle.words.specs.Lists.{upto}
use Rattle.words.proofs.Lists.{length_made, made_snoc}
use lib.ListN.{length, take, drop, get_or, set, length-set, length-drop, length-take, drop_of_length-le, length-append}
use lib.Seq.{paste, drop-drop, sets, sets-eq, length-take-le, set_comm, get_or-set_same, get_or-set_other, take-set-le, drop-set-lt, take-suc, drop-cons, get_or-drop, get_or-take, take_at, drop_at}

module _ {A : Type 0} where
  -- a run of stores is one run and then another
  pub sets_append : (l : List A) (i : ℕ) (xs ys : List A) → sets l i (xs ++ ys) ≡ sets (sets l i xs) (i + length xs) ys
  sets_append l i [] ys = ap (λ (k : ℕ). sets l k ys) (sym (add-zero i))
  sets_append l i (x ∷ xs) ys =
      sets_append (set l i x) (suc i) xs ys ∙ ap (λ (k : ℕ). sets (sets (set l i x) (suc i) xs) k ys) (suc-add i (length xs) ∙ sym (add-suc i (length xs)))

  -- a store behind a run, and one in front of it
  pub set_behind : (l : List A) (i : ℕ) (vs : List A) (v : A) → set (sets l i vs) (i + length vs) v ≡ sets l i (vs ++ (v ∷ []))
  set_behind l i vs v = sym (sets_append l i vs (v ∷ []))

  pub set_before : (l : List A) (i : ℕ) (v : A) (vs : List A) → set (sets l (suc i) vs) i v ≡ sets l i (v ∷ vs)
  set_before l i v vs = go l (suc i) vs (omega arith)
    where
      go : (l : List A) (j : ℕ) (vs : List A) → i < j → set (sets l j vs) i v ≡ sets (set l i v) j vs
      go l j [] h = refl
      go l j (w ∷ vs) h = go (set l j w) (suc j) vs (omega arith) ∙ ap (λ (m : List A). sets m (suc j) vs) (set_comm l j i w v (λ e. omega arith))

  -- ---- reading it: before the run, in it, behind it

  pub get_d_sets_before : (l : List A) (i : ℕ) (vs : List A) (j : ℕ) (d : A) → j < i → get_or (sets l i vs) j d ≡ get_or l j d
  get_d_sets_before l i [] j d h = refl
  get_d_sets_before l i (v ∷ vs) j d h = get_d_sets_before (set l i v) (suc i) vs j d (omega arith) ∙ get_or-set_other l i j v d (λ e. omega arith)

  pub get_or-sets_in : (l : List A) (i : ℕ) (vs : List A) (j : ℕ) (d : A) → i + length vs ≤ length l → j < length vs → get_or (sets l i vs) (i + j) d ≡ get_or vs j d
  get_or-sets_in l i [] j d h k = absurd (omega arith)
  get_or-sets_in l i (v ∷ vs) zero d h k =
      get_d_sets_before (set l i v) (suc i) vs (i + zero) d (omega arith) ∙ ap (λ (m : ℕ). get_or (set l i v) m d) (add-zero i) ∙ get_or-set_same l i v d (omega arith)
  get_or-sets_in l i (v ∷ vs) (suc j) d h k =
      ap (λ (m : ℕ). get_or (sets (set l i v) (suc i) vs) m d) (add-suc i j ∙ sym (suc-add i j)) ∙ get_or-sets_in (set l i v) (suc i) vs j d (simp length-set (omega arith)) (omega arith)

  pub get_or-sets_after : (l : List A) (i : ℕ) (vs : List A) (j : ℕ) (d : A) → i + length vs ≤ j → get_or (sets l i vs) j d ≡ get_or l j d
  get_or-sets_after l i [] j d h = refl
  get_or-sets_after l i (v ∷ vs) j d h = get_or-sets_after (set l i v) (suc i) vs j d (omega arith) ∙ get_or-set_other l i j v d (λ e. omega arith)

  pub take_sets : (n : ℕ) (l : List A) (i : ℕ) (vs : List A) → n ≤ i → take n (sets l i vs) ≡ take n l
  take_sets n l i [] h = refl
  take_sets n l i (v ∷ vs) h = take_sets n (set l i v) (suc i) vs (omega arith) ∙ take-set-le n l i v h

  pub drop_sets : (n : ℕ) (l : List A) (i : ℕ) (vs : List A) → i + length vs ≤ n → drop n (sets l i vs) ≡ drop n l
  drop_sets n l i [] h = refl
  drop_sets n l i (v ∷ vs) h = drop_sets n (set l i v) (suc i) vs (omega arith) ∙ drop-set-lt n l i v (omega arith)

  -- the run itself, with what stands before it and behind it
  pub front_sets : (l : List A) (i : ℕ) (vs : List A) → i + length vs ≤ length l → take (i + length vs) (sets l i vs) ≡ take i l ++ vs
  front_sets l i vs h =
      ap (take (i + length vs)) (sets-eq vs l i h)
      ∙ take_at (take i l ++ vs) (drop (i + length vs) l) (i + length vs) (length-append (take i l) vs ∙ ap (λ (k : ℕ). k + length vs) (length-take-le i l (omega arith)))

  pub back_sets : (l : List A) (i : ℕ) (vs : List A) → i + length vs ≤ length l → drop i (sets l i vs) ≡ vs ++ drop (i + length vs) l
  back_sets l i vs h =
      ap (drop i) (sets-eq vs l i h ∙ append_assoc (take i l) vs (drop (i + length vs) l))
      ∙ drop_at (take i l) (vs ++ drop (i + length vs) l) i (length-take-le i l (omega arith))

  -- a run over the whole list
  pub sets_all : (l vs : List A) → length vs ≡ length l → sets l 0 vs ≡ vs
  sets_all l vs e =
      sets-eq vs l 0 (omega arith) ∙ ap (λ (t : List A). vs ++ t) (drop_of_length-le l {i = 0 + length vs} (omega arith)) ∙ append-nil vs

  -- ---- what the library's methods leave

  -- xs after `xs[a..a + k].copy_from_slice(..)`, which wrote vs
  pub put_sets : (a k : ℕ) (xs vs : List A) → a + k ≤ length xs → length vs ≡ k → put_mid a k xs vs ≡ sets xs a vs
  put_sets a k xs vs h e = ap (λ (l : List A). take a xs ++ (vs ++ l)) (drop-drop k a xs ∙ ap (λ (n : ℕ). drop (a + n) xs) (sym e)) ∙ sym (append_assoc (take a xs) vs (drop (a + length vs) xs)) ∙ sym (sets-eq vs xs a (omega arith))

  -- xs after `xs.copy_within(i..j, d)`, where i..j are n places
  pub within_sets : (xs : List A) (i j d n : ℕ) → i + n ≡ j → j ≤ length xs → d + n ≤ length xs → copy_within xs i j d ≡ sets xs d (take n (drop i xs))
  within_sets xs i j d n e h k =
      let m : j - i ≡ n = omega arith in
      let l : length (take n (drop i xs)) ≡ n = length-take-le n (drop i xs) (simp length-drop (omega arith)) in
      ap (paste xs d (drop i xs)) m ∙ ap (λ (z : ℕ). take d xs ++ take n (drop i xs) ++ drop (d + z) xs) (sym l) ∙ sym (sets-eq (take n (drop i xs)) xs d (omega arith))

-- ---- loops that copy words: ys is what they have made of xs

-- one more word from the left: the words of `from` at index s go to index d
pub copy_more : (from xs ys : List ℕ) (s d i : ℕ) → s + i < length from → ys ≡ sets xs d (take i (drop s from))
    → set ys (d + i) (get_or from (s + i) 0) ≡ sets xs d (take (i + 1) (drop s from))
copy_more from xs ys s d i h e =
    let long : i < length (drop s from) = simp length-drop (omega arith) in
    rw e (ap₂ (λ (k v : ℕ). set (sets xs d (take i (drop s from))) (d + k) v) (sym (length-take-le i (drop s from) (omega arith))) (sym (get_or-drop s from i 0))
    ∙ set_behind xs d (take i (drop s from)) (get_or (drop s from) i 0)
    ∙ ap (sets xs d) (sym (take-suc (drop s from) i 0 long) ∙ ap (λ (k : ℕ). take k (drop s from)) (sym (add-one i))))

-- the same inside one list, downwards: the word that is read has not been written
pub slide_more : (xs ys : List ℕ) (s d i : ℕ) → d ≤ s → s + i < length xs → ys ≡ sets xs d (take i (drop s xs))
    → set ys (d + i) (get_or ys (s + i) 0) ≡ sets xs d (take (i + 1) (drop s xs))
slide_more xs ys s d i h k e =
    ap (set ys (d + i)) (ap (λ (l : List ℕ). get_or l (s + i) 0) e ∙ get_or-sets_after xs d (take i (drop s xs)) (s + i) 0 (simp length-take (omega arith)))
    ∙ copy_more xs xs ys s d i k e

-- upwards, from the right: the words from i on are up
pub lift_more : (xs ys : List ℕ) (s d n i : ℕ) → s ≤ d → s + n ≤ length xs → 0 < i → i ≤ n → ys ≡ sets xs (d + i) (drop i (take n (drop s xs)))
    → set ys (d + (i - 1)) (get_or ys (s + (i - 1)) 0) ≡ sets xs (d + (i - 1)) (drop (i - 1) (take n (drop s xs)))
lift_more xs ys s d n zero h k p l e = absurd (omega arith)
lift_more xs ys s d n (suc j) h k p l e =
    let at : suc j - 1 ≡ j = omega arith in
    let vs : List ℕ = take n (drop s xs) in
    let long : j < length vs = simp (length-take, length-drop) (omega arith) in
    rw (at, e, drop-cons vs j 0 long, add-suc d j)
    (ap (set (sets xs (suc (d + j)) (drop (suc j) vs)) (d + j))
    (get_d_sets_before xs (suc (d + j)) (drop (suc j) vs) (s + j) 0 (omega arith) ∙ sym (get_or-drop s xs j 0) ∙ sym (get_or-take n (drop s xs) j 0 (omega arith)))
    ∙ set_before xs (d + j) (get_or vs j 0) (drop (suc j) vs))

pub lift_none : (xs : List ℕ) (s d n : ℕ) → xs ≡ sets xs (d + n) (drop n (take n (drop s xs)))
lift_none xs s d n = ap (sets xs (d + n)) (sym (drop_of_length-le (take n (drop s xs)) {i = n} (simp length-take (omega arith))))

-- ---- loops that make a slice by a rule: word i becomes f i

pub made_more : (f : ℕ → ℕ) (xs ys : List ℕ) (i : ℕ) → ys ≡ sets xs 0 (map f (upto i)) → set ys i (f i) ≡ sets xs 0 (map f (upto (i + 1)))
made_more f xs ys i e =
    let n : length (map f (upto i)) ≡ i = length_made f 0 i in
    let m : 0 + length (map f (upto i)) ≡ i = omega arith in
    let z : 0 + i ≡ i = omega arith in
    rw e (ap (λ (k : ℕ). set (sets xs 0 (map f (upto i))) k (f i)) (sym m)
    ∙ set_behind xs 0 (map f (upto i)) (f i) ∙ ap (sets xs 0) (ap (λ (k : ℕ). map f (upto i) ++ (f k ∷ [])) (sym z) ∙ sym (made_snoc f 0 i) ∙ ap (λ (k : ℕ). map f (upto k)) (sym (add-one i))))

pub made_all : (f : ℕ → ℕ) (xs ys : List ℕ) (i : ℕ) → i ≡ length xs → ys ≡ sets xs 0 (map f (upto i)) → ys ≡ map f (upto (length xs))
made_all f xs ys i e h = rw e at (h ∙ sets_all xs (map f (upto i)) (length_made f 0 i ∙ e))
