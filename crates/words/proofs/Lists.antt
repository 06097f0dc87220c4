-- Laws of map, range, filter, concat, spans, lookup and `same` (specs/Lists), and of lists made by a rule. Assumes nothing.
-- the library's, by the names that the other pages cite
pub use mathlib.Core.List.{map-append as map_append, map-id as map_self, map-map as map_map}
pub use Rattle.std.proofs.lemmas.List.{get_or_default as get_d_any}
use Rattle.std.proofs.lemmas.List.{get_or-map, take_more}
use mathlib.Core.Path.{◌≡◌, refl, sym, ap, ap₂, ◌∙◌, subst}
use mathlib.Core.Bool.{Bool, true, false, cond}
use mathlib.Core.List.{List, [], ◌∷◌, ◌++◌, map, append_assoc, nil≢cons, head-eq_of_cons-eq, tail-eq_of_cons-eq}
use Prim.Native.Nat.{ℕ, zero, suc, ◌+◌, ◌-◌, ◌*◌, ◌≤◌, ◌<◌}
use native.Mathlib.Nat.{add-zero, zero-add, suc-add, add-suc, le_of_suc-le-suc, not-suc-le-zero}
use native.Mathlib.Omega.{arith}
use lib.Dec.{T, eqb, eqb→eq}
use lib.ListN.{length, get_or, take, drop, replicate, length-append}
use lib.Seq.{drop-cons, drop-drop, drop-append-add, take-take, take-append_seam, get_or-take, get_or-drop}
use Rattle.words.specs.Lists.{range, filter, concat, spans, same}
use Rattle.words.proofs.Bools.{left, right}

-- ---- map

module _ {A B : Type 0} where
  pub map_ext : (f g : A → B) → ((a : A) → f a ≡ g a) → (xs : List A) → map f xs ≡ map g xs
  map_ext f g h [] = refl
  map_ext f g h (x ∷ xs) = ap₂ (λ (y : B) (l : List B). y ∷ l) (h x) (map_ext f g h xs)

  pub get_d_map : (f : A → B) (d : A) (e : B) (xs : List A) (k : ℕ) → k < length xs → get_or (map f xs) k e ≡ f (get_or xs k d)
  get_d_map f d e xs k h = get_or-map f xs k d e h

  -- element k after those before it
  pub map_more : (f : A → B) (xs : List A) (k : ℕ) (d : A) → k < length xs → map f (take k xs) ++ (f (get_or xs k d) ∷ []) ≡ map f (take (k + 1) xs)
  map_more f xs k d h = sym (ap (map f) (take_more xs k d h) ∙ map_append f (take k xs) (get_or xs k d ∷ []))

-- ---- range

pub length_range : (s n : ℕ) → length (range s n) ≡ n
length_range s zero = refl
length_range s (suc n) = ap suc (length_range (suc s) n)

pub get_or-range : (s n p : ℕ) → p < n → get_or (range s n) p 0 ≡ s + p
get_or-range s zero p h = absurd (not-suc-le-zero h)
get_or-range s (suc n) zero h = sym (add-zero s)
get_or-range s (suc n) (suc p) h = get_or-range (suc s) n p (le_of_suc-le-suc h) ∙ suc-add s p ∙ sym (add-suc s p)

pub range_append : (s m n : ℕ) → range s m ++ range (s + m) n ≡ range s (m + n)
range_append s zero n = ap₂ range (add-zero s) (sym (zero-add n))
range_append s (suc m) n =
    ap (λ (k : ℕ). s ∷ (range (suc s) m ++ range k n)) (add-suc s m ∙ sym (suc-add s m))
    ∙ ap (λ (l : List ℕ). s ∷ l) (range_append (suc s) m n) ∙ ap (range s) (sym (suc-add m n))

pub range_snoc : (s n : ℕ) → range s (suc n) ≡ range s n ++ ((s + n) ∷ [])
range_snoc s n = ap (range s) (sym (native.Mathlib.Numerals.add-one n)) ∙ sym (range_append s n 1)

pub shift_range : (s t n : ℕ) → map (λ p. s + p) (range t n) ≡ range (s + t) n
shift_range s t zero = refl
shift_range s t (suc n) = ap (λ (l : List ℕ). (s + t) ∷ l) (shift_range s (suc t) n ∙ ap (λ (k : ℕ). range k n) (add-suc s t))

-- ---- a list made by a rule

module _ {A : Type 0} (f : ℕ → A) where
  pub length_made : (s n : ℕ) → length (map f (range s n)) ≡ n
  length_made s zero = refl
  length_made s (suc n) = ap suc (length_made (suc s) n)

  pub get_or-made : (d : A) (s n p : ℕ) → p < n → get_or (map f (range s n)) p d ≡ f (s + p)
  get_or-made d s zero p h = absurd (not-suc-le-zero h)
  get_or-made d s (suc n) zero h = ap f (sym (add-zero s))
  get_or-made d s (suc n) (suc p) h = get_or-made d (suc s) n p (le_of_suc-le-suc h) ∙ ap f (suc-add s p ∙ sym (add-suc s p))

  pub get_d_past : (d : A) (s n p : ℕ) → n ≤ p → get_or (map f (range s n)) p d ≡ d
  get_d_past d s zero p h = refl
  get_d_past d s (suc n) zero h = absurd (not-suc-le-zero h)
  get_d_past d s (suc n) (suc p) h = get_d_past d (suc s) n p (le_of_suc-le-suc h)

  pub take_made : (m s n : ℕ) → m ≤ n → take m (map f (range s n)) ≡ map f (range s m)
  take_made zero s n h = refl
  take_made (suc m) s zero h = absurd (not-suc-le-zero h)
  take_made (suc m) s (suc n) h = ap (λ (l : List A). f s ∷ l) (take_made m (suc s) n (le_of_suc-le-suc h))

  pub made_next : (s n : ℕ) → map f (range (suc s) n) ≡ map (λ b. f (suc b)) (range s n)
  made_next s zero = refl
  made_next s (suc n) = ap (λ (l : List A). f (suc s) ∷ l) (made_next (suc s) n)

  pub made_snoc : (s n : ℕ) → map f (range s (suc n)) ≡ map f (range s n) ++ (f (s + n) ∷ [])
  made_snoc s n = ap (map f) (range_snoc s n) ∙ map_append f (range s n) ((s + n) ∷ [])

  -- a part of a list, read place by place
  pub made_part : (d : A) (l : List A) → ((p : ℕ) → p < length l → f p ≡ get_or l p d) → (n s : ℕ) → s + n ≤ length l → map f (range s n) ≡ take n (drop s l)
  made_part d l h zero s k = refl
  made_part d l h (suc n) s k =
      ap₂ (λ (x : A) (xs : List A). x ∷ xs) (h s (omega arith)) (made_part d l h n (suc s) (omega arith)) ∙ sym (ap (take (suc n)) (drop-cons l s d (omega arith)))

-- two rules that agree on the range
pub made_ext : {A : Type 0} (f g : ℕ → A) (s n : ℕ) → ((b : ℕ) → s ≤ b → b < s + n → f b ≡ g b) → map f (range s n) ≡ map g (range s n)
made_ext f g s zero h = refl
made_ext {A} f g s (suc n) h =
    ap₂ (λ (x : A) (l : List A). x ∷ l) (h s (omega arith) (omega arith)) (made_ext f g (suc s) n (λ b u v. h b (omega arith) (omega arith)))

pub get_or_zeros : (n i : ℕ) → ◌≡◌ {A = ℕ} (get_or (replicate n 0) i 0) 0
get_or_zeros zero i = refl
get_or_zeros (suc n) zero = refl
get_or_zeros (suc n) (suc i) = get_or_zeros n i

-- ---- lists that are the same from the front, or from behind

module _ {A : Type 0} (a b : ℕ) (xs ys : List A) (h : a ≤ b) where
  pub take_less : take b xs ≡ take b ys → take a xs ≡ take a ys
  take_less e = sym (take-take a b xs h) ∙ ap (take a) e ∙ take-take a b ys h

  pub drop_more : drop a xs ≡ drop a ys → drop b xs ≡ drop b ys
  drop_more e =
      let z : a + (b - a) ≡ b = omega arith in
      subst (λ (n : ℕ). drop n xs ≡ drop n ys) z (sym (drop-drop (b - a) a xs) ∙ ap (drop (b - a)) e ∙ drop-drop (b - a) a ys)

module _ (k : ℕ) (xs ys : List ℕ) where
  pub front_same : take k ys ≡ take k xs → (i : ℕ) → i < k → get_or ys i 0 ≡ get_or xs i 0
  front_same e i h = sym (get_or-take k ys i 0 h) ∙ ap (λ (l : List ℕ). get_or l i 0) e ∙ get_or-take k xs i 0 h

  pub back_same : drop k ys ≡ drop k xs → (i : ℕ) → k ≤ i → get_or ys i 0 ≡ get_or xs i 0
  back_same e i h =
      let z : k + (i - k) ≡ i = omega arith in
      subst (λ (j : ℕ). get_or ys j 0 ≡ get_or xs j 0) z (sym (get_or-drop k ys (i - k) 0) ∙ ap (λ (l : List ℕ). get_or l (i - k) 0) e ∙ get_or-drop k xs (i - k) 0)

-- ---- filter

-- a test over a range, by what it says there
module _ (f : ℕ → Bool) where
  pub filter_ext : (g : ℕ → Bool) (s n : ℕ) → ((p : ℕ) → s ≤ p → p < s + n → f p ≡ g p) → filter f (range s n) ≡ filter g (range s n)
  filter_ext g s zero h = refl
  filter_ext g s (suc n) h =
      ap₂ (λ (b : Bool) (l : List ℕ). cond b (s ∷ l) l) (h s (omega arith) (omega arith)) (filter_ext g (suc s) n (λ p u v. h p (omega arith) (omega arith)))

  pub filter_none : (s n : ℕ) → ((p : ℕ) → s ≤ p → p < s + n → f p ≡ false) → filter f (range s n) ≡ []
  filter_none s zero h = refl
  filter_none s (suc n) h =
      ap (λ (b : Bool). cond b (s ∷ filter f (range (suc s) n)) (filter f (range (suc s) n))) (h s (omega arith) (omega arith)) ∙ filter_none (suc s) n (λ p u v. h p (omega arith) (omega arith))

  pub filter_all : (s n : ℕ) → ((p : ℕ) → s ≤ p → p < s + n → f p ≡ true) → filter f (range s n) ≡ range s n
  filter_all s zero h = refl
  filter_all s (suc n) h = ap₂ (λ (b : Bool) (l : List ℕ). cond b (s ∷ l) (filter f (range (suc s) n))) (h s (omega arith) (omega arith)) (filter_all (suc s) n (λ p u v. h p (omega arith) (omega arith)))

module _ {A : Type 0} (f : A → Bool) where
  pub filter_append : (xs ys : List A) → filter f (xs ++ ys) ≡ filter f xs ++ filter f ys
  filter_append [] ys = refl
  filter_append (x ∷ xs) ys = go (f x) (filter_append xs ys)
    where
      go : (b : Bool) → filter f (xs ++ ys) ≡ filter f xs ++ filter f ys → cond b (x ∷ filter f (xs ++ ys)) (filter f (xs ++ ys)) ≡ cond b (x ∷ filter f xs) (filter f xs) ++ filter f ys
      go true e = ap (λ (l : List A). x ∷ l) e
      go false e = e

  -- one more that is taken, or left
  pub filter_yes : (xs : List A) (x : A) → f x ≡ true → filter f (xs ++ (x ∷ [])) ≡ filter f xs ++ (x ∷ [])
  filter_yes xs x e = filter_append xs (x ∷ []) ∙ ap (λ (b : Bool). filter f xs ++ cond b (x ∷ []) []) e

-- ---- concat, spans: lists laid end to end

module _ {A : Type 0} where
  pub concat_append : (xs ys : List (List A)) → concat (xs ++ ys) ≡ concat xs ++ concat ys
  concat_append [] ys = refl
  concat_append (x ∷ xs) ys = ap (λ (l : List A). x ++ l) (concat_append xs ys) ∙ sym (append_assoc x (concat xs) (concat ys))

  pub length_spans : (k : ℕ) (cs : List (List A)) → length (spans k cs) ≡ 2 * length cs
  length_spans k [] = refl
  length_spans k (c ∷ cs) = omega (arith, length_spans (k + length c) cs)

  pub spans_start : (cs : List (List A)) (s b : ℕ) → b < length cs → get_or (spans s cs) (2 * b) 0 ≡ s + length (concat (take b cs))
  spans_start [] s b h = absurd (not-suc-le-zero h)
  spans_start (c ∷ cs) s zero h = sym (add-zero s)
  spans_start (c ∷ cs) s (suc b) h =
      let twice : 2 * suc b ≡ suc (suc (2 * b)) = omega arith in
      rw twice (spans_start cs (s + length c) b (le_of_suc-le-suc h) ∙ omega (arith, length-append c (concat (take b cs))))

  pub spans_end : (cs : List (List A)) (s b : ℕ) → b < length cs → get_or (spans s cs) (2 * b + 1) 0 ≡ s + length (concat (take b cs)) + length (get_or cs b [])
  spans_end [] s b h = absurd (not-suc-le-zero h)
  spans_end (c ∷ cs) s zero h = ap (λ (n : ℕ). n + length c) (sym (add-zero s))
  spans_end (c ∷ cs) s (suc b) h =
      let twice : 2 * suc b + 1 ≡ suc (suc (2 * b + 1)) = omega arith in
      rw twice (spans_end cs (s + length c) b (le_of_suc-le-suc h) ∙ omega (arith, length-append c (concat (take b cs))))

  -- list b, cut out of the whole
  pub span_part : (cs : List (List A)) (b : ℕ) → b < length cs → take (length (get_or cs b [])) (drop (length (concat (take b cs))) (concat cs)) ≡ get_or cs b []
  span_part [] b h = absurd (not-suc-le-zero h)
  span_part (c ∷ cs) zero h = take-append_seam c (concat cs)
  span_part (c ∷ cs) (suc b) h =
      ap (take (length (get_or cs b []))) (ap (λ (n : ℕ). drop n (c ++ concat cs)) (length-append c (concat (take b cs))) ∙ drop-append-add c (concat cs) (length (concat (take b cs))))
      ∙ span_part cs b (le_of_suc-le-suc h)

  pub span_fits : (cs : List (List A)) (b : ℕ) → b < length cs → length (concat (take b cs)) + length (get_or cs b []) ≤ length (concat cs)
  span_fits [] b h = absurd (not-suc-le-zero h)
  span_fits (c ∷ cs) zero h = omega (arith, length-append c (concat cs))
  span_fits (c ∷ cs) (suc b) h = omega (arith, span_fits cs b (le_of_suc-le-suc h), length-append c (concat cs), length-append c (concat (take b cs)))

-- lists of the same lengths
module _ {A B : Type 0} (f : ℕ → List A) (g : ℕ → List B) where
  pub spans_same : (k s n : ℕ) → ((b : ℕ) → s ≤ b → b < s + n → length (f b) ≡ length (g b)) → spans k (map f (range s n)) ≡ spans k (map g (range s n))
  spans_same k s zero h = refl
  spans_same k s (suc n) h =
      ap (λ (m : ℕ). k ∷ (k + m) ∷ spans (k + m) (map f (range (suc s) n))) (h s (omega arith) (omega arith))
      ∙ ap (λ (l : List ℕ). k ∷ (k + length (g s)) ∷ l) (spans_same (k + length (g s)) (suc s) n (λ b u v. h b (omega arith) (omega arith)))

  pub length-concat_same : (s n : ℕ) → ((b : ℕ) → length (f b) ≡ length (g b)) → length (concat (map f (range s n))) ≡ length (concat (map g (range s n)))
  length-concat_same s zero h = refl
  length-concat_same s (suc n) h =
      omega (arith, h s, length-concat_same (suc s) n h, length-append (f s) (concat (map f (range (suc s) n))), length-append (g s) (concat (map g (range (suc s) n))))

-- ---- lists that are equal

pub same_eq : (xs ys : List ℕ) → T (same xs ys) → xs ≡ ys
same_eq [] [] t = refl
same_eq [] (y ∷ ys) t = absurd t
same_eq (x ∷ xs) [] t = absurd t
same_eq (x ∷ xs) (y ∷ ys) t = ap₂ (λ (a : ℕ) (l : List ℕ). a ∷ l) (eqb→eq x y (left (eqb x y) (same xs ys) t)) (same_eq xs ys (right (eqb x y) (same xs ys) t))

module _ {A : Type 0} where
  pub nil_snoc : {C : Type 0} (xs : List A) (a : A) (ys : List A) → ◌≡◌ {A = List A} [] (xs ++ a ∷ ys) → C
  nil_snoc [] a ys e = absurd (nil≢cons e)
  nil_snoc (x ∷ xs) a ys e = absurd (nil≢cons e)

  -- the last elements, and what stands before them
  pub snoc_inj : (xs : List A) (a : A) (ys : List A) (b : A) → xs ++ a ∷ [] ≡ ys ++ b ∷ [] → (xs ≡ ys) × (a ≡ b)
  snoc_inj [] a [] b e = (refl, head-eq_of_cons-eq e)
  snoc_inj [] a (y ∷ ys) b e = nil_snoc ys b [] (tail-eq_of_cons-eq e)
  snoc_inj (x ∷ xs) a [] b e = nil_snoc xs a [] (sym (tail-eq_of_cons-eq e))
  snoc_inj (x ∷ xs) a (y ∷ ys) b e = let r = snoc_inj xs a ys b (tail-eq_of_cons-eq e) in (ap₂ ◌∷◌ (head-eq_of_cons-eq e) r.0, r.1)

  -- an element with one behind it stands before the last
  pub before_last : (xs : List A) (t : A) (pre : List A) (b c : A) (post : List A) → xs ++ t ∷ [] ≡ pre ++ b ∷ c ∷ post → (q : List A) × (xs ≡ pre ++ b ∷ q)
  before_last [] t [] b c post e = absurd (nil≢cons (tail-eq_of_cons-eq e))
  before_last [] t (p ∷ pre) b c post e = nil_snoc pre b (c ∷ post) (tail-eq_of_cons-eq e)
  before_last (x ∷ xs) t [] b c post e = (xs, ap (λ (z : A). z ∷ xs) (head-eq_of_cons-eq e))
  before_last (x ∷ xs) t (p ∷ pre) b c post e =
      let r = before_last xs t pre b c post (tail-eq_of_cons-eq e) in (r.0, ap₂ ◌∷◌ (head-eq_of_cons-eq e) r.1)
