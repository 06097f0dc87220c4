-- Laws of records laid end to end, and the turns of the loop that gathers. Assumes nothing.
use mathlib.Core.Path.{◌≡◌, refl, sym, ap, ap₂, ◌∙◌, subst}
use mathlib.Core.Bool.{Bool, true, false, cond, not, false≢true}
use mathlib.Core.List.{List, [], ◌∷◌, ◌++◌, append_assoc, append-nil, map}
use Prim.Native.Nat.{ℕ, zero, suc, ◌+◌, ◌-◌, ◌*◌, ◌≤◌, ◌<◌}
use native.Mathlib.Nat.{add-zero, zero-add, mul-zero, mul-suc, mul-add, mul-le-mul_left, le_antisymm, sub-zero}
use native.Mathlib.Numerals.{add-one}
use native.Mathlib.Omega.{arith}
use lib.ListN.{length, take, drop, length-drop}
use lib.Seq.{sets, length-sets, drop-drop, take-add, length-take-le}
use Rattle.std.specs.List.{range_with_len, filter as passed}
use Rattle.words.specs.Lists.{range, upto, filter, concat}
use Rattle.words.proofs.Lists.{map_append, range_snoc, filter_append, concat_append}
use Rattle.words.proofs.Copying.{front_sets, drop_sets}
use Rattle.mover.specs.Order.{cell, cells, stays, goes, kept, gone, One, Gathered}

pub step : (w n : ℕ) → w * (n + 1) ≡ w * n + w
step w n = ap (λ (k : ℕ). w * k) (add-one n) ∙ mul-suc w n

pub fits : {p n : ℕ} (w : ℕ) → p < n → w * p + w ≤ w * n
fits {p} {n} w h = omega (arith, mul-suc w p, mul-le-mul_left w h)

module _ (w : ℕ) (xs : List ℕ) where
  pub cells_append : (ps qs : List ℕ) → cells w xs (ps ++ qs) ≡ cells w xs ps ++ cells w xs qs
  unfolding cells
  cells_append ps qs = ap concat (map_append (cell w xs) ps qs) ∙ concat_append (map (cell w xs) ps) (map (cell w xs) qs)

  -- records one after the other
  pub cells_range : (n s : ℕ) → cells w xs (range s n) ≡ take (w * n) (drop (w * s) xs)
  unfolding cells
  cells_range zero s = sym (ap (λ (k : ℕ). take k (drop (w * s) xs)) (mul-zero w))
  cells_range (suc n) s =
      ap (λ (l : List ℕ). cell w xs s ++ l) (cells_range n (suc s) ∙ ap (λ (k : ℕ). take (w * n) (drop k xs)) (mul-suc w s) ∙ ap (take (w * n)) (sym (drop-drop w (w * s) xs)))
      ∙ sym (take-add w (w * n) (drop (w * s) xs)) ∙ ap (λ (k : ℕ). take k (drop (w * s) xs)) {x = w + w * n} {y = w * suc n} (omega (arith, mul-suc w n))

  cells_if : (lo p : ℕ) (b : Bool) → cells w xs (map (λ q. lo + q) (cond b (p ∷ []) [])) ≡ cond b (cell w xs (lo + p)) []
  unfolding cells
  cells_if lo p true = append-nil (cell w xs (lo + p))
  cells_if lo p false = refl

  -- one more of those that a test takes
  pub cells_more : (f : ℕ → Bool) (lo p : ℕ) → cells w xs (map (λ q. lo + q) (filter f (upto (p + 1)))) ≡ cells w xs (map (λ q. lo + q) (filter f (upto p))) ++ cond (f p) (cell w xs (lo + p)) []
  cells_more f lo p =
      ap (λ (l : List ℕ). cells w xs (map (λ q. lo + q) (filter f l))) (ap upto (add-one p) ∙ range_snoc 0 p ∙ ap (λ (k : ℕ). upto p ++ (k ∷ [])) (zero-add p))
      ∙ ap (λ (l : List ℕ). cells w xs (map (λ q. lo + q) l)) (filter_append f (upto p) (p ∷ []))
      ∙ ap (cells w xs) (map_append (λ q. lo + q) (filter f (upto p)) (filter f (p ∷ [])))
      ∙ cells_append (map (λ q. lo + q) (filter f (upto p))) (map (λ q. lo + q) (filter f (p ∷ [])))
      ∙ ap (λ (l : List ℕ). cells w xs (map (λ q. lo + q) (filter f (upto p))) ++ l) (cells_if lo p (f p))

-- ---- one record

pub one_kept : {w e s : ℕ} {goes : Bool} {xs ys saved : List ℕ} → goes ≡ false → ys ≡ sets xs (e - s) (take w (drop e xs)) → One w goes e s xs ys saved saved 0
one_kept {w} {e} {s} {xs} z y = record {
  small = omega arith;
  size = ap length y ∙ length-sets xs (e - s) (take w (drop e xs));
  saved_size = refl;
  unmarked = λ q. (refl, y, refl);
  marked = λ f. absurd (false≢true (sym z ∙ f));
}

pub one_gone : {w e s : ℕ} {goes : Bool} {xs saved saved' : List ℕ} → goes ≡ true → saved' ≡ sets saved s (take w (drop e xs)) → One w goes e s xs xs saved saved' w
one_gone {w} {e} {s} {xs} {saved} f y = record {
  small = omega arith;
  size = refl;
  saved_size = ap length y ∙ length-sets saved s (take w (drop e xs));
  unmarked = λ z. absurd (false≢true (sym z ∙ f));
  marked = λ g. (refl, refl, y);
}

-- ---- the loop

pub gathered_none : (w : ℕ) (chain : List ℕ) (lo : ℕ) (xs saved : List ℕ) → Gathered w chain lo xs xs saved saved 0 0
unfolding cells
gathered_none w chain lo xs saved = record {
  size = refl;
  saved_size = refl;
  small = omega arith;
  front = ap (λ (k : ℕ). take k xs) (sub-zero (w * (lo + 0)) ∙ ap (λ (k : ℕ). w * k) (add-zero lo)) ∙ sym (append-nil (take (w * lo) xs));
  back = refl;
  saved_is = refl;
}

module _ {w lo p s e m r : ℕ} {chain xs ys zs saved sv sv' : List ℕ} (g : Gathered w chain lo xs ys saved sv p s) (at : e ≡ w * lo + w * p) (lt : p < m)
    (inside : w * (lo + m) ≤ length xs) (room : w * m ≤ length saved) (o : One w (goes chain p) e s ys zs sv sv' r) where
  sum_is : w * (lo + p) ≡ w * lo + w * p
  sum_is = mul-add w lo p

  next_is : w * (lo + (p + 1)) ≡ w * lo + w * p + w
  next_is = mul-add w lo (p + 1) ∙ ap (λ (k : ℕ). w * lo + k) (step w p) ∙ omega arith

  end_is : w * lo + w * p + w ≤ length xs
  end_is = omega (arith, mul-add w lo m, fits w lt)

  cell_is : take w (drop e ys) ≡ cell w xs (lo + p)
  cell_is = ap (take w) (ap (λ (k : ℕ). drop k ys) (at ∙ sym sum_is) ∙ g.back)

  cell_long : length (take w (drop e ys)) ≡ w
  cell_long = length-take-le w (drop e ys) (simp length-drop (let a = g.size in let b = end_is in omega arith))

  front : take (e - s) ys ≡ take (w * lo) xs ++ cells w xs (kept chain lo p)
  front = ap (λ (k : ℕ). take (k - s) ys) (at ∙ sym sum_is) ∙ g.front

  -- what lies behind record p stays
  behind : drop (w * (lo + (p + 1))) ys ≡ drop (w * (lo + (p + 1))) xs
  behind =
      let k : w * (lo + p) + w ≡ w * (lo + (p + 1)) = let a = sum_is in let b = next_is in omega arith in
      ap (λ (n : ℕ). drop n ys) (sym k) ∙ sym (drop-drop w (w * (lo + p)) ys) ∙ ap (drop w) g.back ∙ drop-drop w (w * (lo + p)) xs ∙ ap (λ (n : ℕ). drop n xs) k

  kept_more : stays chain p ≡ true → Gathered w chain lo xs zs saved sv' (p + 1) (s + r)
  kept_more b =
      let u = o.unmarked (ap not b) in
      let sm = g.small in
      let sp = step w p in
      let vs : List ℕ = take w (drop e ys) in
      let n : w * (lo + (p + 1)) - (s + r) ≡ e - s + length vs = let a = next_is in let c = cell_long in omega (arith, u.0) in
      record {
        size = o.size ∙ g.size;
        saved_size = o.saved_size ∙ g.saved_size;
        small = omega (arith, u.0);
        front =
            ap₂ (λ (k : ℕ) (l : List ℕ). take k l) n u.1 ∙ front_sets ys (e - s) vs (let a = g.size in let c = end_is in let d = cell_long in omega arith)
            ∙ ap₂ (λ (l m : List ℕ). l ++ m) front cell_is ∙ append_assoc (take (w * lo) xs) (cells w xs (kept chain lo p)) (cell w xs (lo + p))
            ∙ ap (λ (l : List ℕ). take (w * lo) xs ++ l) (ap (λ (c : Bool). cells w xs (kept chain lo p) ++ cond c (cell w xs (lo + p)) []) (sym b) ∙ sym (cells_more w xs (stays chain) lo p));
        back =
            ap (drop (w * (lo + (p + 1)))) u.1 ∙ drop_sets (w * (lo + (p + 1))) ys (e - s) vs (let a = next_is in let c = cell_long in omega arith) ∙ behind;
        saved_is =
            ap₂ (λ (k : ℕ) (l : List ℕ). take k l) {x = s + r} {y = s} (omega (arith, u.0)) u.2 ∙ g.saved_is ∙ sym (append-nil (cells w xs (gone chain lo p)))
            ∙ ap (λ (c : Bool). cells w xs (gone chain lo p) ++ cond (not c) (cell w xs (lo + p)) []) (sym b) ∙ sym (cells_more w xs (goes chain) lo p);
      }

  gone_more : stays chain p ≡ false → Gathered w chain lo xs zs saved sv' (p + 1) (s + r)
  gone_more b =
      let u = o.marked (ap not b) in
      let sm = g.small in
      let sp = step w p in
      let vs : List ℕ = take w (drop e ys) in
      record {
        size = o.size ∙ g.size;
        saved_size = o.saved_size ∙ g.saved_size;
        small = omega (arith, u.0);
        front =
            ap₂ (λ (k : ℕ) (l : List ℕ). take k l) {x = w * (lo + (p + 1)) - (s + r)} {y = e - s} (let a = next_is in omega (arith, u.0)) u.1 ∙ front
            ∙ ap (λ (l : List ℕ). take (w * lo) xs ++ l) (sym (append-nil (cells w xs (kept chain lo p))) ∙ ap (λ (c : Bool). cells w xs (kept chain lo p) ++ cond c (cell w xs (lo + p)) []) (sym b) ∙ sym (cells_more w xs (stays chain) lo p));
        back = ap (drop (w * (lo + (p + 1)))) u.1 ∙ behind;
        saved_is =
            ap₂ (λ (k : ℕ) (l : List ℕ). take k l) {x = s + r} {y = s + length vs} (let c = cell_long in omega (arith, u.0)) u.2
            ∙ front_sets sv s vs (let c = cell_long in let d = g.saved_size in let f = fits w lt in omega arith)
            ∙ ap₂ (λ (l m : List ℕ). l ++ m) g.saved_is cell_is
            ∙ ap (λ (c : Bool). cells w xs (gone chain lo p) ++ cond (not c) (cell w xs (lo + p)) []) (sym b) ∙ sym (cells_more w xs (goes chain) lo p);
      }

  pub gathered_more : Gathered w chain lo xs zs saved sv' (p + 1) (s + r)
  gathered_more = go (stays chain p) refl
    where
      go : (b : Bool) → stays chain p ≡ b → Gathered w chain lo xs zs saved sv' (p + 1) (s + r)
      go true e = kept_more e
      go false e = gone_more e

pub gathered_end : {w lo p m s : ℕ} {chain xs ys saved sv : List ℕ} → Gathered w chain lo xs ys saved sv p s → p ≤ m → m ≤ p → Gathered w chain lo xs ys saved sv m s
gathered_end {w} {lo} {p} {m} {s} {chain} {xs} {ys} {saved} {sv} g h k = subst (λ (q : ℕ). Gathered w chain lo xs ys saved sv q s) (le_antisymm h k) g

-- ---- how many go

pub filter_between : (f : ℕ → Bool) (a n : ℕ) → passed f (range_with_len a n) ≡ filter f (range a n)
filter_between f a zero = refl
filter_between f a (suc n) =
    ap (λ (l : List ℕ). cond (f a) (a ∷ l) l) (filter_between f (a + 1) n ∙ ap (λ (k : ℕ). filter f (range k n)) (add-one a))
