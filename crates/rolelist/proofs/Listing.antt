-- Which lines can stand, line by line (specs/Listed). Assumes nothing.
use Rattle.std.proofs.Common.{◌≡◌, refl, sym, ap, ◌∙◌, inl, inr, Bool, true, false, cond, not, ◌&&◌, ◌||◌, ℕ, zero, suc, ◌+◌, ◌-◌, ◌<◌, ◌≤◌, add-one, le_refl, eqb, ltb, leb, List, length, arith}
use Rattle.std.specs.Str.{bytes_eq}
use Rattle.std.specs.List.{list_any, range_with_len}
use lib.Dec.{T}
use borrow.Author.Tests.{ltb-true, leb-true, eqb-true, lt-ltb, le-ltb}
use Rattle.words.specs.Lists.{any, range}
use Rattle.words.proofs.Bools.{true_T, or_rest, bool?}
use Rattle.rolelist.specs.Text.{line, lines, word}
use Rattle.rolelist.specs.Line.{is_line, is_kind, is_note}
use Rattle.rolelist.specs.Listed.{kinds, named, stands, first_bad, complete, unread}

-- line m is a kind of this name
abbrev pub has_name : List ℕ → List ℕ → ℕ → Bool
has_name t name m = not (is_note (line m t)) && bytes_eq (word 1 (line m t)) name

-- what an iterator's `any` answers, over a range
pub any_from : (f : ℕ → Bool) (a n : ℕ) → list_any f (range_with_len a n) ≡ any f (range a n)
any_from f a zero = refl
any_from f a (suc n) = ap (λ (b : Bool). f a || b) (ap (λ (k : ℕ). list_any f (range_with_len k n)) (add-one a) ∙ any_from f (suc a) n)

both_first : (a b c : Bool) → T (a && b && c) → (a ≡ true) × (b ≡ true)
both_first true true c h = (refl, refl)
both_first true false c h = absurd h
both_first false b c h = absurd h

short : (k : ℕ) (l : List ℕ) → is_kind k l ≡ true → length l ≤ 100
unfolding is_line
short k l h = elim (bool? (leb (length l) 100)) [
  | inl e ↦ leb-true (length l) 100 e
  | inr e ↦ let z = rw e at h in absurd (cc)
]

module _ (t : List ℕ) where
  -- a kind that stands is one of 101, and its line is short
  pub ready : (m k : ℕ) (l : List ℕ) → k ≡ kinds m t → l ≡ line m t → true ≡ stands m t → is_note l ≡ false → (k < 101) × (length l ≤ 100)
  unfolding stands
  ready m k l e f s n =
      let a = both_first (ltb (kinds m t) 101) (is_kind (kinds m t) (line m t)) (not (named m t)) (or_rest (is_note (line m t)) _ (true_T _ (sym s)) (ap is_note (sym f) ∙ n)) in
      rw (e, f) (ltb-true (kinds m t) 101 a.0, short (kinds m t) (line m t) a.1)

  step : (m n : ℕ) → m < n → first_bad m (n - m) t ≡ cond (stands m t) (first_bad (m + 1) (n - (m + 1)) t) m
  unfolding first_bad
  step m n h =
      let z : n - m ≡ suc (n - (m + 1)) = omega arith in
      rw z (ap (λ (k : ℕ). cond (stands m t) (first_bad k (n - (m + 1)) t) m) (sym (add-one m)))

  -- one more that stands
  pub goes_on : (m n : ℕ) → m < n → true ≡ stands m t → first_bad 0 n t ≡ first_bad m (n - m) t → first_bad 0 n t ≡ first_bad (m + 1) (n - (m + 1)) t
  goes_on m n h s e = e ∙ step m n h ∙ ap (λ (b : Bool). cond b (first_bad (m + 1) (n - (m + 1)) t) m) (sym s)

  pub kinds_more : (m k r : ℕ) (l : List ℕ) → k ≡ kinds m t → l ≡ line m t → r ≡ cond (is_note l) k (suc k) → r ≡ kinds (m + 1) t
  unfolding kinds
  kinds_more m k r l e f g = rw (add-one m) (g ∙ rw (e, f) refl)

  -- line m of n stops the reading
  pub stopped : (m n : ℕ) → n ≡ lines t → m < n → false ≡ stands m t → first_bad 0 n t ≡ first_bad m (n - m) t → m + 1 ≡ unread t
  unfolding unread
  stopped m n q h s e =
      let z : first_bad 0 n t ≡ m = e ∙ step m n h ∙ ap (λ (b : Bool). cond b (first_bad (m + 1) (n - (m + 1)) t) m) (sym s) in
      rw (sym q, z, lt-ltb m n h) (add-one m)

  whole : (b : Bool) (n : ℕ) → cond b 0 (n + 1) ≡ cond (not b) (suc n) 0
  whole true n = refl
  whole false n = add-one n

  -- all n stand
  pub ended : (m n : ℕ) (b : Bool) → n ≡ lines t → n ≤ m → m ≤ n → b ≡ complete t → first_bad 0 n t ≡ first_bad m (n - m) t → cond b 0 (n + 1) ≡ unread t
  unfolding unread first_bad
  ended m n b q h g d e =
      let p : n - m ≡ 0 = omega arith in
      let k : m ≡ n = omega arith in
      let z : first_bad 0 n t ≡ n = e ∙ ap (λ (j : ℕ). first_bad m j t) p ∙ k in
      rw (sym q, z, le-ltb n n (le_refl n)) (ap (λ (x : Bool). cond x 0 (n + 1)) d ∙ whole (complete t) n)

  -- and then they are all 101 kinds
  pub all_kinds : (m n k : ℕ) → n ≡ lines t → n ≤ m → m ≤ n → k ≡ kinds m t → true ≡ complete t → k ≡ 101
  unfolding complete
  all_kinds m n k q h g e d =
      let j : m ≡ n = omega arith in
      e ∙ ap (λ (i : ℕ). kinds i t) (j ∙ q) ∙ eqb-true (kinds (lines t) t) 101 (both_first (eqb (length (line (lines t) t)) 0) (eqb (kinds (lines t) t) 101) (leb (length t) 32768) (true_T _ (sym d))).1
