-- A text cut at a byte, by how many stand before it or are it; lines and words one after the other. Assumes nothing.
use Rattle.std.proofs.Common.{◌≡◌, refl, sym, ap, ◌∙◌, Bool, true, false, not, cond, ℕ, suc, ◌+◌, ◌-◌, ◌<◌, ◌≤◌, eqb, List, [], ◌∷◌, length, take, drop, count_by, min, take_all, length-drop, suc-add, arith}
use Rattle.std.specs.List.{position_or_len, prefix_len, filter}
use Rattle.std.proofs.lemmas.List.Sums.{length-filter}
use Rattle.std.proofs.lemmas.List.{drop_min}
use Rattle.rolelist.specs.Text.{before, after, past, line, lines, word}

abbrev is : ℕ → ℕ → Bool
is b = λ x. eqb x b

one : (n : ℕ) → 1 + n ≡ suc n
one n = omega arith

-- ---- a byte

pub before_is : (b : ℕ) (xs : List ℕ) → before b xs ≡ take (position_or_len (is b) xs) xs
unfolding before
before_is b [] = refl
before_is b (x ∷ xs) =
    let m : ℕ = position_or_len (is b) xs in
    elim (eqb x b) as (λ (v : Bool). cond v [] (x ∷ before b xs) ≡ take (cond (not v) (1 + m) 0) (x ∷ xs))
    [ true ↦ refl | false ↦ rw one (ap (λ (l : List ℕ). x ∷ l) (before_is b xs)) ]

pub after_is : (b : ℕ) (xs : List ℕ) → after b xs ≡ drop (position_or_len (is b) xs + 1) xs
unfolding after
after_is b [] = refl
after_is b (x ∷ xs) =
    let m : ℕ = position_or_len (is b) xs in
    elim (eqb x b) as (λ (v : Bool). cond v xs (after b xs) ≡ drop (cond (not v) (1 + m) 0 + 1) (x ∷ xs))
    [ true ↦ refl | false ↦ rw (one, suc-add) (after_is b xs) ]

pub past_is : (b : ℕ) (xs : List ℕ) → past b xs ≡ drop (prefix_len (is b) xs) xs
unfolding past
past_is b [] = refl
past_is b (x ∷ xs) =
    let m : ℕ = prefix_len (is b) xs in
    elim (eqb x b) as (λ (v : Bool). cond v (past b xs) (x ∷ xs) ≡ drop (cond v (1 + m) 0) (x ∷ xs))
    [ true ↦ rw one (past_is b xs) | false ↦ refl ]

-- what is left from place m on, as a slice has it
pub all_left : (xs : List ℕ) (m : ℕ) → take (length xs - m) (drop m xs) ≡ drop m xs
all_left xs m = take_all (length xs - m) (drop m xs) (omega (arith, length-drop m xs))

pub to_end : (xs : List ℕ) (n m : ℕ) → m ≡ min (length xs) n → drop m xs ≡ drop n xs
to_end xs n m e =
    let k : m ≡ min n (length xs) = omega arith in
    rw k (drop_min n xs)

ends : (xs : List ℕ) → length (filter (is 10) xs) ≡ lines xs
unfolding lines
ends [] = refl
ends (x ∷ xs) =
    elim (eqb x 10) as (λ (v : Bool). length (cond v (x ∷ filter (is 10) xs) (filter (is 10) xs)) ≡ cond v (suc (lines xs)) (lines xs))
    [ true ↦ ap suc (ends xs) | false ↦ ends xs ]

pub lines_are : (xs : List ℕ) → count_by (is 10) xs ≡ lines xs
lines_are xs = sym (length-filter (is 10) xs) ∙ ends xs

-- ---- one more, and the last

pub left : (n i : ℕ) → i < n → n - i ≡ suc (n - (i + 1))
left n i h = omega arith

pub none : (n i : ℕ) → n ≤ i → n - i ≡ 0
none n i h = omega arith

pub line_more : (n i : ℕ) (xs : List ℕ) → i < n → line (n - i) xs ≡ line (n - (i + 1)) (after 10 xs)
unfolding line
line_more n i xs h = ap (λ (k : ℕ). line k xs) (left n i h)

pub line_last : (n i : ℕ) (xs : List ℕ) → n ≤ i → line (n - i) xs ≡ before 10 xs
unfolding line
line_last n i xs h = ap (λ (k : ℕ). line k xs) (none n i h)

pub word_more : (n i : ℕ) (xs : List ℕ) → i < n → word (n - i) xs ≡ word (n - (i + 1)) (after 32 (past 32 xs))
unfolding word
word_more n i xs h = ap (λ (k : ℕ). word k xs) (left n i h)

pub word_last : (n i : ℕ) (xs : List ℕ) → n ≤ i → word (n - i) xs ≡ before 32 (past 32 xs)
unfolding word
word_last n i xs h = ap (λ (k : ℕ). word k xs) (none n i h)
