-- Laws of a row of bits: a bit after one is put in or taken out, the row's place in a larger slice, measures. Assumes nothing.
use mathlib.Core.Path.{◌≡◌, refl, sym, ap, ap₂, ◌∙◌}
use mathlib.Core.Bool.{Bool, false, not, ◌&&◌, ◌||◌}
use mathlib.Core.List.{List, [], ◌∷◌}
use Prim.Native.Nat.{ℕ, zero, suc, ◌+◌, ◌-◌, ◌*◌, ◌/◌, ◌%◌, ◌^◌, ◌≤◌, ◌<◌, min, max}
use native.Mathlib.Nat.{le_of_suc-le-suc, not-suc-le-zero, mul_assoc, mul_comm}
use native.Mathlib.Decide.{ℕ_discrete}
use native.Mathlib.Omega.{arith}
use lib.Bits.{bit_and, bit_or}
use lib.Count.{ones, ones-le}
use lib.Dec.{eqb, eqb→eq}
use lib.ListN.{length, get_or, set, take, replicate, length-set, get_or-eq_default}
use lib.Seq.{get_or-set_same, get_or-set_other}
use borrow.Author.Tests.{eq-eqb, ne_eqb}
use Rattle.std.proofs.lemmas.List.Sums.{sum_by-cons}
use Rattle.words.specs.Bits.{digit, digit_in, is_in, set_bit, unset_bit, ones_in, room}
use Rattle.words.specs.Lists.{hit}
use Rattle.words.proofs.Bools.{true_T, both, left, right, bool_ext, hit_or, hit_and, hit_not, hit_inj}
use Rattle.words.proofs.Lists.{get_or_zeros, front_same}
use Rattle.words.proofs.Parts.{cell_inj}
use Rattle.words.proofs.Digits.{digit_le, digit_zero, digit_put, digit_take, shl_one, ones_put}

pub digit_in_le : (ws : List ℕ) (r : ℕ) → digit_in ws r ≤ 1
unfolding digit_in
digit_in_le ws r = digit_le (get_or ws (r / 64) 0) (r % 64)

pub digit_past : (ws : List ℕ) (r : ℕ) → 64 * length ws ≤ r → digit_in ws r ≡ 0
unfolding digit_in
digit_past ws r h = ap (λ (x : ℕ). digit x (r % 64)) (get_or-eq_default ws 0 (omega arith)) ∙ digit_zero (r % 64)

pub digit_clear : (n r : ℕ) → digit_in (replicate n 0) r ≡ 0
unfolding digit_in
digit_clear n r = ap (λ (x : ℕ). digit x (r % 64)) (get_or_zeros n (r / 64)) ∙ digit_zero (r % 64)

-- slices with the same first k words
pub digit_front : (l m : List ℕ) (k q : ℕ) → take k l ≡ take k m → q / 64 < k → digit_in l q ≡ digit_in m q
unfolding digit_in
digit_front l m k q e h = ap (λ (x : ℕ). digit x (q % 64)) (front_same k m l e (q / 64) h)

-- ---- one number put in or taken out

-- the word of r is replaced by one whose bits are those of the old one, but at r
stored : (op : ℕ → ℕ → ℕ) → ((x : ℕ) → x ≤ 1 → op x 0 ≡ x) → (ws : List ℕ) (r v : ℕ) → r < 64 * length ws
    → ((j : ℕ) → j < 64 → digit v j ≡ op (digit (get_or ws (r / 64) 0) j) (hit (eqb j (r % 64))))
    → (q : ℕ) → digit_in (set ws (r / 64) v) q ≡ op (digit_in ws q) (hit (eqb q r))
unfolding digit_in
stored op id ws r v hr h q = elim (ℕ_discrete (q / 64) (r / 64)) [
  | yes e ↦ rw (e, get_or-set_same ws (r / 64) v 0 (omega arith)) (h (q % 64) (omega arith) ∙ ap (λ (b : Bool). op (digit (get_or ws (r / 64) 0) (q % 64)) (hit b)) (place e))
  | no n ↦ rw (get_or-set_other ws (r / 64) (q / 64) v 0 n, ne_eqb q r (λ e. n (ap (λ (x : ℕ). x / 64) e))) (sym (id _ (digit_le _ (q % 64))))
]
  where
    place : q / 64 ≡ r / 64 → eqb (q % 64) (r % 64) ≡ eqb q r
    place e = elim (ℕ_discrete q r) [
      | yes k ↦ eq-eqb (q % 64) (r % 64) (ap (λ (x : ℕ). x % 64) k) ∙ sym (eq-eqb q r k)
      | no k ↦ ne_eqb (q % 64) (r % 64) (λ m. k (omega arith)) ∙ sym (ne_eqb q r k)
    ]

pub digit_set : (ws : List ℕ) (r : ℕ) → r < 64 * length ws → (q : ℕ) → digit_in (set_bit ws r) q ≡ max (digit_in ws q) (hit (eqb q r))
unfolding set_bit
digit_set ws r h = stored max (λ x l. omega arith) ws r _ h (λ j l. digit_put _ (r % 64) j)

pub digit_unset : (ws : List ℕ) (r : ℕ) → r < 64 * length ws → (q : ℕ) → digit_in (unset_bit ws r) q ≡ min (digit_in ws q) (1 - hit (eqb q r))
unfolding unset_bit
digit_unset ws r h = stored (λ x y. min x (1 - y)) (λ x l. omega arith) ws r _ h (λ j l. digit_take _ (r % 64) j (omega arith) l)

pub length-set_bit : (ws : List ℕ) (r : ℕ) → length (set_bit ws r) ≡ length ws
unfolding set_bit
length-set_bit ws r = length-set ws (r / 64) _

pub length-unset_bit : (ws : List ℕ) (r : ℕ) → length (unset_bit ws r) ≡ length ws
unfolding unset_bit
length-unset_bit ws r = length-set ws (r / 64) _

-- ---- the same as tests

pub hit_in : (ws : List ℕ) (r : ℕ) → hit (is_in ws r) ≡ digit_in ws r
unfolding is_in
hit_in ws r = go (digit_in ws r) (digit_in_le ws r)
  where
    go : (x : ℕ) → x ≤ 1 → hit (eqb x 1) ≡ x
    go zero h = refl
    go (suc zero) h = refl
    go (suc (suc x)) h = absurd (omega arith)

pub in_set : (ws : List ℕ) (r : ℕ) → r < 64 * length ws → (q : ℕ) → is_in (set_bit ws r) q ≡ (is_in ws q || eqb q r)
in_set ws r h q = hit_inj (is_in (set_bit ws r) q) (is_in ws q || eqb q r) (rw (hit_or, hit_in (set_bit ws r) q, hit_in ws q) (digit_set ws r h q))

pub in_unset : (ws : List ℕ) (r : ℕ) → r < 64 * length ws → (q : ℕ) → is_in (unset_bit ws r) q ≡ (is_in ws q && not (eqb q r))
in_unset ws r h q =
    hit_inj (is_in (unset_bit ws r) q) (is_in ws q && not (eqb q r)) (rw (hit_and, hit_not, hit_in (unset_bit ws r) q, hit_in ws q) (digit_unset ws r h q))

pub in_clear : (n r : ℕ) → is_in (replicate n 0) r ≡ false
unfolding is_in
in_clear n r = ap (λ (x : ℕ). eqb x 1) (digit_clear n r)

pub in_front : (l m : List ℕ) (k q : ℕ) → take k l ≡ take k m → q < 64 * k → is_in l q ≡ is_in m q
unfolding is_in
in_front l m k q e h = ap (λ (x : ℕ). eqb x 1) (digit_front l m k q e (omega arith))

-- ---- a row in a larger slice: bit r of the row at word `at` is bit 64 * at + r of the slice

pub row_word : (at r : ℕ) → (64 * at + r) / 64 ≡ at + r / 64
row_word at r = omega arith

pub row_place : (at r : ℕ) → (64 * at + r) % 64 ≡ r % 64
row_place at r = omega arith

-- rows of w words: block b's begins at word b * w
pub row_eqb : (w b c r q : ℕ) → r < 64 * w → q < 64 * w → eqb (64 * (c * w) + q) (64 * (b * w) + r) ≡ (eqb c b && eqb q r)
row_eqb w b c r q hr hq = bool_ext (eqb (64 * (c * w) + q) (64 * (b * w) + r)) (eqb c b && eqb q r)
    (λ t. let z = cell_inj {w = 64 * w} {b = b} {i = r} {b' = c} {i' = q} hr hq (sym (ap (λ (x : ℕ). x + q) (turn c)) ∙ eqb→eq (64 * (c * w) + q) (64 * (b * w) + r) t ∙ ap (λ (x : ℕ). x + r) (turn b)) in
    both (eqb c b) (eqb q r) (true_T (eqb c b) (eq-eqb c b z.0)) (true_T (eqb q r) (eq-eqb q r z.1)))
    (λ t. true_T (eqb (64 * (c * w) + q) (64 * (b * w) + r))
    (eq-eqb (64 * (c * w) + q) (64 * (b * w) + r) (ap₂ (λ (x y : ℕ). 64 * (x * w) + y) (eqb→eq c b (left (eqb c b) (eqb q r) t)) (eqb→eq q r (right (eqb c b) (eqb q r) t)))))
  where
    turn : (x : ℕ) → 64 * (x * w) ≡ x * (64 * w)
    turn x = sym (mul_assoc 64 x w) ∙ ap (λ (k : ℕ). k * w) (mul_comm 64 x) ∙ mul_assoc x 64 w

-- ---- what the code's tests and stores are

pub is_in_at : (ws : List ℕ) (at r : ℕ) → eqb (get_or ws (at + r / 64) 0 / 2 ^ (r % 64) % 2) 1 ≡ is_in ws (64 * at + r)
unfolding is_in digit_in digit
is_in_at ws at r = rw (row_word, row_place)

pub set_bit_at : (ws : List ℕ) (at r : ℕ) → set ws (at + r / 64) (bit_or (get_or ws (at + r / 64) 0) (1 * 2 ^ (r % 64) % 2 ^ 64)) ≡ set_bit ws (64 * at + r)
unfolding set_bit
set_bit_at ws at r = rw (row_word, row_place, shl_one (r % 64) (omega arith))

pub unset_bit_at : (ws : List ℕ) (at r : ℕ)
    → set ws (at + r / 64) (bit_and (get_or ws (at + r / 64) 0) (2 ^ 64 - 1 - 1 * 2 ^ (r % 64) % 2 ^ 64)) ≡ unset_bit ws (64 * at + r)
unfolding unset_bit
unset_bit_at ws at r = rw (row_word, row_place, shl_one (r % 64) (omega arith))

-- past the slice's end
pub in_past : (ws : List ℕ) (at r : ℕ) → length ws ≤ at + r / 64 → is_in ws (64 * at + r) ≡ false
unfolding is_in
in_past ws at r h = ap (λ (x : ℕ). eqb x 1) (digit_past ws (64 * at + r) (omega arith))

-- ---- measures

ones_at : (k : ℕ) (ws : List ℕ) (i : ℕ) → i < length ws → ones_in (set ws i (bit_or (get_or ws i 0) (2 ^ k))) ≡ ones_in ws + (1 - digit (get_or ws i 0) k)
ones_at k [] i h = absurd (not-suc-le-zero h)
ones_at k (w ∷ ws) zero h = omega (arith, ones_put w k, sum_by-cons ones (bit_or w (2 ^ k)) ws, sum_by-cons ones w ws)
ones_at k (w ∷ ws) (suc i) h =
    omega (arith, ones_at k ws i (le_of_suc-le-suc h), sum_by-cons ones w (set ws i (bit_or (get_or ws i 0) (2 ^ k))), sum_by-cons ones w ws)

-- a number that is put in is one more, if it was not there
pub ones_set : (ws : List ℕ) (r : ℕ) → r < 64 * length ws → ones_in (set_bit ws r) ≡ ones_in ws + (1 - digit_in ws r)
unfolding set_bit digit_in
ones_set ws r h = ones_at (r % 64) ws (r / 64) (omega arith)

-- a word of a slice has at most 64 ones
pub ones_in_le : (ws : List ℕ) → ((i : ℕ) → get_or ws i 0 < 2 ^ 64) → ones_in ws ≤ 64 * length ws
ones_in_le [] h = omega arith
ones_in_le (w ∷ ws) h = omega (arith, ones-le 64 w (h 0), ones_in_le ws (λ i. h (suc i)), sum_by-cons ones w ws)

pub room_set : (l : List ℕ) (p v : ℕ) → p < length l → room (set l p v) + (2 ^ 64 - get_or l p 0) ≡ room l + (2 ^ 64 - v)
unfolding room
room_set [] p v h = absurd (not-suc-le-zero h)
room_set (x ∷ xs) zero v h = omega arith
room_set (x ∷ xs) (suc p) v h = omega (arith, room_set xs p v (le_of_suc-le-suc h))
