-- Laws of one bit of a word, as a number 0 or 1: max is "or", min "and", 1 - "not", which omega reads. Assumes nothing.
use mathlib.Core.Path.{◌≡◌, sym, ap, ap₂, ◌∙◌}
use mathlib.Core.Logic.{◌⊎◌, inl, inr}
use Prim.Native.Nat.{ℕ, zero, suc, ◌+◌, ◌-◌, ◌*◌, ◌/◌, ◌%◌, ◌^◌, ◌≤◌, ◌<◌, min, max}
use native.Mathlib.Nat.{le_of_suc-le-suc, not-suc-le-zero, pow-suc, div-one, zero-div, one-mul, mod-eq_of_lt, suc-ne-zero, eq-or-lt_of_le, le-max_left}
use native.Mathlib.Numerals.{one-add}
use native.Mathlib.Omega.{arith}
use lib.Arith.{lt-one}
use lib.Bits.{bit_and, bit_or, or_shr, and_shr, or_step, and_step, or_add_and, and_le_r}
use lib.Count.{ones, ones_step}
use lib.Dec.{eqb, eqb-suc-suc}
use lib.Pow.{shr-shr, pow-lt}
use borrow.Author.Tests.{ne_eqb}
use Rattle.words.specs.Bits.{digit}
use Rattle.words.specs.Lists.{hit}

pub digit_le : (w k : ℕ) → digit w k ≤ 1
unfolding digit
digit_le w k = omega arith

pub digit_first : (w : ℕ) → digit w zero ≡ w % 2
unfolding digit
digit_first w = ap (λ (x : ℕ). x % 2) (div-one w)

pub digit_next : (w k : ℕ) → digit w (suc k) ≡ digit (w / 2) k
unfolding digit
digit_next w k = ap (λ (x : ℕ). w / 2 ^ x % 2) (sym (one-add k)) ∙ ap (λ (x : ℕ). x % 2) (sym (shr-shr w 1 k))

pub digit_zero : (k : ℕ) → digit 0 k ≡ 0
unfolding digit
digit_zero k = ap (λ (x : ℕ). x % 2) (zero-div (2 ^ k))

-- ---- or, and, not

or_low : (a b : ℕ) → bit_or a b % 2 ≡ max (a % 2) (b % 2)
or_low a b = omega (arith, or_step a b)

and_low : (a b : ℕ) → bit_and a b % 2 ≡ min (a % 2) (b % 2)
and_low a b = omega (arith, and_step a b)

pub digit_or : (a b k : ℕ) → digit (bit_or a b) k ≡ max (digit a k) (digit b k)
unfolding digit
digit_or a b k = ap (λ (x : ℕ). x % 2) (or_shr a b k) ∙ or_low (a / 2 ^ k) (b / 2 ^ k)

pub digit_and : (a b k : ℕ) → digit (bit_and a b) k ≡ min (digit a k) (digit b k)
unfolding digit
digit_and a b k = ap (λ (x : ℕ). x % 2) (and_shr a b k) ∙ and_low (a / 2 ^ k) (b / 2 ^ k)

-- the bits below n of the complement of an n-bit number
pub digit_not : (n a k : ℕ) → a < 2 ^ n → k < n → digit (2 ^ n - 1 - a) k ≡ 1 - digit a k
digit_not zero a k h l = absurd (not-suc-le-zero l)
digit_not (suc n) a zero h l = rw (digit_first (2 ^ suc n - 1 - a), digit_first a, pow-suc) (low (2 ^ n) (rw pow-suc at h))
  where
    low : (p : ℕ) → a < p * 2 → (p * 2 - 1 - a) % 2 ≡ 1 - a % 2
    low p h = omega arith
digit_not (suc n) a (suc k) h l =
    rw (digit_next (2 ^ suc n - 1 - a) k, digit_next a k, pow-suc, half (2 ^ n) (rw pow-suc at h)) (digit_not n (a / 2) k (omega (arith, rw pow-suc at h)) (le_of_suc-le-suc l))
  where
    half : (p : ℕ) → a < p * 2 → (p * 2 - 1 - a) / 2 ≡ p - 1 - a / 2
    half p h = omega arith

-- `a & !b` of 64-bit words
pub digit-and_not : (a b k : ℕ) → b < 2 ^ 64 → k < 64 → digit (bit_and a (2 ^ 64 - 1 - b)) k ≡ min (digit a k) (1 - digit b k)
digit-and_not a b k h l = digit_and a (2 ^ 64 - 1 - b) k ∙ ap (min (digit a k)) (digit_not 64 b k h l)

-- ---- one bit

pub shl_one : (k : ℕ) → k < 64 → 1 * 2 ^ k % 2 ^ 64 ≡ 2 ^ k
shl_one k h = ap (λ (x : ℕ). x % 2 ^ 64) (one-mul (2 ^ k)) ∙ mod-eq_of_lt (pow-lt h)

pub digit_pow : (k j : ℕ) → digit (2 ^ k) j ≡ hit (eqb j k)
digit_pow zero zero = digit_first 1
digit_pow zero (suc j) = digit_next 1 j ∙ digit_zero j ∙ ap hit (sym (ne_eqb (suc j) 0 (suc-ne-zero j)))
digit_pow (suc k) zero = digit_first (2 ^ suc k) ∙ omega (arith, pow-suc 2 k) ∙ ap hit (sym (ne_eqb 0 (suc k) (λ e. suc-ne-zero k (sym e))))
digit_pow (suc k) (suc j) =
    let half : 2 ^ suc k / 2 ≡ 2 ^ k = omega (arith, pow-suc 2 k) in
    digit_next (2 ^ suc k) j ∙ ap (λ (x : ℕ). digit x j) half ∙ digit_pow k j ∙ ap hit (sym (eqb-suc-suc j k))

-- `w | 1 << k` and `w & !(1 << k)`
pub digit_put : (w k j : ℕ) → digit (bit_or w (2 ^ k)) j ≡ max (digit w j) (hit (eqb j k))
digit_put w k j = digit_or w (2 ^ k) j ∙ ap (max (digit w j)) (digit_pow k j)

pub digit_take : (w k j : ℕ) → k < 64 → j < 64 → digit (bit_and w (2 ^ 64 - 1 - 2 ^ k)) j ≡ min (digit w j) (1 - hit (eqb j k))
digit_take w k j h l = digit-and_not w (2 ^ k) j (pow-lt h) l ∙ ap (λ (x : ℕ). min (digit w j) (1 - x)) (digit_pow k j)

-- ---- measures

pub le_or : (a b : ℕ) → a ≤ bit_or a b
le_or a b = omega (arith, or_add_and a b, and_le_r a b)

-- a bit that is put in is one more, if it was not there
pub ones_put : (w k : ℕ) → ones (bit_or w (2 ^ k)) ≡ ones w + (1 - digit w k)
ones_put w zero =
    let m : bit_or w 1 % 2 ≡ max (w % 2) 1 = or_low w 1 in
    let e : ones (bit_or w 1 / 2) ≡ ones (w / 2) = ap ones (or_shr w 1 1 ∙ lib.Bits.or_zero_r (w / 2)) in
    omega (arith, ones_step (bit_or w 1), ones_step w, digit_first w)
ones_put w (suc k) =
    let two : 2 ^ suc k ≡ 2 ^ k * 2 = pow-suc 2 k in
    let m : bit_or w (2 ^ suc k) % 2 ≡ max (w % 2) (2 ^ suc k % 2) = or_low w (2 ^ suc k) in
    let half : 2 ^ suc k / 2 ≡ 2 ^ k = omega arith in
    let e : ones (bit_or w (2 ^ suc k) / 2) ≡ ones (bit_or (w / 2) (2 ^ k)) = ap ones (or_shr w (2 ^ suc k) 1 ∙ ap (bit_or (w / 2)) half) in
    omega (arith, ones_step (bit_or w (2 ^ suc k)), ones_step w, ones_put (w / 2) k, digit_next w k)

-- a | b has the bits of a, and is a where it has no more of them
pub ones_or : (d a b : ℕ) → a < 2 ^ d → b < 2 ^ d → (bit_or a b ≡ a) ⊎ (ones a < ones (bit_or a b))
ones_or zero a b ha hb = inl (ap₂ bit_or (lt-one ha) (lt-one hb) ∙ sym (lt-one ha))
ones_or (suc d) a b ha hb =
    let e : bit_or a b / 2 ≡ bit_or (a / 2) (b / 2) = or_shr a b 1 in
    go (bit_or a b) e (or_low a b) (ones_step (bit_or a b)) (ap ones e)
    (ones_or d (a / 2) (b / 2) (omega (arith, pow-suc 2 d)) (omega (arith, pow-suc 2 d))) (eq-or-lt_of_le (le-max_left (a % 2) (b % 2)))
  where
    go : (p : ℕ) → p / 2 ≡ bit_or (a / 2) (b / 2) → p % 2 ≡ max (a % 2) (b % 2) → ones p ≡ p % 2 + ones (p / 2) → ones (p / 2) ≡ ones (bit_or (a / 2) (b / 2))
        → (bit_or (a / 2) (b / 2) ≡ a / 2) ⊎ (ones (a / 2) < ones (bit_or (a / 2) (b / 2)))
        → (a % 2 ≡ max (a % 2) (b % 2)) ⊎ (a % 2 < max (a % 2) (b % 2)) → (p ≡ a) ⊎ (ones a < ones p)
    go p e m s o (inl same) (inl q) = inl (omega arith)
    go p e m s o (inl same) (inr q) = inr (omega (arith, ones_step a, ap ones same))
    go p e m s o (inr more) q = inr (omega (arith, ones_step a, le-max_left (a % 2) (b % 2)))
