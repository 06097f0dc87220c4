-- What `decimal` of std is: the last digit of a number behind those of the rest; and a word has ten at most. Assumes nothing.
use Rattle.std.specs.Prelude.{◌≡◌, refl, ℕ, zero, suc, ◌+◌, ◌*◌, ◌/◌, ◌%◌, ◌^◌, ◌<◌, ◌≤◌, true, false, ltb, List, [], ◌∷◌, ◌++◌}
use Rattle.std.proofs.Common.{ap, ◌∙◌, arith}
use Rattle.std.specs.Fmt.{decimal}
use Rattle.std.proofs.lemmas.Fmt.{decimal_by_steps}
use Rattle.std.proofs.Math.Nat.{pow-succ'}
use borrow.Author.Tests.{lt-ltb, le-ltb}

-- a number in base ten, at most k digits: the last one, behind those of the rest
unfoldable pub digits_up_to : ℕ → ℕ → List ℕ
digits_up_to zero n = []
digits_up_to (suc k) n = elim (ltb n 10) [ true ↦ (48 + n) ∷ [] | false ↦ digits_up_to k (n / 10) ++ (48 + n % 10) ∷ [] ]

-- so many digits are enough for n where it is below ten times ten to the k
abbrev Enough : ℕ → List ℕ → Type 0
Enough n ds = (k m : ℕ) → m ≡ 10 ^ k → n < 10 * m → digits_up_to (suc k) n ≡ ds

one : (n : ℕ) → n < 10 → Enough n ((48 + n) ∷ [])
unfolding digits_up_to
one n h k m p l = rw (digits_up_to, lt-ltb n 10 h) refl

more : (n : ℕ) (ds : List ℕ) → 10 ≤ n → Enough (n / 10) ds → Enough n (ds ++ ((48 + n % 10) ∷ []))
unfolding digits_up_to
more n ds h s zero m p l = absurd (let z : m ≡ 1 = p in omega arith)
more n ds h s (suc k) m p l =
    let z : m ≡ 10 * 10 ^ k = p ∙ pow-succ' 10 k in
    rw (digits_up_to, le-ltb n 10 h) (ap (λ (l : List ℕ). l ++ (48 + n % 10) ∷ []) (s k (10 ^ k) refl (omega arith)))

-- the digits of a word
pub digits_of : (n : ℕ) → n < 2 ^ 32 → digits_up_to 10 n ≡ decimal n
digits_of n h = decimal_by_steps Enough one more n (omega arith) 9 1000000000 refl (omega arith)
