-- Lists of numbers: what the other pages need and the library lacks. Assumes nothing.
use Rattle.std.specs.Prelude.{◌≡◌, ◌⊎◌, Bool, true, false, ◌&&◌, ◌||◌, cond, List, [], ◌∷◌, ◌++◌, ℕ, zero, suc, ◌+◌, eqb, get_or, length, Option, None, Some}

-- s, s + 1, .., n numbers in all
abbrev pub range : ℕ → ℕ → List ℕ
range s zero = []
range s (suc n) = s ∷ range (suc s) n

abbrev pub upto : ℕ → List ℕ
upto n = range 0 n

infixr 25 ◌implies◌
abbrev pub ◌implies◌ : Bool → Bool → Bool
◌implies◌ true b = b
◌implies◌ false b = true

-- each of them holds
abbrev pub conj : List Bool → Bool
conj [] = true
conj (b ∷ bs) = b && conj bs

-- f again and again, k times
abbrev pub iterate : {A : Type 0} → (A → A) → ℕ → A → A
iterate f zero a = a
iterate f (suc k) a = iterate f k (f a)

-- a stands in the list
abbrev pub In : {A : Type 0} → A → List A → Type 0
In a [] = ⊥
In a (x ∷ xs) = (a ≡ x) ⊎ In a xs

module _ {A : Type 0} where
  abbrev pub all : (A → Bool) → List A → Bool
  all f [] = true
  all f (x ∷ xs) = f x && all f xs

  abbrev pub any : (A → Bool) → List A → Bool
  any f [] = false
  any f (x ∷ xs) = f x || any f xs

  abbrev pub filter : (A → Bool) → List A → List A
  filter f [] = []
  filter f (x ∷ xs) = cond (f x) (x ∷ filter f xs) (filter f xs)

  abbrev pub concat : List (List A) → List A
  concat [] = []
  concat (x ∷ xs) = x ++ concat xs

  abbrev pub head : List A → Option A
  head [] = None
  head (x ∷ xs) = Some x

abbrev pub mem : ℕ → List ℕ → Bool
mem r xs = any (λ x. eqb r x) xs

abbrev pub same : List ℕ → List ℕ → Bool
same [] [] = true
same [] (y ∷ ys) = false
same (x ∷ xs) [] = false
same (x ∷ xs) (y ∷ ys) = eqb x y && same xs ys

-- the value that stands beside r in a list of pairs
abbrev pub lookup : List (ℕ × ℕ) → ℕ → ℕ → ℕ
lookup [] r d = d
lookup (x ∷ xs) r d = elim (eqb r x.0) [ true ↦ x.1 | false ↦ lookup xs r d ]

-- start and end of each list, end to end from s
abbrev pub spans : {A : Type 0} → ℕ → List (List A) → List ℕ
spans s [] = []
spans s (b ∷ bs) = s ∷ (s + length b) ∷ spans (s + length b) bs

-- ---- a set of numbers, as a list that says of each whether it is in

abbrev pub member : List Bool → ℕ → Bool
member S p = get_or S p false

abbrev pub count : List Bool → ℕ
count [] = 0
count (true ∷ S) = suc (count S)
count (false ∷ S) = count S

-- 1 for true
abbrev pub hit : Bool → ℕ
hit true = 1
hit false = 0
