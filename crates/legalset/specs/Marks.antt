-- A set of positions as marks, 0 for outside, and one mark dropped. Assumes nothing.
use Rattle.std.specs.Prelude.{◌≡◌, Bool, not, ◌&&◌, cond, List, [], ◌∷◌, ℕ, ◌+◌, ◌≤◌, ◌<◌, T, eqb, get_or, length, set}
use Rattle.words.specs.Lists.{hit}

infix 20 ◌⊑◌
abbrev pub ◌⊑◌ : (ℕ → Bool) → (ℕ → Bool) → Type 0
L ⊑ M = (p : ℕ) → T (L p) → T (M p)

-- position p is in the set
unfoldable pub in_set : List ℕ → ℕ → Bool
in_set marks p = not (eqb (get_or marks p 0) 0)

-- how many are
unfoldable pub members : List ℕ → ℕ
members [] = 0
members (x ∷ xs) = hit (not (eqb x 0)) + members xs

-- p goes out if it is in and breaks a rule; and how many go
unfoldable pub sifted : List ℕ → ℕ → Bool → List ℕ
sifted S p ok = cond (in_set S p && not ok) (set S p 0) S

unfoldable pub lost : List ℕ → ℕ → Bool → ℕ
lost S p ok = hit (in_set S p && not ok)

-- a rule that is tested by a summary of one set and by another, over one and the same
abbrev pub own : ((ℕ → Bool) → (ℕ → Bool) → ℕ → Bool) → (ℕ → Bool) → ℕ → Bool
own ok L p = ok L L p

-- U is S after the positions from a up to b were looked at, and r members dropped: no set that keeps the rule loses any, and if none
-- was dropped each member looked at keeps the rule
pub record Passed (ok : (ℕ → Bool) → ℕ → Bool) (a b : ℕ) (S U : List ℕ) (r : ℕ) : Type 0 where
  pub size : length U ≡ length S
  pub within : in_set U ⊑ in_set S
  pub holds : (L : ℕ → Bool) → L ⊑ in_set S → ((p : ℕ) → T (L p) → T (ok L p)) → L ⊑ in_set U
  pub count : members U + r ≡ members S
  pub left : r ≡ 0 → (U ≡ S) × ((p : ℕ) → a ≤ p → p < b → T (in_set S p) → T (ok (in_set S) p))

-- all positions in the set are among the first m
pub record Inside (m : ℕ) (S : List ℕ) : Type 0 where
  pub low : (p : ℕ) → T (in_set S p) → p < m

-- dropping from S until nothing breaks the rule, or fewer than `least` are left, came to U, of r members
pub record Settled (ok : (ℕ → Bool) → ℕ → Bool) (m least : ℕ) (S U : List ℕ) (r : ℕ) : Type 0 where
  pub size : length U ≡ length S
  pub within : in_set U ⊑ in_set S
  pub holds : (L : ℕ → Bool) → L ⊑ in_set S → ((p : ℕ) → T (L p) → T (ok L p)) → L ⊑ in_set U
  pub count : r ≡ members U
  pub keeps : least ≤ r → (p : ℕ) → p < m → T (in_set U p) → T (ok (in_set U) p)
