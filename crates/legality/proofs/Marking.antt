-- Marks past the end, no marks, and how many there can be. Assumes nothing.
use mathlib.Core.Path.{◌≡◌, refl, sym, ap}
use mathlib.Core.Bool.{Bool, true, false, not}
use mathlib.Core.List.{List, [], ◌∷◌}
use Prim.Native.Nat.{ℕ, suc, ◌+◌, ◌≤◌}
use native.Mathlib.Omega.{arith}
use lib.Dec.{eqb}
use lib.ListN.{length}
use Rattle.words.specs.Lists.{hit}
use Rattle.legalset.specs.Marks.{in_set, members}

pub past_marks : (S : List ℕ) (p : ℕ) → length S ≤ p → false ≡ in_set S p
unfolding in_set
past_marks S p h = sym (ap (λ (x : ℕ). not (eqb x 0)) (lib.ListN.get_or-eq_default S 0 h))

pub none_marked : (S : List ℕ) → ((p : ℕ) → in_set S p ≡ false) → members S ≡ 0
unfolding members in_set
none_marked [] h = refl
none_marked (x ∷ S) h = let a = ap hit (h 0) in let b = none_marked S (λ p. h (suc p)) in omega arith

pub members_low : (S : List ℕ) → members S ≤ length S
unfolding members
members_low [] = omega arith
members_low (x ∷ S) = go (not (eqb x 0)) (members_low S)
  where
    go : (b : Bool) → members S ≤ length S → hit b + members S ≤ suc (length S)
    go true h = omega arith
    go false h = omega arith
