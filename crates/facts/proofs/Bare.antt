-- Laws of a list of facts without their marks: what a position holds, and what a store changes. Assumes nothing.
use mathlib.Core.Bool.{Bool, false}
use mathlib.Core.List.{List, [], ◌∷◌}
use mathlib.Core.Path.{◌≡◌, refl, sym, ap, ◌∙◌}
use Prim.Native.Nat.{ℕ, zero, suc}
use lib.ListN.{length, set, length-map}
use Rattle.facts.specs.declared.Fact.{Fact}
use Rattle.facts.specs.Marks.{marked, cleared, fact_in, bare}

pub bare_at : (fs : List Fact) (p : ℕ) → fact_in (bare fs) p ≡ cleared (fact_in fs p)
unfolding bare
bare_at [] p = refl
bare_at (f ∷ fs) zero = refl
bare_at (f ∷ fs) (suc p) = bare_at fs p

-- but for the mark, that is the fact
pub bare_shows : (fs : List Fact) (p : ℕ) → marked (fact_in (bare fs) p) (fact_in fs p).member ≡ fact_in fs p
bare_shows fs p = ap (λ (x : Fact). marked x (fact_in fs p).member) (bare_at fs p)

bare_set : (fs : List Fact) (p : ℕ) (f : Fact) → bare (set fs p f) ≡ set (bare fs) p (cleared f)
unfolding bare
bare_set [] p f = refl
bare_set (x ∷ fs) zero f = refl
bare_set (x ∷ fs) (suc p) f = ap (λ (xs : List Fact). cleared x ∷ xs) (bare_set fs p f)

-- a fact without a mark is put as it is
pub bare_put : (fs : List Fact) (p : ℕ) (f : Fact) → f.member ≡ false → bare (set fs p f) ≡ set (bare fs) p f
bare_put fs p f e = bare_set fs p f ∙ ap (λ (b : Bool). set (bare fs) p (marked f b)) (sym e)

-- a mark changes nothing
pub bare_marked : (fs : List Fact) (p : ℕ) (b : Bool) → bare (set fs p (marked (fact_in fs p) b)) ≡ bare fs
unfolding bare
bare_marked [] p b = refl
bare_marked (f ∷ fs) zero b = refl
bare_marked (f ∷ fs) (suc p) b = ap (λ (xs : List Fact). cleared f ∷ xs) (bare_marked fs p b)

pub length_bare : (fs : List Fact) → length (bare fs) ≡ length fs
unfolding bare
length_bare fs = length-map fs cleared
