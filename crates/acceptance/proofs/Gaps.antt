-- Block bounds, two words a step: a pair x and what is left behind it. Assumes nothing.
use mathlib.Core.Path.{◌≡◌, refl, sym, ap, ◌∙◌}
use mathlib.Core.Bool.{Bool, false, not, ◌||◌}
use mathlib.Core.List.{List, [], ◌∷◌, ◌++◌}
use Prim.Native.Nat.{ℕ, ◌%◌}
use native.Mathlib.Omega.{arith}
use lib.Dec.{eqb, ltb}
use lib.ListN.{length, get_or}
use Rattle.model.specs.Refusal.{gaps}

two : (x rest : List ℕ) → length x ≡ 2 → x ++ rest ≡ get_or x 0 0 ∷ get_or x 1 0 ∷ rest
two [] rest h = absurd (omega arith)
two (a ∷ []) rest h = absurd (omega arith)
two (a ∷ b ∷ []) rest h = refl
two (a ∷ b ∷ c ∷ x) rest h = absurd (omega arith)

pub gap_on : (whole x rest : List ℕ) (at n : ℕ) → whole ≡ x ++ rest → length x ≡ 2
    → (not (eqb (get_or x 0 0) at) || ltb (get_or x 1 0) (get_or x 0 0)) ≡ false → gaps (get_or x 1 0) n rest ≡ gaps at n whole
gap_on whole x rest at n cut long t = sym (ap (gaps at n) (cut ∙ two x rest long) ∙ ap (λ (b : Bool). b || gaps (get_or x 1 0) n rest) t)

pub odd_on : (whole x rest : List ℕ) → whole ≡ x ++ rest → length x ≡ 2 → length rest % 2 ≡ length whole % 2
odd_on whole x rest cut long = let e = ap length (cut ∙ two x rest long) in omega arith
