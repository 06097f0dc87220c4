-- Looking for a register among the present ones. Assumes nothing.
use mathlib.Core.Bool.{Bool, true, false, cond, ◌||◌}
use mathlib.Core.List.{List, [], ◌∷◌, ◌++◌}
use mathlib.Core.Path.{◌≡◌, refl, sym, ap, ◌∙◌}
use Prim.Native.Nat.{ℕ, ◌<◌}
use native.Mathlib.Omega.{arith}
use borrow.Author.Tests.{eq-eqb, ne_eqb}
use lib.Dec.{eqb}
use Rattle.words.specs.Lists.{mem}
use Rattle.model.specs.Picture.{absent}
use Rattle.inst.specs.Record.{present}

-- ---- r among the present ones

pub mem_hit : {g : ℕ} (r : ℕ) (ys : List ℕ) → g ≡ r → r < absent → mem r (present g ++ ys) ≡ true
unfolding present
mem_hit {g} r ys e h =
    ap (λ (x : ℕ). mem r (present x ++ ys)) e
    ∙ ap (λ (b : Bool). mem r (cond b [] (r ∷ []) ++ ys)) (ne_eqb r absent (λ q. omega arith))
    ∙ ap (λ (b : Bool). b || mem r ys) (eq-eqb r r refl)

pub mem_miss : {g : ℕ} (r : ℕ) (ys : List ℕ) → (g ≡ r → ⊥) → mem r (present g ++ ys) ≡ mem r ys
unfolding present
mem_miss {g} r ys n = go (eqb g absent)
  where
    go : (b : Bool) → mem r (cond b [] (g ∷ []) ++ ys) ≡ mem r ys
    go true = refl
    go false = ap (λ (b : Bool). b || mem r ys) (ne_eqb r g (λ q. n (sym q)))
