-- A word's place among others, and the change of a form: one more, and the last. Assumes nothing.
use Rattle.std.proofs.Common.{◌≡◌, sym, ap, ◌∙◌, cond, ℕ, ◌+◌, ◌-◌, ◌<◌, ◌≤◌, eqb, List, get_or, drop, add-one}
use Rattle.std.specs.Str.{bytes_eq}
use Rattle.rolelist.specs.Text.{word}
use Rattle.rolelist.specs.Line.{place_from, slots_from}
use Rattle.rolelist.proofs.Cut.{left, none}

module _ (t w : List ℕ) where
  pub place : (n i : ℕ) → i < n → place_from t w i (n - i) ≡ cond (bytes_eq w (word i t)) i (place_from t w (i + 1) (n - (i + 1)))
  unfolding place_from
  place n i h =
      ap (place_from t w i) (left n i h) ∙ ap (λ (k : ℕ). cond (bytes_eq w (word i t)) i (place_from t w k (n - (i + 1)))) (sym (add-one i))

  pub place_none : (n i : ℕ) → n ≤ i → place_from t w i (n - i) ≡ i
  unfolding place_from
  place_none n i h = ap (place_from t w i) (none n i h)

module _ (f : ℕ) (l : List ℕ) where
  pub slots : (n i : ℕ) → i < n → slots_from f i (n - i) l ≡ cond (eqb (get_or (word i l) 0 0) f) (drop 2 (word i l)) (slots_from f (i + 1) (n - (i + 1)) l)
  unfolding slots_from
  slots n i h =
      ap (λ (k : ℕ). slots_from f i k l) (left n i h)
      ∙ ap (λ (k : ℕ). cond (eqb (get_or (word i l) 0 0) f) (drop 2 (word i l)) (slots_from f k (n - (i + 1)) l)) (sym (add-one i))

  pub slots_none : (n i : ℕ) → n ≤ i → slots_from f i (n - i) l ≡ word 2 l
  unfolding slots_from
  slots_none n i h = ap (λ (k : ℕ). slots_from f i k l) (none n i h)
