-- A step for each number of a list: what is done, and what is left to do. Assumes nothing.
use mathlib.Core.Path.{◌≡◌, refl, sym, ap, ◌∙◌}
use mathlib.Core.List.{List, [], ◌∷◌, ◌++◌}
use Prim.Native.Nat.{ℕ, ◌+◌, ◌≤◌, ◌<◌}
use native.Mathlib.Numerals.{add-one}
use lib.ListN.{length, get_or, drop, drop_of_length-le}
use lib.Seq.{drop-cons}
use Rattle.words.specs.Steps.{steps}

pub steps_append : (f : List ℕ → ℕ → List ℕ) (l xs ys : List ℕ) → steps f l (xs ++ ys) ≡ steps f (steps f l xs) ys
unfolding steps
steps_append f l [] ys = refl
steps_append f l (x ∷ xs) ys = steps_append f (f l x) xs ys

-- what is left to do has the same end
pub steps_on : (f : List ℕ → ℕ → List ℕ) (xs ys zs l : List ℕ) {m e : List ℕ} → zs ≡ xs ++ ys → m ≡ steps f l xs → steps f l zs ≡ e → steps f m ys ≡ e
steps_on f xs ys zs l p q h = ap (λ (k : List ℕ). steps f k ys) q ∙ sym (steps_append f l xs ys) ∙ ap (steps f l) (sym p) ∙ h

pub steps_next : (f : List ℕ → ℕ → List ℕ) (xs : List ℕ) (j : ℕ) {l m e : List ℕ} → j < length xs → m ≡ f l (get_or xs j 0) → steps f l (drop j xs) ≡ e → steps f m (drop (j + 1) xs) ≡ e
unfolding steps
steps_next f xs j {l} h q k =
    ap (λ (t : List ℕ). steps f t (drop (j + 1) xs)) q ∙ ap (λ (n : ℕ). steps f (f l (get_or xs j 0)) (drop n xs)) (add-one j) ∙ ap (steps f l) (sym (drop-cons xs j 0 h)) ∙ k

pub steps_end : (f : List ℕ → ℕ → List ℕ) (xs : List ℕ) {l e : List ℕ} → xs ≡ [] → steps f l xs ≡ e → l ≡ e
unfolding steps
steps_end f xs {l} p h = sym (ap (steps f l) p) ∙ h

pub steps_past : (f : List ℕ → ℕ → List ℕ) (xs : List ℕ) (j : ℕ) {l e : List ℕ} → length xs ≤ j → steps f l (drop j xs) ≡ e → l ≡ e
steps_past f xs j h k = steps_end f (drop j xs) (drop_of_length-le xs h) k
