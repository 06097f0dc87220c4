-- Tests over the first n instructions: the fixed answers of the loops that decide them. Assumes nothing.
use mathlib.Core.Path.{◌≡◌, refl, sym, ap, ◌∙◌}
use mathlib.Core.Bool.{Bool, true, false, ◌||◌, or-false}
use mathlib.Core.List.{List, [], ◌∷◌}
use Prim.Native.Nat.{ℕ, zero, suc, ◌+◌, ◌-◌, ◌≤◌, ◌<◌}
use native.Mathlib.Omega.{arith}
use Rattle.std.specs.List.{list_any}
use Rattle.words.specs.Lists.{range, upto, any}
use native.Mathlib.Nat.{zero-add}
use Rattle.words.proofs.Lists.{range_append}
use Rattle.words.proofs.Alls.{any_map, any_append, find_yes, find_on}
use Rattle.model.specs.Picture.{Inst, inst}
use Rattle.checks.specs.Causes.{code}

same : {A : Type 0} (f : A → Bool) (xs : List A) → list_any f xs ≡ any f xs
same f [] = refl
same f (x ∷ xs) = ap (λ (b : Bool). f x || b) (same f xs)

-- what an iterator's `any` answers
pub any_is : {A : Type 0} {r : Bool} (f : A → Bool) (xs : List A) → r ≡ list_any (λ x. f x) xs → r ≡ any f xs
any_is f xs e = e ∙ same f xs

module _ (f : Inst → Bool) (recs : List ℕ) where
  abbrev at : ℕ → Bool
  at p = f (inst recs p)

  by_place : (n : ℕ) → any f (code recs n) ≡ any at (upto n)
  unfolding code
  by_place n = any_map f (inst recs) (upto n)

  -- The places of `while p < n { if f(p) { return true; } p += 1; } false`, with the invariant
  -- (p ≤ n) × (any f (code recs p) ≡ false).
  pub code_none : any f (code recs 0) ≡ false
  code_none = by_place 0

  pub code_yes : {n p : ℕ} {r : Bool} → p < n → r ≡ at p → r ≡ true → true ≡ any f (code recs n)
  code_yes {n} h e t = find_yes at h e t ∙ sym (by_place n)

  pub code_on : (p : ℕ) {r : Bool} → any f (code recs p) ≡ false → r ≡ at p → r ≡ false → any f (code recs (p + 1)) ≡ false
  code_on p h e t = by_place (p + 1) ∙ find_on at {i = p} (sym (by_place p) ∙ h) e t

  -- one more, of a loop that goes on: `found = found | f(p);`
  pub code_more : (p : ℕ) {b r : Bool} → b ≡ any f (code recs p) → r ≡ at p → (b || r) ≡ any f (code recs (p + 1))
  code_more p {b} {r} e h =
      ap (λ (x : Bool). x || r) (e ∙ by_place p) ∙ ap (λ (x : Bool). any at (upto p) || x) (h ∙ sym (or-false (at p)))
      ∙ ap (λ (k : ℕ). any at (upto p) || (at k || false)) (sym (zero-add p))
      ∙ sym (any_append at (upto p) (range (0 + p) 1)) ∙ ap (any at) (range_append 0 p 1) ∙ sym (by_place (p + 1))

  -- none among those from p up to q
  pub code_past : (p q : ℕ) → p ≤ q → ((j : ℕ) → p ≤ j → j < q → f (inst recs j) ≡ false) → any f (code recs p) ≡ any f (code recs q)
  code_past p q l h = go (q - p) (λ j a b. h j a (omega arith)) ∙ ap (λ (m : ℕ). any f (code recs m)) (omega arith)
    where
      go : (d : ℕ) → ((j : ℕ) → p ≤ j → j < p + d → f (inst recs j) ≡ false) → any f (code recs p) ≡ any f (code recs (p + d))
      go zero k = ap (λ (m : ℕ). any f (code recs m)) (omega arith)
      go (suc d) k =
          sym (or-false (any f (code recs p)))
          ∙ code_more (p + d) {b = any f (code recs p)} {r = false} (go d (λ j a b. k j a (omega arith))) (sym (k (p + d) (omega arith) (omega arith)))
          ∙ ap (λ (m : ℕ). any f (code recs m)) (omega arith)
