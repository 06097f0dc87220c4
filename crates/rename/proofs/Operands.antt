-- The loops over a list of operands. Assumes nothing.
use mathlib.Core.Path.{◌≡◌, refl, sym, ap, ap₂, ◌∙◌}
use mathlib.Core.Bool.{Bool, true, false, not, ◌&&◌, ◌||◌}
use mathlib.Core.List.{List, [], ◌∷◌, ◌++◌, map}
use Prim.Native.Nat.{ℕ, ◌+◌, ◌≤◌, ◌<◌}
use native.Mathlib.Omega.{arith}
use lib.Dec.{eqb}
use lib.ListN.{length, get_or, set, drop, length-set}
use lib.Seq.{drop-set-lt, take-set-le, get_or-take, drop-drop}
use Rattle.words.specs.Lists.{same}
use Rattle.words.proofs.Lists.{map_append}
use Rattle.words.proofs.Parts.{part_push, part_snoc}
use Rattle.rename.specs.Names.{named, part, list_changes, Appended}

-- ---- changes

-- one operand has another name: the list of names is another
pub any_changes : (ws l : List ℕ) → list_changes ws l ≡ not (same (map (named ws) l) l)
any_changes ws [] = refl
any_changes ws (x ∷ l) = ap (λ (b : Bool). not (eqb (named ws x) x) || b) (any_changes ws l) ∙ either (eqb (named ws x) x) (same (map (named ws) l) l)
  where
    either : (a b : Bool) → (not a || not b) ≡ not (a && b)
    either true b = refl
    either false b = refl

-- ---- append

pub appended_none : (s o : ℕ) (ws xs : List ℕ) → Appended s o ws xs xs 0
appended_none s o ws xs = record { size = refl; front = refl; more = refl; back = refl }

pub appended_front : {s o k : ℕ} {ws xs ys : List ℕ} → Appended s o ws xs ys k → (j : ℕ) → j < o → get_or ys j 0 ≡ get_or xs j 0
appended_front {s} {o} {k} {ws} {xs} {ys} h j l = sym (get_or-take o ys j 0 l) ∙ ap (λ (m : List ℕ). get_or m j 0) h.front ∙ get_or-take o xs j 0 l

pub appended_more : {s o k v n : ℕ} {ws xs ys : List ℕ} → Appended s o ws xs ys k → k < n → s + n ≤ o → o + n ≤ length xs → v ≡ named ws (get_or ys (s + k) 0) → Appended s o ws xs (set ys (o + k) v) (k + 1)
appended_more {s} {o} {k} {v} {n} {ws} {xs} {ys} h lt le room e =
    let sz = h.size in
    let w : ℕ = get_or xs (s + k) 0 in
    record {
      size = length-set ys (o + k) v ∙ sz;
      front = take-set-le o ys (o + k) v (omega arith) ∙ h.front;
      more =
          part_push o k ys v (omega arith) ∙ ap₂ (λ (l : List ℕ) (x : ℕ). l ++ (x ∷ [])) h.more (e ∙ ap (named ws) (appended_front h (s + k) (omega arith)))
          ∙ sym (map_append (named ws) (part s k xs) (w ∷ [])) ∙ ap (map (named ws)) (sym (part_snoc s k xs 0 (omega arith)));
      back =
          drop-set-lt (o + (k + 1)) ys (o + k) v (omega arith) ∙ ap (λ (j : ℕ). drop j ys) {x = o + (k + 1)} {y = o + k + 1} (omega arith)
          ∙ sym (drop-drop 1 (o + k) ys) ∙ ap (drop 1) h.back ∙ drop-drop 1 (o + k) xs ∙ ap (λ (j : ℕ). drop j xs) {x = o + k + 1} {y = o + (k + 1)} (omega arith);
    }
