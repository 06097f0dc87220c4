-- The free words: the topmost of a type, and the closing up. Assumes nothing.
use Rattle.std.proofs.lemmas.List.{take_rest}
use Rattle.std.proofs.lemmas.Option.{none-some, same_Some}
use Rattle.std.specs.Prelude.{Option, Some, None, IfSome, IfNone}
use mathlib.Core.Path.{◌≡◌, refl, sym, ap, ◌∙◌, subst}
use mathlib.Core.Bool.{Bool, false, cond}
use mathlib.Core.List.{List, [], ◌∷◌, ◌++◌}
use Prim.Native.Nat.{ℕ, suc, ◌+◌, ◌-◌, ◌%◌, ◌<◌}
use native.Mathlib.Numerals.{add-one}
use native.Mathlib.Omega.{arith}
use borrow.Author.Tests.{eq-eqb, ne_eqb}
use lib.Dec.{eqb}
use lib.ListN.{length, take, drop, get_or, take-append-drop, length-drop}
use lib.Seq.{sets, drop-cons, get_or-drop}
use Rattle.words.proofs.Copying.{front_sets}
use Rattle.pool.specs.declared.held.Pool.{Pool as Words}
use Rattle.pool.specs.Pool.{piled, free_of, free_words, Top}
use Rattle.model.specs.Move.{found, without}

pub piled_append : (us vs : List ℕ) (fs : List (ℕ × ℕ)) → piled (us ++ vs) fs ≡ piled vs (piled us fs)
unfolding piled
piled_append [] vs fs = refl
piled_append (a ∷ us) vs fs = piled_append us vs (free_of a ∷ fs)

-- none of them is of type ty
pub record Others (ty : ℕ) (ws : List ℕ) : Type 0 where
  pub are : (k : ℕ) → k < length ws → (free_of (get_or ws k 0)).0 ≡ ty → ⊥

module _ (ty : ℕ) where
  rest_others : (w : ℕ) (ws : List ℕ) → Others ty (w ∷ ws) → Others ty ws
  rest_others w ws h = record { are = λ k l. h.are (suc k) (omega arith) }

  first_other : (w : ℕ) (ws : List ℕ) → Others ty (w ∷ ws) → eqb (free_of w).0 ty ≡ false
  first_other w ws h = ne_eqb (free_of w).0 ty (h.are 0 (omega arith))

  -- words of other types on top change neither what is found nor what is left below
  pub found_below : (ws : List ℕ) (fs : List (ℕ × ℕ)) → Others ty ws → found ty (piled ws fs) ≡ found ty fs
  unfolding piled
  found_below [] fs h = refl
  found_below (w ∷ ws) fs h = found_below ws (free_of w ∷ fs) (rest_others w ws h) ∙ ap (λ (b : Bool). cond b (Some (free_of w).1) (found ty fs)) (first_other w ws h)

  pub rest_below : (ws : List ℕ) (fs : List (ℕ × ℕ)) → Others ty ws → without ty (piled ws fs) ≡ piled ws (without ty fs)
  unfolding piled
  rest_below [] fs h = refl
  rest_below (w ∷ ws) fs h =
      rest_below ws (free_of w ∷ fs) (rest_others w ws h) ∙ ap (λ (b : Bool). piled ws (cond b fs (free_of w ∷ without ty fs))) (first_other w ws h)

  -- the word at place k, and what is above it
  split_at : (ws : List ℕ) (k : ℕ) → k < length ws → piled ws [] ≡ piled (drop (suc k) ws) (free_of (get_or ws k 0) ∷ piled (take k ws) [])
  unfolding piled
  split_at ws k lt =
      ap (λ (l : List ℕ). piled l []) (sym (take-append-drop k ws)) ∙ piled_append (take k ws) (drop k ws) []
      ∙ ap (λ (l : List ℕ). piled l (piled (take k ws) [])) (drop-cons ws k 0 lt)

  module _ (ws : List ℕ) (k : ℕ) (lt : k < length ws) (is : (free_of (get_or ws k 0)).0 ≡ ty) (h : Others ty (drop (suc k) ws)) where
    pub found_at : found ty (piled ws []) ≡ Some (free_of (get_or ws k 0)).1
    found_at =
        ap (found ty) (split_at ws k lt) ∙ found_below (drop (suc k) ws) (free_of (get_or ws k 0) ∷ piled (take k ws) []) h
        ∙ ap (λ (b : Bool). cond b (Some (free_of (get_or ws k 0)).1) (found ty (piled (take k ws) []))) (eq-eqb (free_of (get_or ws k 0)).0 ty is)

    pub rest_is_at : without ty (piled ws []) ≡ piled (take k ws ++ drop (suc k) ws) []
    rest_is_at =
        ap (without ty) (split_at ws k lt) ∙ rest_below (drop (suc k) ws) (free_of (get_or ws k 0) ∷ piled (take k ws) []) h
        ∙ ap (λ (b : Bool). piled (drop (suc k) ws) (cond b (piled (take k ws) []) (free_of (get_or ws k 0) ∷ without ty (piled (take k ws) [])))) (eq-eqb (free_of (get_or ws k 0)).0 ty is)
        ∙ sym (piled_append (take k ws) (drop (suc k) ws) [])

-- the type of a free word
abbrev type_of : ℕ → ℕ
type_of w = w % 1048576 % 8

-- the last of the free words that is of type ty, if there is one, is the topmost
abbrev Last : ℕ → List ℕ → Option ℕ → Type 0
Last ty ws r =
    IfNone r ((k : ℕ) → k < length ws → type_of (get_or ws k 0) ≡ ty → ⊥)
    × IfSome r (λ i. (i < length ws) × (type_of (get_or ws i 0) ≡ ty))
    × IfSome r (λ i. (k : ℕ) → i < k → k < length ws → type_of (get_or ws k 0) ≡ ty → ⊥)

top_is : (ty : ℕ) (a : Words) (r : Option ℕ) → Last ty (free_words a) r → Top ty a r
unfolding free_of
top_is ty a None l =
    let h : Others ty (free_words a) = record { are = l.0 } in
    record { within = λ k e. absurd (none-some k e); found_is = found_below ty (free_words a) [] h; rest_is = rest_below ty (free_words a) [] h; type_is = λ k e. absurd (none-some k e) }
top_is ty a (Some i) l =
    let ws : List ℕ = free_words a in
    let some = l.1 in
    let above = l.2 in
    let lt = some.0 in
    let h : Others ty (drop (suc i) ws) =
    record { are = λ k h e. let d = length-drop (suc i) ws in above (suc i + k) (omega arith) (omega arith) (ap (λ (x : ℕ). (free_of x).0) (sym (get_or-drop (suc i) ws k 0)) ∙ e) } in
    record {
      within = λ k e. subst (λ (j : ℕ). j < length ws) (same_Some i k e) lt;
      found_is = found_at ty ws i lt some.1 h;
      rest_is = rest_is_at ty ws i lt some.1 h;
      type_is = λ k e. subst (λ (j : ℕ). (free_of (get_or ws j 0)).0 ≡ ty) (same_Some i k e) some.1;
    }

pub top_of : (ty : ℕ) (a : Words) (ws : List ℕ) (r : Option ℕ) → ws ≡ free_words a → Last ty ws r → Top ty a r
top_of ty a ws r e l = top_is ty a r (subst (λ (us : List ℕ). Last ty us r) e l)

-- a word is taken out where those behind it went down by one, and the list is cut
pub closed_up : (xs : List ℕ) (a : ℕ) → a < length xs
    → take (length xs - 1) (sets xs a (take (length xs - (a + 1)) (drop (a + 1) xs))) ≡ take a xs ++ drop (suc a) xs
closed_up xs a h =
    let vs : List ℕ = drop (a + 1) xs in
    let long : length vs ≡ length xs - (a + 1) = length-drop (a + 1) xs in
    let all : take (length xs - (a + 1)) vs ≡ vs = take_rest xs (a + 1) in
    let end : length xs - 1 ≡ a + length vs = omega (arith, long) in
    ap (λ (l : List ℕ). take (length xs - 1) (sets xs a l)) all ∙ ap (λ (n : ℕ). take n (sets xs a vs)) end ∙ front_sets xs a vs (omega (arith, long))
    ∙ ap (λ (k : ℕ). take a xs ++ drop k xs) (add-one a)
