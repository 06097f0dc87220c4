-- Words copied one by one, and places noted. Assumes nothing.
use mathlib.Core.Path.{◌≡◌, refl, sym, ap, ◌∙◌, subst}
use mathlib.Core.Logic.{⊎_elim}
use mathlib.Core.List.{List, [], ◌∷◌, ◌++◌, map}
use Prim.Native.Nat.{ℕ, ◌+◌, ◌<◌}
use native.Mathlib.Omega.{arith}
use lib.ListN.{get_or, length, take, drop, set, length-set}
use lib.Seq.{take-set-le, drop-set-lt, drop-drop, get_or-set_same, get_or-set_other}
use Rattle.words.proofs.Lists.{map_append}
use Rattle.words.proofs.Parts.{part_push, part_snoc, below_split}
use Rattle.analyse.specs.State.{plain}
use Rattle.chainwords.specs.Puts.{Copied}

-- ---- registers' words

pub copied_none : (from : List ℕ) (a : ℕ) (xs : List ℕ) → Copied from a 0 xs xs
copied_none from a xs = record { size = refl; part = refl; below = refl; behind = refl }

pub copied_more : {from : List ℕ} {a r : ℕ} {xs ys : List ℕ} → Copied from a r xs ys → a + r < length from → 8000 + r < length xs → Copied from a (r + 1) xs (set ys (8000 + r) (plain (get_or from (a + r) 0)))
copied_more {from} {a} {r} {xs} {ys} h l k =
    let u = get_or from (a + r) 0 in
    let v = plain u in
    record {
      size = length-set ys (8000 + r) v ∙ h.size;
      part = part_push 8000 r ys v (omega (arith, h.size)) ∙ ap (λ (l : List ℕ). l ++ (v ∷ [])) h.part ∙ sym (map_append plain (take r (drop a from)) (u ∷ [])) ∙ ap (map plain) (sym (part_snoc a r from 0 l));
      below = take-set-le 8000 ys (8000 + r) v (omega arith) ∙ h.below;
      behind = drop-set-lt (8000 + (r + 1)) ys (8000 + r) v (omega arith) ∙ more ys xs h.behind;
    }
  where
    more : (us vs : List ℕ) → drop (8000 + r) us ≡ drop (8000 + r) vs → drop (8000 + (r + 1)) us ≡ drop (8000 + (r + 1)) vs
    more us vs e =
        let z : 8000 + r + 1 ≡ 8000 + (r + 1) = omega arith in
        subst (λ (n : ℕ). drop n us ≡ drop n vs) z (sym (drop-drop 1 (8000 + r) us) ∙ ap (drop 1) e ∙ drop-drop 1 (8000 + r) vs)

-- ---- each position itself

pub own_more : (ls : List ℕ) (p : ℕ) → p < length ls → ((q : ℕ) → q < p → get_or ls q 0 ≡ q) → (q : ℕ) → q < p + 1 → get_or (set ls p p) q 0 ≡ q
own_more ls p h k q l = ⊎_elim
    (λ (b : q < p). get_or-set_other ls p q p 0 (λ e. omega arith) ∙ k q b)
    (λ (e : q ≡ p). subst (λ (x : ℕ). get_or (set ls p p) x 0 ≡ x) (sym e) (get_or-set_same ls p p 0 h))
    (below_split q p l)
