-- A kind's form and list by its row in the table. Assumes nothing.
use mathlib.Core.Path.{◌≡◌, refl, sym, ap, ◌∙◌}
use mathlib.Core.Bool.{Bool, true, false, cond, not, ◌&&◌, ◌||◌}
use Prim.Native.Nat.{ℕ, ◌+◌, ◌≤◌, ◌<◌}
use mathlib.Core.Logic.{⊎_elim}
use lib.Dec.{eqb, leb, ltb}
use Rattle.std.proofs.lemmas.Bool.Decides.{leb_tells}
use lib.ListN.{get_or}
use borrow.Author.Tests.{lt-ltb, le-ltb}
use Rattle.model.specs.Kinds.{row, kind_of, Cat}
use Rattle.model.specs.Picture.{Inst, kind, form, is_kind}
use Rattle.model.specs.Refusal.{bad_kind, bad_list}
use Rattle.inst.specs.Table.{packed, has_list, allowed}
use Rattle.inst.proofs.Rows.{list_is, allowed_is}

below : (a b : ℕ) → not (leb a b) ≡ ltb b a
below a b = ⊎_elim (λ h. rw (h.0, le-ltb b a h.1)) (λ h. rw (h.0, lt-ltb b a h.1)) (leb_tells a b)

either : (a b : Bool) → not (a && b) ≡ (not a || not b)
either true b = refl
either false b = refl

-- a form outside the least and the greatest
outside : (lo hi f : ℕ) → not (leb lo f && leb f hi) ≡ (ltb f lo || ltb hi f)
outside lo hi f = rw (← below lo f, ← below f hi) (either (leb lo f) (leb f hi))

module _ (i : Inst) (k : ℕ) (e : k ≡ get_or i 0 0) where
  -- ---- 4

  pub no_kind : 100 < k → true ≡ bad_kind i
  no_kind h = sym (ap (λ (b : Bool). b || ltb (form i) (row (kind i)).least || ltb (row (kind i)).most (form i) || (is_kind Cat i && ltb 65535 (get_or i 9 0))) (lt-ltb 100 (get_or i 0 0) (rw e at h)))

  pub kind_by : (f x v : ℕ) {r : Bool} → k ≤ 100 → f ≡ form i → x ≡ packed (kind_of k) f → r ≡ allowed x → v ≡ get_or i 9 0
      → (not r || (eqb k 39 && ltb 65535 v)) ≡ bad_kind i
  kind_by f x v h ef ex er ev =
      rw (er, ex, ef, ev, e, allowed_is (kind i) (form i), le-ltb 100 (get_or i 0 0) (rw e at h))
      (ap (λ (b : Bool). b || (is_kind Cat i && ltb 65535 (get_or i 9 0))) (outside (row (kind i)).least (row (kind i)).most (form i)))

-- ---- 6

module _ (i : Inst) where
  module _ (O : ℕ) {x : ℕ} {b : Bool} (ex : x ≡ packed (kind i) (form i)) (eb : b ≡ has_list x) (s l : ℕ) (es : s ≡ get_or i 7 0) (el : l ≡ get_or i 8 0) where
    listed : b ≡ (row (kind i)).list
    listed = eb ∙ ap has_list ex ∙ list_is (kind i) (form i)

    by : cond b (ltb O (s + l)) (not (eqb s 0 && eqb l 0)) ≡ bad_list O i
    by = rw (listed, es, el)

    pub has_one : b ≡ true → ltb O (s + l) ≡ bad_list O i
    has_one t = sym (ap (λ (c : Bool). cond c (ltb O (s + l)) (not (eqb s 0 && eqb l 0))) t) ∙ by

    pub has_none : b ≡ false → not (eqb s 0 && eqb l 0) ≡ bad_list O i
    has_none t = sym (ap (λ (c : Bool). cond c (ltb O (s + l)) (not (eqb s 0 && eqb l 0))) t) ∙ by
