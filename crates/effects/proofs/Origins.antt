-- Origins by their numbers: equal origins have equal numbers, and what the code tests of a number is what `model` says of the
-- origin. Assumes nothing.
use mathlib.Core.Bool.{Bool, true, false, cond, ◌&&◌, ◌||◌, or-false}
use mathlib.Core.List.{List, [], ◌∷◌}
use mathlib.Core.Path.{◌≡◌, refl, sym, ap, ◌∙◌, subst}
use Prim.Native.Nat.{ℕ, zero, suc, ◌+◌, ◌*◌, ◌/◌, ◌%◌, ◌≤◌}
use native.Mathlib.Decide.{ℕ_discrete}
use native.Mathlib.Omega.{arith}
use borrow.Author.Tests.{eq-eqb, ne_eqb, eqb-true, le-leb}
use lib.Dec.{eqb, leb}
use Rattle.words.specs.Lists.{same}
use Rattle.words.proofs.Bools.{true_T, both_true, clash, and_no}
use Rattle.words.proofs.Lists.{same_eq}
use Rattle.model.specs.Analyse.{Org, Unknown, Frame, Temp, Img, org_code, same_org, alias, inside, sized, movable}
use Rattle.model.specs.Legal.{readable, steady}
use denote.Enum.Declared.{tag_of}
use Rattle.effects.specs.Origin.{org_at, class_at, class_of, class_code, num}
use Rattle.effects.specs.declared.arms.Class.{Class}
use Rattle.effects.specs.declared.arms.Class.TheVariants.{No, Movable, Free}
use Rattle.effects.specs.contracts.arms.Class as C

pub temp_at : (k : ℕ) → org_at (4 + 2 * k) ≡ Temp k
unfolding org_at
temp_at k =
    let e : 4 + 2 * k ≡ suc (suc (suc (suc (2 * k)))) = omega arith in
    let m : (2 * k) % 2 ≡ 0 = omega arith in
    let d : (2 * k) / 2 ≡ k = omega arith in
    ap org_at e ∙ ap (λ (x : ℕ). cond (eqb x 0) (Temp ((2 * k) / 2)) (Img ((2 * k) / 2))) m ∙ ap Temp d

pub img_at : (k : ℕ) → org_at (5 + 2 * k) ≡ Img k
unfolding org_at
img_at k =
    let e : 5 + 2 * k ≡ suc (suc (suc (suc (2 * k + 1)))) = omega arith in
    let m : (2 * k + 1) % 2 ≡ 1 = omega arith in
    let d : (2 * k + 1) / 2 ≡ k = omega arith in
    ap org_at e ∙ ap (λ (x : ℕ). cond (eqb x 0) (Temp ((2 * k + 1) / 2)) (Img ((2 * k + 1) / 2))) m ∙ ap Img d

-- every number is of one of these
data Shape : ℕ → Type 0 where
  unknown : Shape 0
  ro : Shape 1
  heap : Shape 2
  frame : Shape 3
  temp : (k : ℕ) → Shape (4 + 2 * k)
  img : (k : ℕ) → Shape (5 + 2 * k)

shape : (a : ℕ) → Shape a
shape zero = unknown
shape (suc zero) = ro
shape (suc (suc zero)) = heap
shape (suc (suc (suc zero))) = frame
shape (suc (suc (suc (suc n)))) = go (n % 2) refl
  where
    go : (m : ℕ) → n % 2 ≡ m → Shape (suc (suc (suc (suc n))))
    go zero e = let q : 4 + 2 * (n / 2) ≡ suc (suc (suc (suc n))) = omega arith in subst Shape q (temp (n / 2))
    go (suc m) e = let q : 5 + 2 * (n / 2) ≡ suc (suc (suc (suc n))) = omega arith in subst Shape q (img (n / 2))

-- ---- the number of an origin, back from its code

uncode : List ℕ → ℕ
uncode [] = 0
uncode (t ∷ []) = t
uncode (t ∷ k ∷ ks) = t + 2 * k

uncoded : (a : ℕ) → Shape a → uncode (org_code (org_at a)) ≡ a
unfolding uncode org_at
uncoded a unknown = refl
uncoded a ro = refl
uncoded a heap = refl
uncoded a frame = refl
uncoded a (temp k) = ap (λ (o : Org). uncode (org_code o)) (temp_at k)
uncoded a (img k) = ap (λ (o : Org). uncode (org_code o)) (img_at k)

same_refl : (xs : List ℕ) → same xs xs ≡ true
same_refl [] = refl
same_refl (x ∷ xs) = ap (λ (b : Bool). b && same xs xs) (eq-eqb x x refl) ∙ same_refl xs

pub same_at : (a b : ℕ) → same_org (org_at a) (org_at b) ≡ eqb a b
same_at a b = go (ℕ_discrete a b)
  where
    by : (x : Bool) → same_org (org_at a) (org_at b) ≡ x → (a ≡ b → ⊥) → x ≡ false
    by true e n = absurd (n (sym (uncoded a (shape a)) ∙ ap uncode (same_eq (org_code (org_at a)) (org_code (org_at b)) (true_T _ e)) ∙ uncoded b (shape b)))
    by false e n = refl

    go : Dec (a ≡ b) → same_org (org_at a) (org_at b) ≡ eqb a b
    go (yes e) = ap (λ (x : ℕ). same_org (org_at x) (org_at b)) e ∙ same_refl (org_code (org_at b)) ∙ sym (eq-eqb a b e)
    go (no n) = by (same_org (org_at a) (org_at b)) refl n ∙ sym (ne_eqb a b n)

-- memory that is Temp, by its number
pub temp_number : (a k : ℕ) → org_at a ≡ Temp k → a ≡ 4 + 2 * k
temp_number a k e = eqb-true a (4 + 2 * k) (sym (same_at a (4 + 2 * k)) ∙ ap (λ (o : Org). same_org o (org_at (4 + 2 * k))) (e ∙ sym (temp_at k)) ∙ same_at (4 + 2 * k) (4 + 2 * k) ∙ eq-eqb (4 + 2 * k) (4 + 2 * k) refl)

-- ---- small steps

at_unknown : (r : ℕ) → same_org (org_at r) Unknown ≡ eqb r 0
unfolding org_at
at_unknown r = same_at r 0

at_frame : (r : ℕ) → same_org (org_at r) Frame ≡ eqb r 3
unfolding org_at
at_frame r = same_at r 3

or_yes : (a : Bool) {b : Bool} → b ≡ true → (a || b) ≡ true
or_yes true e = refl
or_yes false e = e

or_no : {a b : Bool} → a ≡ false → b ≡ false → (a || b) ≡ false
or_no {a} {b} e f = ap (λ (x : Bool). x || b) e ∙ f

-- ---- what the code tests

module _ (r : ℕ) where
  block_alias : (k : ℕ) (o : Org) → org_at k ≡ o → 4 ≤ k → eqb k 0 || eqb r 0 || (leb 3 k && eqb r k) ≡ same_org (org_at r) Unknown || same_org (org_at r) o
  block_alias k o e h =
      ap (λ (b : Bool). b || eqb r 0 || (leb 3 k && eqb r k)) (ne_eqb k 0 (λ q. omega arith))
      ∙ ap (λ (b : Bool). eqb r 0 || (b && eqb r k)) (le-leb 3 k (omega arith))
      ∙ ap (λ (b : Bool). b || eqb r k) (sym (at_unknown r))
      ∙ ap (λ (b : Bool). same_org (org_at r) Unknown || b) (sym (same_at r k) ∙ ap (same_org (org_at r)) e)

  alias_by : (w : ℕ) → Shape w → eqb w 0 || eqb r 0 || (leb 3 w && eqb r w) ≡ alias (org_at w) (org_at r)
  unfolding org_at
  alias_by w unknown = refl
  alias_by w ro = or-false (eqb r 0) ∙ sym (at_unknown r)
  alias_by w heap = or-false (eqb r 0) ∙ sym (at_unknown r)
  alias_by w frame = ap (λ (b : Bool). b || eqb r 3) (sym (at_unknown r)) ∙ ap (λ (b : Bool). same_org (org_at r) Unknown || b) (sym (at_frame r))
  alias_by w (temp k) = block_alias (4 + 2 * k) (Temp k) (temp_at k) (omega arith) ∙ sym (ap (λ (o : Org). alias o (org_at r)) (temp_at k))
  alias_by w (img k) = block_alias (5 + 2 * k) (Img k) (img_at k) (omega arith) ∙ sym (ap (λ (o : Org). alias o (org_at r)) (img_at k))

pub alias_is : (w r : ℕ) → eqb w 0 || eqb r 0 || (leb 3 w && eqb r w) ≡ alias (org_at w) (org_at r)
alias_is w r = alias_by r w (shape w)

readable_by : (o : ℕ) → Shape o → eqb o 1 || leb 3 o ≡ readable (org_at o)
unfolding org_at
readable_by o unknown = refl
readable_by o ro = refl
readable_by o heap = refl
readable_by o frame = refl
readable_by o (temp k) = or_yes (eqb (4 + 2 * k) 1) (le-leb 3 (4 + 2 * k) (omega arith)) ∙ sym (ap readable (temp_at k))
readable_by o (img k) = or_yes (eqb (5 + 2 * k) 1) (le-leb 3 (5 + 2 * k) (omega arith)) ∙ sym (ap readable (img_at k))

pub readable_is : (o : ℕ) → eqb o 1 || leb 3 o ≡ readable (org_at o)
readable_is o = readable_by o (shape o)

steady_by : (o : ℕ) → Shape o → eqb o 1 || eqb o 2 ≡ steady (org_at o)
unfolding org_at
steady_by o unknown = refl
steady_by o ro = refl
steady_by o heap = refl
steady_by o frame = refl
steady_by o (temp k) = or_no (ne_eqb (4 + 2 * k) 1 (λ q. omega arith)) (ne_eqb (4 + 2 * k) 2 (λ q. omega arith)) ∙ sym (ap steady (temp_at k))
steady_by o (img k) = or_no (ne_eqb (5 + 2 * k) 1 (λ q. omega arith)) (ne_eqb (5 + 2 * k) 2 (λ q. omega arith)) ∙ sym (ap steady (img_at k))

pub steady_is : (o : ℕ) → eqb o 1 || eqb o 2 ≡ steady (org_at o)
steady_is o = steady_by o (shape o)

inside-yes_by : (o : ℕ) → Shape o → (leb 4 o && eqb (o % 2) 1) ≡ true → org_at o ≡ inside (org_at o)
unfolding org_at
inside-yes_by o unknown t = refl
inside-yes_by o ro t = clash t refl
inside-yes_by o heap t = clash t refl
inside-yes_by o frame t = clash t refl
inside-yes_by o (temp k) t = clash t (and_no (leb 4 (4 + 2 * k)) (ne_eqb ((4 + 2 * k) % 2) 1 (λ q. omega arith)))
inside-yes_by o (img k) t = img_at k ∙ sym (ap inside (img_at k))

pub inside_yes : (o : ℕ) → (leb 4 o && eqb (o % 2) 1) ≡ true → org_at o ≡ inside (org_at o)
inside_yes o = inside-yes_by o (shape o)

inside_no_by : (o : ℕ) → Shape o → (leb 4 o && eqb (o % 2) 1) ≡ false → org_at 0 ≡ inside (org_at o)
unfolding org_at
inside_no_by o unknown t = refl
inside_no_by o ro t = refl
inside_no_by o heap t = refl
inside_no_by o frame t = refl
inside_no_by o (temp k) t = sym (ap inside (temp_at k))
inside_no_by o (img k) t = clash (both_true (leb 4 (5 + 2 * k)) (eqb ((5 + 2 * k) % 2) 1) (le-leb 4 (5 + 2 * k) (omega arith)) (eq-eqb ((5 + 2 * k) % 2) 1 (omega arith))) t

pub inside_no : (o : ℕ) → (leb 4 o && eqb (o % 2) 1) ≡ false → org_at 0 ≡ inside (org_at o)
inside_no o = inside_no_by o (shape o)

sized_by : (o : ℕ) (y : Bool) → Shape o → leb 4 o && eqb (o % 2) 0 && y ≡ sized (λ k. y) (org_at o)
unfolding org_at
sized_by o y unknown = refl
sized_by o y ro = refl
sized_by o y heap = refl
sized_by o y frame = refl
sized_by o y (temp k) = ap (λ (b : Bool). b && y) (both_true (leb 4 (4 + 2 * k)) (eqb ((4 + 2 * k) % 2) 0) (le-leb 4 (4 + 2 * k) (omega arith)) (eq-eqb ((4 + 2 * k) % 2) 0 (omega arith))) ∙ sym (ap (sized (λ k. y)) (temp_at k))
sized_by o y (img k) = ap (λ (b : Bool). b && y) (and_no (leb 4 (5 + 2 * k)) (ne_eqb ((5 + 2 * k) % 2) 0 (λ q. omega arith))) ∙ sym (ap (sized (λ k. y)) (img_at k))

pub sized_is : (o : ℕ) (y : Bool) → leb 4 o && eqb (o % 2) 0 && y ≡ sized (λ k. y) (org_at o)
sized_is o y = sized_by o y (shape o)

-- ---- two origins, and an address

pub agree_yes : (a b : ℕ) → a ≡ b → org_at a ≡ cond (same_org (org_at a) (org_at b)) (org_at a) Unknown
agree_yes a b e = sym (ap (λ (t : Bool). cond t (org_at a) Unknown) (same_at a b ∙ eq-eqb a b e))

pub agree_no : (a b : ℕ) → (a ≡ b → ⊥) → org_at 0 ≡ cond (same_org (org_at a) (org_at b)) (org_at a) Unknown
unfolding org_at
agree_no a b n = sym (ap (λ (t : Bool). cond t (org_at a) Unknown) (same_at a b ∙ ne_eqb a b n))

-- ---- a class and a flag, by their numbers

pub class_tag : (c : Class) → tag_of C.the_type c ≡ class_code c
class_tag No = refl
class_tag Movable = refl
class_tag Free = refl

pub class_kept : (c : Class) → class_at (class_code c) ≡ class_of c
unfolding class_at
class_kept No = refl
class_kept Movable = refl
class_kept Free = refl

pub movable_is : (c : ℕ) → movable (class_at c) ≡ eqb c 1
unfolding class_at
movable_is zero = refl
movable_is (suc zero) = refl
movable_is (suc (suc c)) = sym (ne_eqb (suc (suc c)) 1 (λ e. omega arith))

pub num_le : (b : Bool) → num b ≤ 1
unfolding num
num_le true = omega arith
num_le false = omega arith

pub num_is : (b : Bool) → eqb (num b) 1 ≡ b
unfolding num
num_is true = refl
num_is false = refl
