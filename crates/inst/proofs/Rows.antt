-- The table's rule: the printed words are what `model`'s Kinds says of each kind at each form, by one test that antt computes over them
-- all; each field of such a word; and that Const alone is of the first arm. Assumes nothing.
use mathlib.Core.Bool.{Bool, true, false, cond, not, ◌&&◌}
use Rattle.std.proofs.Math.Bool.{and-false}
use mathlib.Core.Path.{◌≡◌, refl, sym, ap, ap₂, ◌∙◌}
use mathlib.Core.Logic.{⊎_elim}
use mathlib.Core.List.{List, [], ◌∷◌, map}
use Prim.Native.Nat.{ℕ, zero, suc, ◌+◌, ◌*◌, ◌/◌, ◌%◌, ◌≤◌, ◌<◌, min}
use native.Mathlib.Omega.{arith}
use lib.Dec.{eqb, leb}
use lib.ListN.{get_or, drop}
use borrow.Author.Tests.{eqb-true, ne_eqb, le-leb, lt-leb, leb-true}
use Rattle.words.specs.Lists.{upto, all}
use Rattle.words.proofs.Alls as A
use Rattle.words.proofs.Bools.{clash, lt?}
use Rattle.model.specs.Kinds.{Kind, Stmt, Slot, Def, Use, Def?, Use?, Use-but-1, Use-from-2, Def-if-1, Role, off, wr, rd, wr?, rd?, row, kinds, kind_of, at_form}
use Rattle.inst.specs.Table.{role_code, arm_code, arm_at, shape_code, bit, pack, packed, allowed_at, uses, has_list, shape, allowed, arm, quiet, Printed}
use Rattle.inst.specs.declared.roles.TheConstants.{ROWS}
use Rattle.inst.proofs.Arms.{arm_kept, arm_small}
use Rattle.inst.proofs.Lists.{all_at}

-- ---- the test

abbrev right : ℕ → ℕ → Bool
right w f = eqb (get_or ROWS (8 * w + f) 0) (packed (kind_of w) f)

tested : all (λ w. all (right w) (upto 8)) (upto 101) ≡ true
unfolding packed
tested = refl

-- so each word is what the rule gives
pub printed : Printed ROWS
printed w f h l = eqb-true (get_or ROWS (8 * w + f) 0) (packed (kind_of w) f) (A.all_at (right w) 8 (A.all_at (λ w. all (right w) (upto 8)) 101 tested w h) f l)

-- ---- any other form is as the eighth

-- no kind has a form above 6
few_forms : all (λ k. leb (row k).most 6) kinds ≡ true
few_forms = refl

most_low : (w : ℕ) → (row (kind_of w)).most ≤ 6
most_low w = leb-true (row (kind_of w)).most 6 (all_at (λ k. leb (row k).most 6) kinds Stmt few_forms refl w)

-- above the greatest
above : (w f : ℕ) → 7 ≤ f → allowed_at (kind_of w) f ≡ false
above w f h =
    ap (λ (b : Bool). leb (row (kind_of w)).least f && b) (lt-leb f (row (kind_of w)).most (let z = most_low w in omega arith))
    ∙ and-false (leb (row (kind_of w)).least f)

module _ (f : ℕ) (h : 7 ≤ f) where
  not_one : eqb f 1 ≡ false
  not_one = ne_eqb f 1 (λ e. omega arith)

  from_two : leb 2 f ≡ true
  from_two = le-leb 2 f (omega arith)

  slot_late : (s : Slot) → at_form 7 s ≡ at_form f s
  slot_late Def = refl
  slot_late Use = refl
  slot_late Def? = refl
  slot_late Use? = refl
  slot_late Use-but-1 = simp not_one
  slot_late Use-from-2 = simp from_two
  slot_late Def-if-1 = simp not_one

  slots_late : (ss : List Slot) → map (at_form 7) ss ≡ map (at_form f) ss
  slots_late [] = refl
  slots_late (s ∷ ss) = ap₂ (λ (o : Role) (os : List Role). o ∷ os) (slot_late s) (slots_late ss)

  packed_late : (w : ℕ) → packed (kind_of w) 7 ≡ packed (kind_of w) f
  unfolding packed
  packed_late w = rw (slots_late (row (kind_of w)).slots, above w 7 (omega arith), above w f h) refl

-- the word that the table has at a kind and a form
pub row_is : (words : List ℕ) → Printed words → (w f : ℕ) {m : ℕ} → w < 101 → m ≡ min f 7 → get_or words (8 * w + m) 0 ≡ packed (kind_of w) f
row_is words p w f {m} h e =
    ⊎_elim (λ (l : f < 7). let z : m ≡ f = omega arith in p w m h (omega arith) ∙ ap (packed (kind_of w)) z)
    (λ (l : 7 ≤ f). let z : m ≡ 7 = omega arith in p w m h (omega arith) ∙ ap (packed (kind_of w)) z ∙ packed_late f l w) (lt? f 7)

-- ---- six numbers in one word

pub role_small : (o : Role) → role_code o ≤ 6
role_small off = omega arith
role_small wr = omega arith
role_small rd = omega arith
role_small wr? = omega arith
role_small rd? = omega arith

pack_small : (os : List Role) → pack os < 1048576
pack_small os =
    omega (arith, role_small (get_or os 0 off), role_small (get_or os 1 off), role_small (get_or os 2 off), role_small (get_or os 3 off), role_small (get_or os 4 off))

bit_small : (b : Bool) → bit b < 2
bit_small true = omega arith
bit_small false = omega arith

shape_small : (a b c : Bool) → cond a 1 (cond b 2 (cond c 3 0)) < 4
shape_small true b c = omega arith
shape_small false true c = omega arith
shape_small false false true = omega arith
shape_small false false false = omega arith

-- x is these six, each in its place
record Six (x u s l a r q : ℕ) : Type 0 where
  first : x % 1048576 ≡ u
  second : x / 1048576 % 4 ≡ s
  third : x / 4194304 % 2 ≡ l
  fourth : x / 8388608 % 2 ≡ a
  fifth : x / 16777216 % 32 ≡ r
  sixth : x / 536870912 % 2 ≡ q

six : (u s l a r q : ℕ) → u < 1048576 → s < 4 → l < 2 → a < 2 → r < 32 → q < 2 → Six (u + 1048576 * s + 4194304 * l + 8388608 * a + 16777216 * r + 536870912 * q) u s l a r q
six u s l a r q pu ps pl pa pr pq = record {
  first = omega arith;
  second = omega arith;
  third = omega arith;
  fourth = omega arith;
  fifth = omega arith;
  sixth = omega arith;
}

bit_is : {n : ℕ} (b : Bool) → n ≡ bit b → eqb n 1 ≡ b
bit_is true e = ap (λ (m : ℕ). eqb m 1) e
bit_is false e = ap (λ (m : ℕ). eqb m 1) e

-- ---- each field back

module _ (k : Kind) (f : ℕ) where
  abbrev os : List Role
  os = map (at_form f) (row k).slots

  fields : Six (packed k f) (pack os) (shape_code k) (bit (row k).list) (bit (allowed_at k f)) (arm_code (row k).arm) (bit (row k).quiet)
  unfolding packed
  fields =
      six (pack os) (shape_code k) (bit (row k).list) (bit (allowed_at k f)) (arm_code (row k).arm) (bit (row k).quiet)
      (pack_small os) (shape_small _ _ _) (bit_small (row k).list) (bit_small (allowed_at k f)) (arm_small (row k).arm) (bit_small (row k).quiet)

  pub uses_is : uses (packed k f) ≡ pack os
  uses_is = fields.first

  pub shape_is : shape (packed k f) ≡ shape_code k
  shape_is = fields.second

  pub list_is : has_list (packed k f) ≡ (row k).list
  list_is = bit_is (row k).list fields.third

  pub allowed_is : allowed (packed k f) ≡ allowed_at k f
  allowed_is = bit_is (allowed_at k f) fields.fourth

  pub arm_is : arm (packed k f) ≡ arm_code (row k).arm
  arm_is = fields.fifth

  pub arm_back : arm_at (arm (packed k f)) ≡ (row k).arm
  arm_back = ap arm_at arm_is ∙ arm_kept (row k).arm

  pub quiet_is : quiet (packed k f) ≡ (row k).quiet
  quiet_is = bit_is (row k).quiet fields.sixth

-- ---- Const alone is of the first arm

later_arm : Kind → Bool
later_arm k = not (eqb (arm_code (row k).arm) 0)

pub first_arm : (w f : ℕ) → arm (packed (kind_of w) f) ≡ 0 → w ≡ 0
unfolding later_arm
first_arm zero f e = refl
first_arm (suc n) f e = clash (all_at later_arm (drop 1 kinds) Stmt refl refl n) (ap (λ (c : ℕ). not (eqb c 0)) (sym (arm_is (kind_of (suc n)) f) ∙ e))
