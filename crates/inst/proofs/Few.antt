-- How many registers the slots of a record read and write at most: five and three, at any kind and form. Assumes nothing.
use mathlib.Core.Bool.{Bool, true, false, cond, not, ◌&&◌}
use mathlib.Core.Path.{◌≡◌, refl}
use mathlib.Core.List.{List, [], ◌∷◌, map}
use Prim.Native.Nat.{ℕ, ◌+◌, ◌≤◌}
use native.Mathlib.Omega.{arith}
use lib.Dec.{eqb, leb}
use lib.ListN.{get_or, length}
use borrow.Author.Tests.{leb-true}
use Rattle.model.specs.Kinds.{Kind, Stmt, Slot, Def, Use, Def?, Use?, Use-but-1, Use-from-2, Def-if-1, Role, off, rd, wr, row, kinds, kind_of, at_form, pick, reading, writing}
use Rattle.model.specs.Picture.{Inst, inst, absent, roles, slots, kind, form, chosen, writes}
use Rattle.inst.specs.Record.{Within, rest_reads}
use Rattle.inst.proofs.Lists.{all_at}
use Rattle.inst.proofs.Words.{slots_long}

-- one more, if it is chosen
one_more : (b c : Bool) (r : ℕ) (more : List ℕ) → length (cond (b && c) (r ∷ more) more) ≤ cond b 1 0 + length more
one_more true true r more = omega arith
one_more true false r more = omega arith
one_more false c r more = omega arith

chosen_few : (f : Role → Bool) (os : List Role) (rs : List ℕ) → length (chosen f os rs) ≤ length rs
chosen_few f [] rs = omega arith
chosen_few f (o ∷ os) [] = omega arith
chosen_few f (o ∷ os) (r ∷ rs) = go (f o) (one_more (f o) (not (eqb r absent)) r (chosen f os rs)) (chosen_few f os rs)
  where
    go : {n m : ℕ} (b : Bool) → n ≤ cond b 1 0 + m → m ≤ length rs → n ≤ length (r ∷ rs)
    go true h k = omega (arith, h, k)
    go false h k = omega (arith, h, k)

pub few_reads : (recs : List ℕ) (p : ℕ) → Within recs p → length (rest_reads (inst recs p) 0) ≤ 5
unfolding rest_reads
few_reads recs p w = let z = chosen_few reading (roles (inst recs p)) (slots (inst recs p)) in omega (arith, z, slots_long recs p w)

-- ---- writers

-- may the slot write, at some form?
may_write : Slot → ℕ
may_write Def = 1
may_write Use = 0
may_write Def? = 1
may_write Use? = 0
may_write Use-but-1 = 0
may_write Use-from-2 = 0
may_write Def-if-1 = 1

-- how many of these may
most : List Slot → ℕ
most [] = 0
most (s ∷ ss) = may_write s + most ss

module _ (f : ℕ) where
  written : (s : Slot) → cond (writing (at_form f s)) 1 0 ≤ may_write s
  unfolding may_write
  written Def = omega arith
  written Use = omega arith
  written Def? = omega arith
  written Use? = omega arith
  written Use-but-1 = go (eqb f 1)
    where
      go : (b : Bool) → cond (writing (pick b off rd)) 1 0 ≤ 0
      go true = omega arith
      go false = omega arith
  written Use-from-2 = go (leb 2 f)
    where
      go : (b : Bool) → cond (writing (pick b rd off)) 1 0 ≤ 0
      go true = omega arith
      go false = omega arith
  written Def-if-1 = go (eqb f 1)
    where
      go : (b : Bool) → cond (writing (pick b wr rd)) 1 0 ≤ 1
      go true = omega arith
      go false = omega arith

  writes_most : (ss : List Slot) (rs : List ℕ) → length (chosen writing (map (at_form f) ss) rs) ≤ most ss
  unfolding most
  writes_most [] rs = omega arith
  writes_most (s ∷ ss) [] = omega arith
  writes_most (s ∷ ss) (r ∷ rs) =
      let more = chosen writing (map (at_form f) ss) rs in
      omega (arith, one_more (writing (at_form f s)) (not (eqb r absent)) r more, written s, writes_most ss rs)

at_most_three : Kind → Bool
at_most_three k = leb (most (row k).slots) 3

each_kind : (w : ℕ) → at_most_three (kind_of w) ≡ true
unfolding at_most_three most may_write
each_kind = all_at at_most_three kinds Stmt refl refl

pub few_writes : (i : Inst) → length (writes i) ≤ 3
unfolding at_most_three
few_writes i =
    let low : most (row (kind i)).slots ≤ 3 = leb-true (most (row (kind i)).slots) 3 (each_kind (get_or i 0 0)) in
    omega (arith, writes_most (form i) (row (kind i)).slots (slots i), low)
