-- How many registers an instruction writes: specs/Results, from the computed tests over the table of kinds. Assumes nothing.
use mathlib.Core.Path.{◌≡◌, ap, ◌∙◌, subst}
use mathlib.Core.Bool.{Bool, true, false, cond, not, ◌&&◌, ◌||◌}
use mathlib.Core.List.{List, [], ◌∷◌}
use Prim.Native.Nat.{ℕ, suc, ◌-◌, ◌≤◌}
use native.Mathlib.Omega.{arith}
use lib.Dec.{T, eqb, ltb, eqb→eq}
use lib.ListN.{get_or, length}
use borrow.Author.Tests.{ltb-false, leb-true}
use Rattle.words.specs.Lists.{all, filter}
use Rattle.words.proofs.Bools.{or_left, or_right, or_rest, implied, not_true_is_false, T_true, true_T}
use Rattle.words.proofs.Members.{all_in, in_get_or, in_range}
use Rattle.model.specs.Kinds.{Kind, Role, Stmt, TakeBounds, Cat, row, kinds, kind_of, place, writing}
use Rattle.model.specs.Picture.{Inst, absent, kind, form, is_kind, roles, slots, chosen, writes}
use Rattle.model.specs.Refusal.{bad_kind}
use Rattle.model.specs.Results.{is_movable, OnlyTakeBounds, TakeBoundsStays, MovableWritesOne}
use Rattle.model.proofs.Movable.{may_move, fact_moves}
use Rattle.model.proofs.Table.{place_is, forms, one_written, take_bounds_or_one, only_take_bounds, moves_with_one, movers_write_one}

-- no more registers than slots that may be written: some may be absent
chosen_few : (f : Role → Bool) (os : List Role) (rs : List ℕ) → length (chosen f os rs) ≤ length (filter f os)
chosen_few f [] rs = omega arith
chosen_few f (o ∷ os) [] = omega arith
chosen_few f (o ∷ os) (r ∷ rs) = go (f o) (eqb r absent) (chosen_few f os rs)
  where
    go : (a b : Bool) → length (chosen f os rs) ≤ length (filter f os)
        → length (cond (a && not b) (r ∷ chosen f os rs) (chosen f os rs)) ≤ length (cond a (o ∷ filter f os) (filter f os))
    go true true h = omega arith
    go true false h = omega arith
    go false b h = h

module _ (i : Inst) (fits : bad_kind i ≡ false) where
  abbrev no_kind : Bool
  no_kind = ltb 100 (get_or i 0 0)

  abbrev low_form : Bool
  low_form = ltb (form i) (row (kind i)).least

  abbrev high_form : Bool
  high_form = ltb (row (kind i)).most (form i)

  kind_and_form : (no_kind || low_form || high_form) ≡ false
  kind_and_form = or_left (no_kind || low_form || high_form) (is_kind Cat i && ltb 65535 (get_or i 9 0)) fits

  pub kind_low : get_or i 0 0 ≤ 100
  kind_low = ltb-false 100 (get_or i 0 0) (or_left no_kind low_form (or_left (no_kind || low_form) high_form kind_and_form))

  -- what holds of every kind at every form allowed holds of the instruction's
  at_form_of : (t : Kind → ℕ → Bool) → all (λ k. all (t k) (forms k)) kinds ≡ true → T (t (kind i) (form i))
  at_form_of t e =
      let least = (row (kind i)).least in
      let most = (row (kind i)).most in
      let low = ltb-false (form i) least (or_right no_kind low_form (or_left (no_kind || low_form) high_form kind_and_form)) in
      let high = ltb-false most (form i) (or_right (no_kind || low_form) high_form kind_and_form) in
      let its = all_in (λ k. all (t k) (forms k)) (kind i) kinds (true_T (all (λ k. all (t k) (forms k)) kinds) e) (in_get_or Stmt kinds (get_or i 0 0) (let h = kind_low in omega arith)) in
      all_in (t (kind i)) (form i) (forms (kind i)) its (in_range (form i) least (suc most - least) (omega arith) (omega arith))

  one : T (one_written (kind i) (form i)) → length (writes i) ≤ 1
  one t =
      let a = leb-true (length (filter writing (roles i))) 1 (T_true (one_written (kind i) (form i)) t) in
      let b = chosen_few writing (roles i) (slots i) in
      omega arith

pub other_kinds_write_one : OnlyTakeBounds
other_kinds_write_one i fits other =
    let it : eqb (place (kind i)) (place TakeBounds) ≡ false = ap (λ (n : ℕ). eqb n (place TakeBounds)) (place_is (get_or i 0 0) (let h = kind_low i fits in omega arith)) ∙ other in
    one i fits (or_rest (eqb (place (kind i)) (place TakeBounds)) (one_written (kind i) (form i)) (at_form_of i fits take_bounds_or_one only_take_bounds) it)

pub movable_writes_one : MovableWritesOne
movable_writes_one G ops past i fits m =
    let may = T_true (may_move (row (kind i)).arm) (fact_moves G ops past i (true_T (is_movable G ops past i) m)) in
    one i fits (implied (may_move (row (kind i)).arm) (one_written (kind i) (form i)) (at_form_of i fits moves_with_one movers_write_one) may)

pub take_bounds_stays : TakeBoundsStays
take_bounds_stays G ops past i e =
    let it : kind i ≡ TakeBounds = ap kind_of (eqb→eq (get_or i 0 0) (place TakeBounds) (true_T (is_kind TakeBounds i) e)) in
    not_true_is_false (is_movable G ops past i) (λ m. subst (λ (k : Kind). T (may_move (row k).arm)) it (fact_moves G ops past i (true_T (is_movable G ops past i) m)))
