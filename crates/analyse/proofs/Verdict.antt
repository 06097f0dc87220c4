-- The numbers of one position stand for its fact. Assumes nothing.
use Rattle.std.specs.Prelude.{None}
use mathlib.Core.Bool.{Bool, true, false, cond, ◌||◌}
use mathlib.Core.List.{List, [], ◌∷◌, ◌++◌, map}
use mathlib.Core.Logic.{inl, inr, ⊎_elim}
use mathlib.Core.Path.{◌≡◌, refl, sym, ap, ◌∙◌, subst}
use Prim.Native.Nat.{ℕ, zero, suc, ◌≤◌, ◌<◌}
use native.Mathlib.Nat.{le_of_suc-le-suc, lt_of_not-le}
use native.Mathlib.Decide.{dec_lt}
use native.Mathlib.Omega.{arith}
use borrow.Author.Tests.{eq-eqb, ne_eqb}
use lib.Dec.{eqb}
use lib.ListN.{get_or, length, drop, get_or-eq_default}
use Rattle.model.specs.Kinds.{row, cat}
use Rattle.model.specs.Kinds as K
use Rattle.model.specs.Picture.{Inst, inst, absent, reads, kind, form}
use Rattle.model.specs.Analyse as M
use Rattle.model.specs.Analyse.{Facts, Fact, Org, Unknown, Read, unread, last_writer, org_of, len_of, is_layout, when_some, known_of, positive, arm, pieces, placed, movable, sized, small, whole, fact}
use Rattle.inst.specs.Table.{packed, arm_code, arm_at}
use Rattle.inst.specs.Table as T
use Rattle.inst.specs.declared.scanned.Firsts.{Firsts}
use Rattle.inst.specs.Firsts.{Heads}
use Rattle.inst.specs.Constant.{constant_of}
use Rattle.inst.proofs.Rows.{arm_is, arm_back, quiet_is, first_arm}
use Rattle.inst.proofs.Constants.{whole_constant}
use Rattle.effects.specs.Origin.{org_at, class_of, wrote_at, from_at}
use Rattle.effects.specs.Arms.{arm_of, does, read_at, asked, Right, leads}
use Rattle.effects.specs.declared.arms.Arm.{Arm}
use Rattle.effects.specs.declared.arms.Arm.TheVariants.{Const}
use Rattle.effects.specs.declared.arms.Effect.{Effect}
use Rattle.effects.specs.declared.input.Input.{Input}
use Rattle.regfacts.specs.Flags.{is_length}
use Rattle.regfacts.specs.Written.{Good}
use Rattle.analyse.specs.State.{org_reg, len_reg, Reg?, Below, Asked, Low, Judged, fill_in}
use Rattle.analyse.proofs.Alike.{arm_ext}
use Rattle.analyse.proofs.Layouts.{After, after_fact}
use Rattle.analyse.proofs.Leads.{leads_right}

pub reads_reg : {recs ops : List ℕ} {R g : ℕ} → Good recs ops R g → (k : ℕ) → Reg? R (get_or (reads ops (inst recs g)) k absent)
reads_reg {recs} {ops} {R} {g} r k = go (dec_lt k (length (reads ops (inst recs g))))
  where
    go : Dec (k < length (reads ops (inst recs g))) → Reg? R (get_or (reads ops (inst recs g)) k absent)
    go (yes h) = inr (r.each k h)
    go (no h) = inl (get_or-eq_default (reads ops (inst recs g)) absent (le_of_suc-le-suc (lt_of_not-le h)))

pub reads_below : {recs ops ds : List ℕ} {R g : ℕ} {x : Firsts} → Good recs ops R g → Heads (reads ops (inst recs g)) ds x → Below R x
reads_below r h = record { r0 = rw h.r0 (reads_reg r 0); r1 = rw h.r1 (reads_reg r 1); r2 = rw h.r2 (reads_reg r 2) }

-- ---- memory written

wrote_some : (n : ℕ) → (n ≡ 0 → ⊥) → (b : Bool) → wrote_at n ≡ fill_in (wrote_at n) b
unfolding wrote_at fill_in
wrote_some zero z b = absurd (z refl)
wrote_some (suc n) z b = refl

module _ (e : Effect) (q n : Bool) where
  pub placed_kept : (e.wrote ≡ 0 → ⊥) → wrote_at e.wrote ≡ fill_in (wrote_at e.wrote) (movable (class_of e.class) || e.barrier || q || n)
  placed_kept z = wrote_some e.wrote z (movable (class_of e.class) || e.barrier || q || n)

  pub placed_none : e.wrote ≡ 0 → (movable (class_of e.class) || e.barrier || q || n) ≡ true → wrote_at 0 ≡ fill_in (wrote_at e.wrote) (movable (class_of e.class) || e.barrier || q || n)
  unfolding wrote_at fill_in
  placed_none z t = sym (ap (λ (k : ℕ). fill_in (wrote_at k) (movable (class_of e.class) || e.barrier || q || n)) z ∙ ap (fill_in None) t)

  pub placed_unknown : e.wrote ≡ 0 → (movable (class_of e.class) || e.barrier || q || n) ≡ false → wrote_at 1 ≡ fill_in (wrote_at e.wrote) (movable (class_of e.class) || e.barrier || q || n)
  unfolding wrote_at fill_in org_at
  placed_unknown z t = sym (ap (λ (k : ℕ). fill_in (wrote_at k) (movable (class_of e.class) || e.barrier || q || n)) z ∙ ap (fill_in None) t)

-- ---- small numbers

pub low_is : (i : Inst) {x : Input} {r : Effect} {v : ℕ} {a : Arm} → arm_of a ≡ arm_at (T.arm (packed (kind i) (form i))) → Right r a x → v ≤ 2004
    → Low x.p i (record { class = r.class; org = r.org; len = r.len; layout = r.layout; creates = r.creates; wrote = v; barrier = r.barrier; from = r.from })
low_is i {x} {r} {v} {a} ea t h = record {
  org = t.near;
  wrote = h;
  from = ⊎_elim (λ (l : r.from ≤ 2004). inl l) (λ (z : (r.from ≡ 4294967295) × (arm_of a ≡ cat)). inr (z.0, sym (ea ∙ arm_back (kind i) (form i)) ∙ z.1)) t.from;
}

-- ---- what is read

module _ (G : Facts) (past : List Fact) where
  org_at-read : (rs : List ℕ) (k : ℕ) → ((j : ℕ) → j < length rs → get_or rs j absent ≡ absent → ⊥) → get_or (map (org_of G past) (map (λ r. record { reg = r; writer = last_writer 0 past r }) rs)) k Unknown ≡ org_reg G past (get_or rs k absent)
  unfolding org_reg
  org_at-read [] k h = refl
  org_at-read (r ∷ rs) zero h = sym (ap (λ (b : Bool). cond b Unknown (org_of G past (record { reg = r; writer = last_writer 0 past r }))) (ne_eqb r absent (h 0 (omega arith))))
  org_at-read (r ∷ rs) (suc k) h = org_at-read rs k (λ j l. h (suc j) (omega arith))

  len_at_read : (rs : List ℕ) (k : ℕ) → ((j : ℕ) → j < length rs → get_or rs j absent ≡ absent → ⊥) → get_or (map (len_of G past) (map (λ r. record { reg = r; writer = last_writer 0 past r }) rs)) k false ≡ len_reg G past (get_or rs k absent)
  unfolding len_reg
  len_at_read [] k h = refl
  len_at_read (r ∷ rs) zero h = sym (ap (λ (b : Bool). cond b false (len_of G past (record { reg = r; writer = last_writer 0 past r }))) (ne_eqb r absent (h 0 (omega arith))))
  len_at_read (r ∷ rs) (suc k) h = len_at_read rs k (λ j l. h (suc j) (omega arith))

  divisor_at_read : (rs : List ℕ) (k : ℕ) → (get_or (map (λ r. record { reg = r; writer = last_writer 0 past r }) rs) k unread).reg ≡ get_or rs k absent
  divisor_at_read [] k = refl
  divisor_at_read (r ∷ rs) zero = refl
  divisor_at_read (r ∷ rs) (suc k) = divisor_at_read rs k

from_self : (n : ℕ) (ps X : List Org) → from_at n ps ≡ X → from_at n X ≡ X
unfolding from_at
from_self zero ps X e = e
from_self (suc n) ps X e = go (eqb (suc n) 4294967295) e
  where
    go : (b : Bool) → cond b ps (org_at n ∷ []) ≡ X → cond b X (org_at n ∷ []) ≡ X
    go true e = refl
    go false e = e

-- of a record of the first arm, a Const, the constant is its whole number
first_length : (i : Inst) (a : Arm) → arm_of a ≡ arm_at (T.arm (packed (kind i) (form i))) → a ≡ Const → small (whole i) ≡ is_length (constant_of i)
unfolding is_length
first_length i a ea e =
    let z : T.arm (packed (kind i) (form i)) ≡ 0 = arm_is (kind i) (form i) ∙ ap arm_code (sym (ea ∙ arm_back (kind i) (form i)) ∙ ap arm_of e) in
    sym (ap is_length (whole_constant i (eq-eqb (get_or i 0 0) 0 (first_arm (get_or i 0 0) (form i) z))))

module _ (G : Facts) (past : List Fact) (ops : List ℕ) (R : ℕ) (i : Inst) (x : Input) (small_R : R ≤ 65536) (rd : (k : ℕ) → k < length (reads ops i) → get_or (reads ops i) k absent < R) (q : Asked G past ops i x) where
  us : List Read
  us = map (λ r. record { reg = r; writer = last_writer 0 past r }) (reads ops i)

  here : (j : ℕ) → j < length (reads ops i) → get_or (reads ops i) j absent ≡ absent → ⊥
  here j h e = let l = rd j h in absurd (omega (arith, l, e))

  abbrev by_arm : K.Arm → M.Effect
  by_arm A = arm i (length past) (when_some positive (known_of G (get_or us 1 unread).reg).konst) (λ k. get_or (map (org_of G past) us) k Unknown) (λ k. get_or (map (len_of G past) us) k false) (is_layout past) (drop 3 (map (org_of G past) us)) A

  effect : M.Effect
  effect = by_arm (row (kind i)).arm

  first : org_at (read_at x 0).org ≡ get_or (map (org_of G past) us) 0 Unknown
  unfolding us
  first = q.o0 ∙ sym (org_at-read G past (reads ops i) 0 here)

  second : org_at (read_at x 1).org ≡ get_or (map (org_of G past) us) 1 Unknown
  unfolding us
  second = q.o1 ∙ sym (org_at-read G past (reads ops i) 1 here)

  -- what is left points to a layout, or not
  pub led : (e : Effect) (a : Arm) → arm_of a ≡ arm_at (T.arm (packed (kind i) (form i))) → org_at e.org ≡ (fact G ops past i).does.org → e.layout ≡ (fact G ops past i).does.layout
      → sized (λ k. leads a x.reads e) (org_at e.org) ≡ sized (is_layout (past ++ (fact G ops past i ∷ []))) (org_at e.org)
  unfolding us effect
  led e a ea eo ey =
      let f = fact G ops past i in
      let y' = is_layout (past ++ (f ∷ [])) in
      subst (λ (o : Org). sized (λ k. leads a x.reads e) o ≡ sized y' o) (sym eo)
      (subst (λ (A : K.Arm). e.layout ≡ (by_arm A).layout → After (is_layout past) y' (length past) (by_arm A).layout → sized (λ k. leads a x.reads e) (by_arm A).org ≡ sized y' (by_arm A).org) (ea ∙ arm_back (kind i) (form i))
      (leads_right i (length past) (drop 3 (map (org_of G past) us)) (when_some positive (known_of G (get_or us 1 unread).reg).konst) (λ k. get_or (map (org_of G past) us) k Unknown) (λ k. get_or (map (len_of G past) us) k false) (is_layout past) y' x e
      (subst (λ (o : Org). sized (λ k. (read_at x 0).layout) o ≡ sized (is_layout past) o) first q.layout) (subst (λ (o : Org). sized (λ k. (read_at x 1).layout) o ≡ sized (is_layout past) o) second q.layout1)
      a) ey (after_fact past f))

  module _ (r : Effect) {a : Arm} (ea : arm_of a ≡ arm_at (T.arm (packed (kind i) (form i)))) (t : Right r a x) where
    stands : does r (pieces (get_or i 9 0) (drop 3 (map (org_of G past) us))) ≡ effect
    unfolding asked us effect
    stands =
        t.right i (drop 3 (map (org_of G past) us)) q.form q.list (λ z. first_length i a ea z ∙ q.small)
        ∙ ap (arm i x.p x.divisor (λ k. org_at (read_at x k).org) (λ k. (read_at x k).len) (λ k. (read_at x 0).layout) (drop 3 (map (org_of G past) us))) (ea ∙ arm_back (kind i) (form i))
        ∙ arm_ext i x.p (drop 3 (map (org_of G past) us)) x.divisor (when_some positive (known_of G (get_or us 1 unread).reg).konst)
        (λ k. org_at (read_at x k).org) (λ k. get_or (map (org_of G past) us) k Unknown) (λ k. (read_at x k).len) (λ k. get_or (map (len_of G past) us) k false) (λ k. (read_at x 0).layout) (is_layout past)
        (q.divisor ∙ sym (ap (λ (r : ℕ). when_some positive (known_of G r).konst) (divisor_at_read G past (reads ops i) 1)))
        first second (q.o2 ∙ sym (org_at-read G past (reads ops i) 2 here))
        (q.l0 ∙ sym (len_at_read G past (reads ops i) 0 here)) (q.l1 ∙ sym (len_at_read G past (reads ops i) 1 here)) (q.l2 ∙ sym (len_at_read G past (reads ops i) 2 here))
        q.layout (row (kind i)).arm
        ∙ ap (λ (n : ℕ). arm i n (when_some positive (known_of G (get_or us 1 unread).reg).konst) (λ k. get_or (map (org_of G past) us) k Unknown) (λ k. get_or (map (len_of G past) us) k false) (is_layout past) (drop 3 (map (org_of G past) us)) (row (kind i)).arm) q.p

    pub judged : {v : ℕ} → wrote_at v ≡ fill_in (wrote_at r.wrote) (movable (class_of r.class) || r.barrier || T.quiet (packed (kind i) (form i)) || eqb (get_or i 0 0) 58)
        → Judged (record { class = r.class; org = r.org; len = r.len; layout = r.layout; creates = r.creates; wrote = v; barrier = r.barrier; from = r.from }) (fact G ops past i)
    unfolding does fill_in us effect
    judged {v} w = record {
      class = ap (λ (e : M.Effect). e.class) stands;
      org = ap (λ (e : M.Effect). e.org) stands;
      len = ap (λ (e : M.Effect). e.len) stands;
      layout = ap (λ (e : M.Effect). e.layout) stands;
      creates = ap (λ (e : M.Effect). e.creates) stands;
      barrier = ap (λ (e : M.Effect). e.barrier) stands;
      wrote = w ∙ ap (λ (b : Bool). fill_in (wrote_at r.wrote) (movable (class_of r.class) || r.barrier || b || eqb (get_or i 0 0) 58)) (quiet_is (kind i) (form i)) ∙ ap (λ (e : M.Effect). placed i e) stands;
      from = from_self r.from (pieces (get_or i 9 0) (drop 3 (map (org_of G past) us))) _ (ap (λ (e : M.Effect). e.from) stands);
    }
