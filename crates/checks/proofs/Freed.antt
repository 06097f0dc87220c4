-- A plain record is free of causes 4 to 8. Assumes nothing.
use mathlib.Core.Path.{◌≡◌, refl, sym, ap, ◌∙◌}
use mathlib.Core.Logic.{⊎_elim}
use mathlib.Core.Bool.{Bool, true, false, cond, not, ◌&&◌, ◌||◌, true≢false}
use mathlib.Core.List.{List, map}
use Prim.Native.Nat.{ℕ, ◌+◌, ◌≤◌, ◌<◌}
use native.Mathlib.Nat.{le_antisymm}
use native.Mathlib.Omega.{arith}
use lib.Dec.{eqb, ltb, leb}
use lib.ListN.{get_or}
use borrow.Author.Tests.{lt-ltb, le-ltb, ltb-true, leb-true, eqb-true, ne_eqb, not-true, not-false}
use Rattle.words.proofs.Bools.{left_true, right_true, or_left, or_right, clash, lt?}
use Rattle.model.specs.Kinds.{row, kind_of, at_form, off, Br, CondBr, Cat, SigGather}
use Rattle.model.specs.Picture.{Inst, inst, absent, kind, form, is_kind, roles}
use Rattle.model.specs.Refusal.{bad_kind, bad_list, bad_branch, half_part}
use Rattle.inst.specs.Table.{does, shape_code, packed, allowed_at, uses, has_list, shape, two_bits}
use Rattle.inst.specs.Record.{Within, uses_of}
use Rattle.inst.proofs.Rows.{list_is, shape_is, allowed_is}
use Rattle.inst.proofs.Resolved.{uses_by}
use Rattle.checks.specs.Causes.{bad_regs, long_cat}
use Rattle.checks.specs.Plain.{simple, bare, odd_slot, usual, plain, Skipped}
use Rattle.checks.proofs.Slots.{none_odd, read_stands}

pub record Free (R : ℕ) (i : Inst) : Type 0 where
  pub kinds : bad_kind i ≡ false
  pub regs : bad_regs R i ≡ false
  pub lists : (O : ℕ) → bad_list O i ≡ false
  pub branches : (B : ℕ) → bad_branch B i ≡ false
  pub cats : long_cat i ≡ false

-- the places of the function
module _ (R : ℕ) (i : Inst) where
  abbrev first_test : Bool
  first_test = simple (packed (kind i) (form i)) && bare i

  abbrev rest : Bool
  rest = cond first_test (usual R (uses_of i) i) false

  module _ (k : ℕ) (e : k ≡ get_or i 0 0) where
    pub not_known : 100 < k → false ≡ plain R i
    unfolding plain
    not_known h = sym (ap (λ (b : Bool). cond b false rest) (lt-ltb 100 (get_or i 0 0) (rw e at h)))

    module _ (h : k ≤ 100) (x f : ℕ) (s b : Bool) (ex : x ≡ packed (kind_of k) f) (ef : f ≡ form i) (es : s ≡ simple x) (eb : b ≡ bare i) where
      tested : (s && b) ≡ first_test
      tested = rw (es, eb, ex, ef, e)

      known_kind : rest ≡ plain R i
      unfolding plain
      known_kind = sym (ap (λ (c : Bool). cond c false rest) (le-ltb 100 (get_or i 0 0) (rw e at h)))

      pub plain_by : (s && b) ≡ true → (u : ℕ) (r : Bool) → u ≡ uses x → r ≡ usual R u i → r ≡ plain R i
      plain_by t u r eu er = er ∙ ap (λ (m : ℕ). usual R m i) (uses_by i e ef ex eu) ∙ sym (ap (λ (c : Bool). cond c (usual R (uses_of i) i) false) (sym tested ∙ t)) ∙ known_kind

      pub not_simple : (s && b) ≡ false → false ≡ plain R i
      not_simple t = sym (ap (λ (c : Bool). cond c (usual R (uses_of i) i) false) (sym tested ∙ t)) ∙ known_kind

known : (b c : Bool) → cond b false c ≡ true → b ≡ false
known true c h = sym h
known false c h = refl

passes : (b c : Bool) → cond b false c ≡ true → c ≡ true
passes true c h = clash h refl
passes false c h = h

tests : (b c : Bool) → cond b c false ≡ true → b ≡ true
tests true c h = refl
tests false c h = h

goes : (b c : Bool) → cond b c false ≡ true → c ≡ true
goes true c h = h
goes false c h = clash h refl

-- what the test of a row says of the kind
module _ (i : Inst) (f : ℕ) (e : simple (packed (kind i) f) ≡ true) where
  abbrev x : ℕ
  x = packed (kind i) f

  abbrev k : ℕ
  k = get_or i 0 0

  first : (not (has_list x) && eqb (shape x) 0) ≡ true
  first = left_true _ _ e

  no_list : (row (kind i)).list ≡ false
  no_list = sym (list_is (kind i) f) ∙ not-true (has_list x) (left_true _ _ first)

  no_shape : shape_code (kind i) ≡ 0
  no_shape = sym (shape_is (kind i) f) ∙ eqb-true (shape x) 0 (right_true (not (has_list x)) _ first)

  not_cat : is_kind Cat i ≡ false
  not_cat = ne_eqb k 39 (λ q. true≢false (sym (ap (λ (m : ℕ). (row (kind_of m)).list) q) ∙ no_list))

  not_br : is_kind Br i ≡ false
  not_br = ne_eqb k 52 (λ q. let z : ◌≡◌ {A = ℕ} 1 0 = sym (ap (λ (m : ℕ). shape_code (kind_of m)) q) ∙ no_shape in omega arith)

  not-cond_br : is_kind CondBr i ≡ false
  not-cond_br = ne_eqb k 53 (λ q. let z : ◌≡◌ {A = ℕ} 2 0 = sym (ap (λ (m : ℕ). shape_code (kind_of m)) q) ∙ no_shape in omega arith)

  may : allowed_at (kind i) f ≡ true
  may = sym (allowed_is (kind i) f) ∙ right_true (not (has_list x) && eqb (shape x) 0) _ e

  from_least : ltb f (row (kind i)).least ≡ false
  from_least = le-ltb f (row (kind i)).least (leb-true (row (kind i)).least f (left_true _ _ may))

  to_most : ltb (row (kind i)).most f ≡ false
  to_most = le-ltb (row (kind i)).most f (leb-true f (row (kind i)).most (right_true (leb (row (kind i)).least f) _ may))

module _ (recs : List ℕ) (p R : ℕ) (w : Within recs p) where
  abbrev j : Inst
  j = inst recs p

  abbrev odd : ℕ → Bool
  odd s = odd_slot R (uses_of j) j s

  -- a SigGather whose slots are not odd has both of its part registers
  module _ (o : usual R (uses_of j) j ≡ true) where
    few : (ltb (uses_of j) 65536 && eqb (get_or j 6 0) absent) ≡ true
    unfolding usual
    few = left_true _ _ o

    four : (odd 0 || (odd 1 || (odd 2 || odd 3))) ≡ false
    unfolding usual
    four = not-true _ (right_true (ltb (uses_of j) 65536 && eqb (get_or j 6 0) absent) _ o)

    third : (odd 2 || odd 3) ≡ false
    third = or_right (odd 1) _ (or_right (odd 0) _ four)

    fifth : odd 4 ≡ false
    fifth =
        let l = ltb-true (uses_of j) 65536 (left_true _ _ few) in
        let z : two_bits (uses_of j) 4 ≡ 0 = omega arith in
        rw (z, right_true (ltb (uses_of j) 65536) _ few)

    whole : (b : Bool) → is_kind SigGather j ≡ b → half_part j ≡ false
    whole false q = rw q
    whole true q =
        let at : get_or j 0 0 ≡ 74 = eqb-true (get_or j 0 0) 74 q in
        let a : does (get_or (roles j) 2 off) ≡ 1 = ap (λ (m : ℕ). does (get_or (map (at_form (form j)) (row (kind_of m)).slots) 2 off)) at in
        let b : does (get_or (roles j) 3 off) ≡ 1 = ap (λ (m : ℕ). does (get_or (map (at_form (form j)) (row (kind_of m)).slots) 3 off)) at in
        let c = read_stands recs p R w (uses_of j) refl 2 (omega arith) a (or_left (odd 2) _ third) in
        let d = read_stands recs p R w (uses_of j) refl 3 (omega arith) b (or_right (odd 2) _ third) in
        rw (q, c, d)

    regs_free : bad_regs R j ≡ false
    unfolding bad_regs
    regs_free = ap (λ (b : Bool). b || half_part j) (none_odd recs p R w (uses_of j) refl four fifth) ∙ whole (is_kind SigGather j) refl

  pub plain_free : plain R j ≡ true → Free R j
  unfolding plain
  plain_free h =
      let a = known (ltb 100 (get_or j 0 0)) (rest R j) h in
      let r = passes (ltb 100 (get_or j 0 0)) (rest R j) h in
      let t = tests (first_test R j) (usual R (uses_of j) j) r in
      let s = left_true (simple (packed (kind j) (form j))) (bare j) t in
      let b = right_true (simple (packed (kind j) (form j))) (bare j) t in
      record {
        kinds = rw (a, from_least j (form j) s, to_most j (form j) s, not_cat j (form j) s);
        regs = regs_free (goes (first_test R j) (usual R (uses_of j) j) r);
        lists = λ (O : ℕ). rw (no_list j (form j) s, b);
        branches = λ (B : ℕ). rw (not_br j (form j) s, not-cond_br j (form j) s);
        cats = rw (not_cat j (form j) s);
      }

-- ---- the loop past them

-- the records passed so far
pub record Passed (R : ℕ) (recs : List ℕ) (n p q : ℕ) : Type 0 where
  pub from : p ≤ q
  pub upto : q ≤ n
  pub plain : (j : ℕ) → p ≤ j → j < q → plain R (inst recs j) ≡ true

module _ (R : ℕ) (recs : List ℕ) (n p : ℕ) where
  pub skip_none : p ≤ n → Passed R recs n p p
  skip_none h = record { from = omega arith; upto = h; plain = λ j l m. absurd (omega arith) }

  pub skip_more : (q : ℕ) {b : Bool} → Passed R recs n p q → q < n → b ≡ plain R (inst recs q) → not b ≡ false → Passed R recs n p (q + 1)
  skip_more q {b} s h e t =
      record {
        from = let z = s.from in omega arith;
        upto = omega arith;
        plain = λ j l m. ⊎_elim (λ (k : j < q). s.plain j l k) (λ (k : q ≤ j). rw (le_antisymm (omega arith) k) (sym e ∙ not-false b t)) (lt? j q);
      }

  -- one is not plain, or none is left
  pub skip_stop : (q : ℕ) {b : Bool} → Passed R recs n p q → b ≡ plain R (inst recs q) → not b ≡ true → Skipped R recs n p q
  skip_stop q {b} s e t = record { from = s.from; upto = s.upto; plain = s.plain; stops = λ h. sym e ∙ not-true b t }

  pub skip_end : (q : ℕ) → Passed R recs n p q → n ≤ q → Skipped R recs n p n
  skip_end q s h =
      record {
        from = let z = s.from in let y = s.upto in omega arith;
        upto = omega arith;
        plain = λ j l m. s.plain j l (omega arith);
        stops = λ l. absurd (omega arith);
      }
