-- The tests of the passes are `model`'s six, one by one: over the summary of the set now, each equals its rule at every position of
-- the chain, member or not. Assumes nothing.
use Rattle.std.proofs.lemmas.Option.{none-some, same_Some}
use Rattle.std.specs.Prelude.{None, Some}
use mathlib.Core.Path.{◌≡◌, refl, sym, ap, ap₂, ◌∙◌, subst}
use mathlib.Core.Logic.{◌⊎◌, inl, inr, ⊎_elim}
use mathlib.Core.Bool.{Bool, true, false, not, ◌&&◌, ◌||◌}
use mathlib.Core.List.{List, [], ◌∷◌}
use Prim.Native.Nat.{ℕ, zero, suc, ◌+◌, ◌*◌, ◌-◌, ◌/◌, ◌%◌, ◌≤◌, ◌<◌}
use native.Mathlib.Nat.{zero-add}
use native.Mathlib.Numerals.{add-one}
use native.Mathlib.Omega.{arith}
use borrow.Author.Tests.{eqb-true, eqb-false, leb-true, leb-false, eq-eqb, ne_eqb, le-leb, lt-leb}
use lib.Dec.{T, eqb, leb, eqb→eq, leb→le}
use lib.ListN.{get_or, length}
use Rattle.words.specs.Lists.{In, upto, all, mem, conj}
use Rattle.words.proofs.Bools.{T_true, true_T, T_false, false_T, clash, bool?, bool_ext, both, left, right, or_first, or_second, or_of, or_rest, both_true, left_true, right_true, hold, conj_of, implied, implies_of, denied, denies, not_true_is_false}
use Rattle.words.proofs.Members.{mem_in, in_mem, all_in, all_of, in_map, map_in}
use Rattle.words.proofs.Alls.{all_range, range_all}
use Rattle.model.specs.Analyse.{Org, Temp, Fact, Read, Effect, is_some, when_some, unless_some, alias}
use Rattle.model.specs.Legal.{fact_at, reads_from, writes_last, readable, steady, kept, rule1, rule2, rule3, rule4, rule5_barrier, rule5_write, rule6, tests, legal}
use Rattle.laws.proofs.Rules.{no_some, no_some_of, unless_at, unless_of, own_memory as mine}
use Rattle.effects.specs.Origin.{org_at, wrote_at}
use Rattle.legalset.specs.Chain.{View, Stands, writer, place_at}
use Rattle.legalset.specs.Rules.{last_kept, when_in, own_memory, read_fine, org_fine, still_fine, reads_ok, origins_ok, suspends_ok, memory_ok, own_ok, pending, backward_ok, result_ok}
use Rattle.legalset.proofs.Lasting.{kept_none, none_kept, writer_wrote, wrote_writer, writer_is}
use Rattle.effects.proofs.Origins.{alias_is, readable_is, steady_is, temp_at, temp_number}
use Rattle.legalset.proofs.Pending.{awaits_of, of_awaits, reads_from_of, of_reads_from, use_of}

at_place : (L : ℕ → Bool) (d : ℕ) → when_some L (place_at d) ≡ when_in L d
unfolding place_at when_in
at_place L zero = refl
at_place L (suc d) = refl

-- memory written, by its number
wrote_some : (x : ℕ) (w : Org) → wrote_at x ≡ Some w → (a : ℕ) × (x ≡ suc a) × (org_at a ≡ w)
unfolding wrote_at
wrote_some zero w e = absurd (none-some w e)
wrote_some (suc a) w e = (a, refl, same_Some (org_at a) w e)

some_wrote : (x a : ℕ) → x ≡ suc a → wrote_at x ≡ Some (org_at a)
unfolding wrote_at
some_wrote x a e = ap wrote_at e

none_wrote : (x : ℕ) → eqb x 0 ≡ true → wrote_at x ≡ None
unfolding wrote_at
none_wrote x e = ap wrote_at (eqb-true x 0 e)

wrote_none : (x : ℕ) → wrote_at x ≡ None → eqb x 0 ≡ true
unfolding wrote_at
wrote_none zero e = refl
wrote_none (suc a) e = absurd (none-some (org_at a) (sym e))

own_temp : (L : ℕ → Bool) (x : ℕ) → T (own_memory L x) → (w : Org) → wrote_at x ≡ Some w → (k : ℕ) × (w ≡ Temp k) × (L k ≡ true)
unfolding own_memory
own_temp L x t w e =
    let z = wrote_some x w e in
    let y = z.1 in
    let nz : eqb x 0 ≡ false = ne_eqb x 0 (λ q. omega arith) in
    let u = or_rest (eqb x 0) (leb 5 x && eqb (x % 2) 1 && L ((x - 5) / 2)) t nz in
    let f = left (leb 5 x && eqb (x % 2) 1) (L ((x - 5) / 2)) u in
    let five = leb→le 5 x (left (leb 5 x) (eqb (x % 2) 1) f) in
    let odd = eqb→eq (x % 2) 1 (right (leb 5 x) (eqb (x % 2) 1) f) in
    let k : ℕ = (x - 5) / 2 in
    let n : z.0 ≡ 4 + 2 * ((x - 5) / 2) = omega arith in
    (k, sym z.2 ∙ ap org_at n ∙ temp_at k, T_true (L k) (right (leb 5 x && eqb (x % 2) 1) (L k) u))

temp_own : (L : ℕ → Bool) (x : ℕ) → ((w : Org) → wrote_at x ≡ Some w → (k : ℕ) × (w ≡ Temp k) × (L k ≡ true)) → T (own_memory L x)
unfolding own_memory wrote_at
temp_own L zero h = tt
temp_own L (suc a) h =
    let z = h (org_at a) refl in
    let k = z.0 in
    let e = temp_number a k z.1 in
    let five : leb 5 (suc a) ≡ true = le-leb 5 (suc a) (omega arith) in
    let odd : eqb (suc a % 2) 1 ≡ true = eq-eqb (suc a % 2) 1 (omega arith) in
    let i : (suc a - 5) / 2 ≡ k = omega arith in
    or_second (eqb (suc a) 0) (leb 5 (suc a) && eqb (suc a % 2) 1 && L ((suc a - 5) / 2)) (true_T (leb 5 (suc a) && eqb (suc a % 2) 1 && L ((suc a - 5) / 2)) (both_true (leb 5 (suc a) && eqb (suc a % 2) 1) (L ((suc a - 5) / 2)) (both_true (leb 5 (suc a)) (eqb (suc a % 2) 1) five odd) (ap L i ∙ z.2)))

-- ---- one origin

module _ (o : ℕ) where
  -- an origin that is read: readable, and not Ro
  far : readable (org_at o) ≡ true → eqb o 1 ≡ false → 3 ≤ o
  far r e = leb→le 3 o (or_rest (eqb o 1) (leb 3 o) (true_T _ (readable_is o ∙ r)) e)

  not_steady : readable (org_at o) ≡ true → eqb o 1 ≡ false → steady (org_at o) ≡ false
  not_steady r e = let h = far r e in sym (steady_is o) ∙ ap (λ (b : Bool). b || eqb o 2) e ∙ ne_eqb o 2 (λ q. omega arith)

  self_alias : 3 ≤ o → alias (org_at o) (org_at o) ≡ true
  self_alias h =
      sym (alias_is o o) ∙ ap (λ (b : Bool). b || eqb o 0 || (leb 3 o && eqb o o)) (ne_eqb o 0 (λ q. omega arith)) ∙ ap (λ (b : Bool). b || (leb 3 o && eqb o o)) (ne_eqb o 0 (λ q. omega arith))
      ∙ both_true (leb 3 o) (eqb o o) (le-leb 3 o h) (eq-eqb o o refl)

  -- a write that may reach it is of memory nobody can place, or its own
  apart : (a : ℕ) → readable (org_at o) ≡ true → eqb (suc a) 1 ≡ false → (3 ≤ o → eqb (suc a) (o + 1) ≡ false) → alias (org_at a) (org_at o) ≡ false
  apart a r u s =
      sym (alias_is a o)
      ∙ ap (λ (b : Bool). b || eqb o 0 || (leb 3 a && eqb o a)) (ne_eqb a 0 (λ q. eqb-false (suc a) 1 u (omega arith)))
      ∙ ap (λ (b : Bool). b || (leb 3 a && eqb o a)) (ne_eqb o 0 (λ q. ⊎_elim (λ (t : eqb o 1 ≡ true). let e = eqb-true o 1 t in omega arith) (λ (t : eqb o 1 ≡ false). let h = far r t in omega arith) (bool? (eqb o 1))))
      ∙ last (bool? (leb 3 a && eqb o a))
    where
      last : ((leb 3 a && eqb o a) ≡ true) ⊎ ((leb 3 a && eqb o a) ≡ false) → (leb 3 a && eqb o a) ≡ false
      last (inl t) =
          let h = leb-true 3 a (left_true (leb 3 a) (eqb o a) t) in
          let e = eqb-true o a (right_true (leb 3 a) (eqb o a) t) in
          absurd (eqb-false (suc a) (o + 1) (s (omega arith)) (omega arith))
      last (inr f) = f

module _ (C : View) (n : ℕ) (run : List Fact) (s : Stands C n run) (needed L : ℕ → Bool) (p : ℕ) (h : p < n) where
  -- ---- the kept positions after p

  at_kept : (f : ℕ → Bool) → T (kept run needed L p f) → (q : ℕ) → p < q → q < n → L q ≡ false → T (f q)
  at_kept f t q a b e =
      let l = s.long in
      or_rest (L q) (f q) (subst (λ (x : ℕ). T (L x || f x)) (omega arith) (range_all (λ x. L x || f x) (suc p) (length run - suc p) t (q - suc p) (omega arith))) e

  kept_of : (f : ℕ → Bool) → ((q : ℕ) → p < q → q < n → L q ≡ false → T (f q)) → T (kept run needed L p f)
  kept_of f g = all_range (λ x. L x || f x) (suc p) (length run - suc p) (λ q a b. let l = s.long in or_of (L q) (f q) (λ e. g q a (omega arith) e))

  -- ---- rule 1

  readers_of : T (backward_ok C.defs C.reads n L p) → T (all (rule1 run needed L p) (upto (length run)))
  unfolding backward_ok
  readers_of t = all_range (rule1 run needed L p) 0 (length run) (λ q a b. let l = s.long in implies_of (reads_from run q p) (L q) (λ e. true_T (L q) (one q (omega arith) e)))
    where
      one : (q : ℕ) → q < n → reads_from run q p ≡ true → L q ≡ true
      one q m e =
          let z = of_reads_from C n run s q p m e in
          let w = writer_wrote C.defs z.0 q p z.2 in
          let lt = w.before in
          ⊎_elim (λ (t : L q ≡ true). t) (λ (f : L q ≡ false).
          clash {b = pending C.defs C.reads L z.0 (p + 1) (n - (p + 1))} (T_true (pending C.defs C.reads L z.0 (p + 1) (n - (p + 1))) (of_awaits C n L z.0 (p + 1) (n - (p + 1)) q (record { from = omega arith; below = omega arith; kept = f; reads = z.1; none = λ j u v. w.none j (omega arith) v })))
          (T_false (pending C.defs C.reads L z.0 (p + 1) (n - (p + 1))) (all_in _ z.0 (C.defs p) t (mem_in z.0 (C.defs p) w.writes)))) (bool? (L q))

  of_readers : T (all (rule1 run needed L p) (upto (length run))) → T (backward_ok C.defs C.reads n L p)
  unfolding backward_ok
  of_readers t = all_of _ (C.defs p) (λ x i. false_T (pending C.defs C.reads L x (p + 1) (n - (p + 1))) (not_true_is_false (pending C.defs C.reads L x (p + 1) (n - (p + 1)))
      (λ d. let z = awaits_of C n L x (p + 1) (n - (p + 1)) (true_T _ d) in
      let a = z.1.from in let b = z.1.below in
      let q : z.0 < n = omega arith in
      clash (one z.0 q (reads_from_of C n run s z.0 p q x z.1.reads
      (wrote_writer C.defs x z.0 p (record { before = omega arith; writes = in_mem x (C.defs p) i; none = λ k u v. z.1.none k (omega arith) v })))) z.1.kept)))
    where
      one : (q : ℕ) → q < n → reads_from run q p ≡ true → L q ≡ true
      one q m e = let l = s.long in T_true (L q) (implied (reads_from run q p) (L q) (subst (λ (x : ℕ). T (rule1 run needed L p x)) (zero-add q) (range_all (rule1 run needed L p) 0 (length run) t q (omega arith))) e)

  pub rule1_is : backward_ok C.defs C.reads n L p ≡ get_or (tests run needed L p) 0 true
  rule1_is = bool_ext (backward_ok C.defs C.reads n L p) (all (rule1 run needed L p) (upto (length run))) readers_of of_readers

  -- ---- rule 2

  results_of : T (result_ok C n needed p) → T (all (rule2 run needed L p) (fact_at run p).defs)
  unfolding result_ok
  results_of t = all_of (rule2 run needed L p) (fact_at run p).defs (λ x i. denies (needed x) (writes_last run p x) (λ e. not_true_is_false (needed x) (λ d.
      let j = subst (In x) (s.defs p h) i in
      let l = s.long in
      let w : writer C.defs x n ≡ suc p = wrote_writer C.defs x n p (record {
        before = h;
        writes = in_mem x (C.defs p) j;
        none = λ k a b.
            ap (mem x) (sym (s.defs k b)) ∙ T_false (mem x (fact_at run k).defs) (subst (λ (y : ℕ). T (not (mem x (fact_at run y).defs))) (omega arith)
            (range_all (λ q. not (mem x (fact_at run q).defs)) (suc p) (length run - suc p) (true_T (writes_last run p x) e) (k - suc p) (omega arith)));
      }) in
      clash (both_true (needed x) (eqb (writer C.defs x n) (p + 1)) d (eq-eqb (writer C.defs x n) (p + 1) (w ∙ sym (add-one p))))
      (T_false _ (all_in _ x (C.defs p) t j)))))

  of_results : T (all (rule2 run needed L p) (fact_at run p).defs) → T (result_ok C n needed p)
  unfolding result_ok
  of_results t = all_of _ (C.defs p) (λ x i. false_T (needed x && eqb (writer C.defs x n) (p + 1)) (not_true_is_false (needed x && eqb (writer C.defs x n) (p + 1))
      (λ d. let w = writer_wrote C.defs x n p (eqb-true (writer C.defs x n) (p + 1) (right_true (needed x) (eqb (writer C.defs x n) (p + 1)) d) ∙ add-one p) in
      clash (left_true (needed x) (eqb (writer C.defs x n) (p + 1)) d)
      (denied (needed x) (writes_last run p x) (all_in (rule2 run needed L p) x (fact_at run p).defs t (subst (In x) (sym (s.defs p h)) i)) (T_true _ (all_range (λ q. not (mem x (fact_at run q).defs)) (suc p) (length run - suc p)
      (λ q a b. let l = s.long in let m : q < n = omega arith in false_T (mem x (fact_at run q).defs) (ap (mem x) (s.defs q m) ∙ w.none q a m))))))))

  pub rule2_is : result_ok C n needed p ≡ get_or (tests run needed L p) 1 true
  rule2_is = bool_ext (result_ok C n needed p) (all (rule2 run needed L p) (fact_at run p).defs) results_of of_results

  -- ---- rule 3

  -- the writer of what p reads is in L
  in_L : (x : ℕ) → when_some L (use_of run p x).writer ≡ when_in L (writer C.defs x p)
  in_L x = ap (when_some L) (writer_is C n run s x p (omega arith)) ∙ at_place L (writer C.defs x p)

  operands_of : T (reads_ok C n L L p) → T (kept run needed L p (rule3 run needed L p))
  unfolding reads_ok read_fine
  operands_of t = kept_of (rule3 run needed L p) (λ q a b o. all_of (λ u. when_some L u.writer || not (mem u.reg (fact_at run q).defs)) (fact_at run p).uses (λ u i.
      let z = in_map (use_of run p) u (C.reads p) (subst (In u) (s.uses p h) i) in
      let x = z.0 in
      or_of (when_some L u.writer) (not (mem u.reg (fact_at run q).defs)) (λ e.
      let d : when_in L (writer C.defs x p) ≡ false = sym (in_L x) ∙ sym (ap (λ (y : Read). when_some L y.writer) z.2) ∙ e in
      false_T (mem u.reg (fact_at run q).defs) (ap (λ (y : Read). mem y.reg (fact_at run q).defs) z.2 ∙ ap (mem x) (s.defs q b)
      ∙ kept_none L (λ q. mem x (C.defs q)) n p (or_rest (when_in L (writer C.defs x p)) (leb (last_kept L (λ q. mem x (C.defs q)) n) (p + 1)) (all_in _ x (C.reads p) t z.1) d) q a b o))))

  of_operands : T (kept run needed L p (rule3 run needed L p)) → T (reads_ok C n L L p)
  unfolding reads_ok read_fine
  of_operands t = all_of _ (C.reads p) (λ x i. or_of (when_in L (writer C.defs x p)) (leb (last_kept L (λ q. mem x (C.defs q)) n) (p + 1))
      (λ e. none_kept L (λ q. mem x (C.defs q)) n p (λ q a b o. ap (mem x) (sym (s.defs q b)) ∙ T_false (mem x (fact_at run q).defs)
      (or_rest (when_some L (use_of run p x).writer) (not (mem x (fact_at run q).defs))
      (all_in (λ u. when_some L u.writer || not (mem u.reg (fact_at run q).defs)) (use_of run p x) (fact_at run p).uses (at_kept (rule3 run needed L p) t q a b o) (subst (In (use_of run p x)) (sym (s.uses p h)) (map_in (use_of run p) x (C.reads p) i)))
      (in_L x ∙ e)))))

  pub rule3_is : reads_ok C n L L p ≡ get_or (tests run needed L p) 2 true
  rule3_is = bool_ext (reads_ok C n L L p) (kept run needed L p (rule3 run needed L p)) operands_of of_operands

  -- ---- rule 4

  pub rule4_is : suspends_ok C n L p ≡ get_or (tests run needed L p) 3 true
  unfolding suspends_ok
  rule4_is = bool_ext (suspends_ok C n L p) (kept run needed L p (rule4 run needed L))
      (λ t. kept_of (rule4 run needed L) (λ q a b o. false_T (fact_at run q).suspends (s.suspends q b ∙ kept_none L C.suspends n p t q a b o)))
      (λ t. none_kept L C.suspends n p (λ q a b o. sym (s.suspends q b) ∙ T_false (fact_at run q).suspends (at_kept (rule4 run needed L) t q a b o)))

  -- ---- rule 5

  -- the tests of an origin that is read
  pub record Fine (o : ℕ) : Type 0 where
    pub read : readable (org_at o) ≡ true
    pub calm : eqb o 1 ≡ false → T (leb (last_kept L C.barrier n) (p + 1))
    pub any : T (leb (last_kept L (λ q. eqb (C.wrote q) 1) n) (p + 1))
    pub own : 3 ≤ o → T (leb (last_kept L (λ q. eqb (C.wrote q) (o + 1)) n) (p + 1))

  abbrev org_tests : ℕ → List Bool
  org_tests o = (eqb o 1 || leb 3 o) ∷ (leb (last_kept L C.barrier n) (p + 1) || eqb o 1) ∷ leb (last_kept L (λ q. eqb (C.wrote q) 1) n) (p + 1) ∷ (leb o 2 || leb (last_kept L (λ q. eqb (C.wrote q) (o + 1)) n) (p + 1)) ∷ []

  fine : T (origins_ok C n L p) → (x : Org) → In x (fact_at run p).does.from → (o : ℕ) × (x ≡ org_at o) × Fine o
  unfolding origins_ok org_fine
  fine t x i =
      let z = in_map org_at x (C.from p) (subst (In x) (s.from p h) i) in
      let o = z.0 in
      let t = hold (org_tests o) (all_in _ o (C.from p) t z.1) in (
        o,
        z.2,
        record {
          read = sym (readable_is o) ∙ T_true _ t.0;
          calm = λ e. ⊎_elim (λ (b : leb (last_kept L C.barrier n) (p + 1) ≡ true). true_T _ b) (λ (b : leb (last_kept L C.barrier n) (p + 1) ≡ false). clash (T_true _ (or_rest (leb (last_kept L C.barrier n) (p + 1)) (eqb o 1) t.1.0 b)) e) (bool? (leb (last_kept L C.barrier n) (p + 1)));
          any = t.1.1.0;
          own = λ l. or_rest (leb o 2) (leb (last_kept L (λ q. eqb (C.wrote q) (o + 1)) n) (p + 1)) t.1.1.1.0 (lt-leb o 2 (omega arith));
        },
      )

  -- what p does, and rule 5's three tests
  abbrev e : Effect
  e = (fact_at run p).does

  abbrev still : Bool
  still = not e.creates && not (is_some e.wrote)

  abbrev bars : Bool
  bars = kept run needed L p (rule5_barrier run needed L p)

  abbrev meets : Bool
  meets = kept run needed L p (rule5_write run needed L p)

  module _ (c : T (still_fine p (last_kept L C.barrier n) (C.creates p) (C.wrote p))) (t : T (origins_ok C n L p)) where
    -- where a kept barrier follows
    barred : (q : ℕ) → p < q → q < n → L q ≡ false → (fact_at run q).does.barrier ≡ true → leb (last_kept L C.barrier n) (p + 1) ≡ false
    barred q a b o d = not_true_is_false _ (λ t. clash (sym (s.barrier q b) ∙ d) (kept_none L C.barrier n p (true_T _ t) q a b o))

    bars_of : T bars
    unfolding still_fine
    bars_of = kept_of (rule5_barrier run needed L p) (λ q a b o. implies_of (fact_at run q).does.barrier (still && all steady e.from) (λ d.
        let f = barred q a b o d in
        let z = T_true _ (or_rest (leb (last_kept L C.barrier n) (p + 1)) (not (C.creates p) && eqb (C.wrote p) 0) c f) in
        both still (all steady e.from)
        (both (not e.creates) (not (is_some e.wrote))
        (false_T e.creates (s.creates p h ∙ T_false (C.creates p) (true_T _ (left_true (not (C.creates p)) (eqb (C.wrote p) 0) z))))
        (no_some_of e.wrote (s.wrote p h ∙ none_wrote (C.wrote p) (right_true (not (C.creates p)) (eqb (C.wrote p) 0) z))))
        (all_of steady e.from (λ x i. let y = fine t x i in true_T (steady x) (ap steady y.1 ∙ sym (steady_is y.0) ∙ ap (λ (v : Bool). v || eqb y.0 2)
        (⊎_elim (λ (u : eqb y.0 1 ≡ true). u) (λ (u : eqb y.0 1 ≡ false). clash (T_true _ (y.2.calm u)) f) (bool? (eqb y.0 1))))))))

    meets_of : T meets
    meets_of = kept_of (rule5_write run needed L p) (λ q a b o. unless_of (λ w. all (λ o. not (alias w o)) e.from) (fact_at run q).does.wrote (λ w d. all_of (λ o. not (alias w o)) e.from (λ x i.
        let f = fine t x i in
        let y = f.0 in
        let z = wrote_some (C.wrote q) w (sym (s.wrote q b) ∙ d) in
        false_T (alias w x) (ap (alias w) f.1 ∙ ap (λ (v : Org). alias v (org_at y)) (sym z.2)
        ∙ apart y z.0 f.2.read (ap (λ (v : ℕ). eqb v 1) (sym z.1) ∙ kept_none L (λ q. eqb (C.wrote q) 1) n p f.2.any q a b o)
        (λ l. ap (λ (v : ℕ). eqb v (y + 1)) (sym z.1) ∙ kept_none L (λ q. eqb (C.wrote q) (y + 1)) n p (f.2.own l) q a b o)))))

    memory_of : T (bars && meets && all readable e.from)
    memory_of = both (bars && meets) (all readable e.from) (both bars meets bars_of meets_of) (all_of readable e.from (λ x i. let f = fine t x i in true_T (readable x) (ap readable f.1 ∙ f.2.read)))

  module _ (t : T (bars && meets && all readable e.from)) where
    -- a kept barrier after p
    after_barrier : (q : ℕ) → p < q → q < n → L q ≡ false → C.barrier q ≡ true → T (still && all steady e.from)
    after_barrier q a b o d =
        implied (fact_at run q).does.barrier (still && all steady e.from) (at_kept (rule5_barrier run needed L p) (left bars meets (left (bars && meets) (all readable e.from) t)) q a b o) (s.barrier q b ∙ d)

    -- a kept write after p
    after_write : (q : ℕ) → p < q → q < n → L q ≡ false → (y o : ℕ) → C.wrote q ≡ suc y → In (org_at o) e.from → alias (org_at y) (org_at o) ≡ false
    after_write q a b o y x d i = T_false (alias (org_at y) (org_at x)) (all_in (λ z. not (alias (org_at y) z)) (org_at x) e.from
        (unless_at (λ w. all (λ o. not (alias w o)) e.from) (fact_at run q).does.wrote (at_kept (rule5_write run needed L p) (right bars meets (left (bars && meets) (all readable e.from) t)) q a b o) (org_at y) (s.wrote q b ∙ some_wrote (C.wrote q) y d)) i)

    of_still : T (still_fine p (last_kept L C.barrier n) (C.creates p) (C.wrote p))
    unfolding still_fine
    of_still =
        ⊎_elim (λ (d : (not (C.creates p) && eqb (C.wrote p) 0) ≡ true). or_second (leb (last_kept L C.barrier n) (p + 1)) (not (C.creates p) && eqb (C.wrote p) 0) (true_T _ d))
        (λ (d : (not (C.creates p) && eqb (C.wrote p) 0) ≡ false). or_first (leb (last_kept L C.barrier n) (p + 1)) (not (C.creates p) && eqb (C.wrote p) 0)
        (none_kept L C.barrier n p (λ q a b o. not_true_is_false (C.barrier q) (λ u.
        let z = left still (all steady e.from) (after_barrier q a b o u) in
        clash (both_true (not (C.creates p)) (eqb (C.wrote p) 0) (ap not (sym (s.creates p h) ∙ T_false e.creates (left (not e.creates) (not (is_some e.wrote)) z)))
        (wrote_none (C.wrote p) (sym (s.wrote p h) ∙ no_some e.wrote (right (not e.creates) (not (is_some e.wrote)) z)))) d))))
        (bool? (not (C.creates p) && eqb (C.wrote p) 0))

    of_origins : T (origins_ok C n L p)
    unfolding origins_ok org_fine
    of_origins = all_of _ (C.from p) one
      where
        one : (o : ℕ) → In o (C.from p) → T (conj (org_tests o))
        one o j =
            let i : In (org_at o) e.from = subst (In (org_at o)) (sym (s.from p h)) (map_in org_at o (C.from p) j) in
            let rd = T_true (readable (org_at o)) (all_in readable (org_at o) e.from (right (bars && meets) (all readable e.from) t) i) in
            conj_of (org_tests o) (
              true_T _ (readable_is o ∙ rd),
              (
                ⊎_elim (λ (d : eqb o 1 ≡ true). or_second (leb (last_kept L C.barrier n) (p + 1)) (eqb o 1) (true_T (eqb o 1) d))
                    (λ (d : eqb o 1 ≡ false). or_first (leb (last_kept L C.barrier n) (p + 1)) (eqb o 1) (none_kept L C.barrier n p (λ q a b k. not_true_is_false (C.barrier q)
                    (λ u. clash (T_true (steady (org_at o)) (all_in steady (org_at o) e.from (right still (all steady e.from) (after_barrier q a b k u)) i)) (not_steady o rd d))))) (bool? (eqb o 1)),
                (
                  none_kept L (λ q. eqb (C.wrote q) 1) n p (λ q a b k. not_true_is_false (eqb (C.wrote q) 1)
                      (λ u. clash (sym (alias_is 0 o)) (after_write q a b k 0 o (eqb-true (C.wrote q) 1 u) i))),
                  (
                    or_of (leb o 2) (leb (last_kept L (λ q. eqb (C.wrote q) (o + 1)) n) (p + 1)) (λ d. let f = leb-false o 2 d in none_kept L (λ q. eqb (C.wrote q) (o + 1)) n p (λ q a b k. not_true_is_false (eqb (C.wrote q) (o + 1))
                        (λ u. clash (self_alias o (omega arith)) (after_write q a b k o o (eqb-true (C.wrote q) (o + 1) u ∙ add-one o) i)))),
                    tt,
                  ),
                ),
              ),
            )

  pub rule5_is : memory_ok C n L p ≡ get_or (tests run needed L p) 4 true
  unfolding memory_ok
  rule5_is =
      bool_ext (memory_ok C n L p) (bars && meets && all readable e.from)
      (λ t. memory_of (left (still_fine p (last_kept L C.barrier n) (C.creates p) (C.wrote p)) (origins_ok C n L p) t) (right (still_fine p (last_kept L C.barrier n) (C.creates p) (C.wrote p)) (origins_ok C n L p) t))
      (λ t. both (still_fine p (last_kept L C.barrier n) (C.creates p) (C.wrote p)) (origins_ok C n L p) (of_still t) (of_origins t))

  -- ---- rule 6

  pub rule6_is : own_ok C n L p ≡ get_or (tests run needed L p) 5 true
  unfolding own_ok
  rule6_is = bool_ext (own_ok C n L p) (unless_some (rule6 run needed L) e.wrote)
      (λ t. unless_of (rule6 run needed L) e.wrote (λ w d. let z = own_temp L (C.wrote p) t w (sym (s.wrote p h) ∙ d) in subst (λ (x : Org). T (rule6 run needed L x)) (sym z.1) (true_T (L z.0) z.2)))
      (λ t. temp_own L (C.wrote p) (λ w d. mine run needed L w (unless_at (rule6 run needed L) e.wrote t w (s.wrote p h ∙ d))))

  -- ---- all six

  pub legal_is : conj (backward_ok C.defs C.reads n L p ∷ result_ok C n needed p ∷ reads_ok C n L L p ∷ suspends_ok C n L p ∷ memory_ok C n L p ∷ own_ok C n L p ∷ []) ≡ legal run needed L p
  legal_is = ap conj (cons rule1_is (cons rule2_is (cons rule3_is (cons rule4_is (cons rule5_is (ap (λ (b : Bool). b ∷ []) rule6_is))))))
    where
      cons : {a b : Bool} {us vs : List Bool} → a ≡ b → us ≡ vs → a ∷ us ≡ b ∷ vs
      cons x y = ap₂ (λ (a : Bool) (l : List Bool). a ∷ l) x y
