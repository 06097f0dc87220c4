-- Passes in turn until both drop nothing, and what is left then: the greatest legal set, or fewer than a number that bounds it. Assumes
-- nothing.
use mathlib.Core.Path.{◌≡◌, refl, sym, ◌∙◌, subst}
use mathlib.Core.Bool.{Bool, true, false, not, ◌&&◌, not-not}
use mathlib.Core.List.{List, [], ◌∷◌}
use Prim.Native.Nat.{ℕ, ◌-◌, ◌≤◌, ◌<◌}
use native.Mathlib.Nat.{le_trans}
use native.Mathlib.Omega.{arith}
use borrow.Author.Tests.{eqb-true, le-leb}
use lib.Dec.{T, eqb, leb, ltb, ltb→lt, lt→ltb}
use lib.ListN.{length}
use Rattle.words.specs.Lists.{member, conj}
use Rattle.words.proofs.Bools.{both, left, right, left_true, right_true, clash, hold, conj_of, bool_ext}
use Rattle.model.specs.Analyse.{Fact, movable}
use Rattle.model.specs.Legal.{fact_at, legal, greatest}
use Rattle.laws.proofs.Greatest.{greatest_legal, greatest_most, greatest_movable}
use Rattle.legalset.specs.Chain.{View, Stands}
use Rattle.legalset.specs.Rules.{reads_ok, suspends_ok, memory_ok, own_ok, forward_ok, backward_ok, result_ok, cycle_ok, pass_ok, begins}
use Rattle.legalset.specs.Marks.{in_set, members, own, Passed, Settled, ◌⊑◌}
use Rattle.legalset.proofs.Easier.{behind}
use Rattle.legalset.proofs.Lawful.{legal_is}

module _ (C : View) (n m : ℕ) where
  -- ---- one pass, forward over the first m or backward over all n

  pub ahead_passed : {S U : List ℕ} {r : ℕ} {a : Bool} → a ≡ true → Passed (own (forward_ok C n)) 0 m S U r → Passed (pass_ok C n a) 0 m S U r
  unfolding pass_ok
  ahead_passed {S} {U} {r} e f = subst (λ (b : Bool). Passed (pass_ok C n b) 0 m S U r) (sym e) f

  pub back_passed : {S U : List ℕ} {r : ℕ} {a : Bool} → m ≤ n → a ≡ false → Passed (own (behind C n)) 0 n S U r → Passed (pass_ok C n a) 0 m S U r
  unfolding pass_ok
  back_passed {S} {U} {r} h e f = subst (λ (b : Bool). Passed (pass_ok C n b) 0 m S U r) (sym e)
      (record { size = f.size; within = f.within; holds = f.holds; count = f.count; left = λ z. let x = f.left z in (x.0, λ p a b. x.1 p a (omega arith)) })

  of_cycle : (a : Bool) (L : ℕ → Bool) (p : ℕ) → T (cycle_ok C n L p) → T (pass_ok C n a L p)
  unfolding cycle_ok pass_ok
  of_cycle true L p = left (forward_ok C n L L p) (backward_ok C.defs C.reads n L p)
  of_cycle false L p = right (forward_ok C n L L p) (backward_ok C.defs C.reads n L p)

  in_cycle : (a : Bool) (L : ℕ → Bool) (p : ℕ) → T (pass_ok C n (not a) L p) → T (pass_ok C n a L p) → T (cycle_ok C n L p)
  unfolding cycle_ok pass_ok
  in_cycle true L p x y = both (forward_ok C n L L p) (backward_ok C.defs C.reads n L p) y x
  in_cycle false L p x y = both (forward_ok C n L L p) (backward_ok C.defs C.reads n L p) x y

  -- ---- passes in turn

  -- S came to U, of r members; `ahead` is the pass that comes next; if `quiet` the last one dropped nothing, if `done` nor did the one
  -- before
  pub record Settling (S U : List ℕ) (ahead quiet done : Bool) (r : ℕ) : Type 0 where
    pub size : length U ≡ length S
    pub within : in_set U ⊑ in_set S
    pub holds : (L : ℕ → Bool) → L ⊑ in_set S → ((p : ℕ) → T (L p) → T (cycle_ok C n L p)) → L ⊑ in_set U
    pub count : r ≡ members U
    pub once : quiet ≡ true → (p : ℕ) → p < m → T (in_set U p) → T (pass_ok C n (not ahead) (in_set U) p)
    pub twice : done ≡ true → (p : ℕ) → p < m → T (in_set U p) → T (cycle_ok C n (in_set U) p)

  pub settling_start : {S : List ℕ} {r : ℕ} → r ≡ members S → Settling S S false false false r
  settling_start e = record { size = refl; within = λ p t. t; holds = λ L s k. s; count = e; once = λ z. clash z refl; twice = λ z. clash z refl }

  pub settling_more : {S U W : List ℕ} {a q z : Bool} {r d : ℕ} → Settling S U a q z r → Passed (pass_ok C n a) 0 m U W d → Settling S W (not a) (eqb d 0) (q && eqb d 0) (r - d)
  settling_more {S} {U} {W} {a} {q} {z} {r} {d} i f = record {
    size = f.size ∙ i.size;
    within = λ p t. i.within p (f.within p t);
    holds = λ L s k. f.holds L (i.holds L s k) (λ p t. of_cycle a L p (k p t));
    count = let x = i.count in let y = f.count in omega arith;
    once = λ e p l t. subst (λ (b : Bool). T (pass_ok C n b (in_set W) p)) (sym (not-not a)) (now e p l t);
    twice = λ e p l t. in_cycle a (in_set W) p (before e p l t) (now (right_true q (eqb d 0) e) p l t);
  }
    where
      now : eqb d 0 ≡ true → (p : ℕ) → p < m → T (in_set W p) → T (pass_ok C n a (in_set W) p)
      now e p l t =
          let x = f.left (eqb-true d 0 e) in
          subst (λ (X : List ℕ). T (pass_ok C n a (in_set X) p)) (sym x.0) (x.1 p (omega arith) l (subst (λ (X : List ℕ). T (in_set X p)) x.0 t))

      before : (q && eqb d 0) ≡ true → (p : ℕ) → p < m → T (in_set W p) → T (pass_ok C n (not a) (in_set W) p)
      before e p l t =
          let x = f.left (eqb-true d 0 (right_true q (eqb d 0) e)) in
          subst (λ (X : List ℕ). T (pass_ok C n (not a) (in_set X) p)) (sym x.0) (i.once (left_true q (eqb d 0) e) p l (subst (λ (X : List ℕ). T (in_set X p)) x.0 t))

  -- what is left, when all is done or there are too few
  pub settled : {S U : List ℕ} {a q z : Bool} {r least : ℕ} → Settling S U a q z r → (not z && leb least r) ≡ false → Settled (cycle_ok C n) m least S U r
  settled {z = z} {r} {least} i e = record { size = i.size; within = i.within; holds = i.holds; count = i.count; keeps = λ l. i.twice (go z (le-leb least r l) e) }
    where
      go : (b : Bool) → leb least r ≡ true → (not b && leb least r) ≡ false → b ≡ true
      go true h k = refl
      go false h k = clash h k

module _ (C : View) (n : ℕ) (run : List Fact) (s : Stands C n run) (needed mv : ℕ → Bool) (m : ℕ) (h : m ≤ n) (class : (p : ℕ) → p < n → movable (fact_at run p).does.class ≡ mv p) where
  abbrev all_six : (ℕ → Bool) → ℕ → List Bool
  all_six L p = backward_ok C.defs C.reads n L p ∷ result_ok C n needed p ∷ reads_ok C n L L p ∷ suspends_ok C n L p ∷ memory_ok C n L p ∷ own_ok C n L p ∷ []

  abbrev four : (ℕ → Bool) → ℕ → List Bool
  four L p = reads_ok C n L L p ∷ suspends_ok C n L p ∷ memory_ok C n L p ∷ own_ok C n L p ∷ []

  six : (L : ℕ → Bool) (p : ℕ) → T (cycle_ok C n L p) → T (result_ok C n needed p) → T (conj (all_six L p))
  unfolding cycle_ok forward_ok
  six L p t r =
      let f = hold (four L p) (left (forward_ok C n L L p) (backward_ok C.defs C.reads n L p) t) in
      conj_of (all_six L p) (right (forward_ok C n L L p) (backward_ok C.defs C.reads n L p) t, (r, f))

  of_six : (L : ℕ → Bool) (p : ℕ) → T (conj (all_six L p)) → T (cycle_ok C n L p) × T (result_ok C n needed p)
  unfolding cycle_ok forward_ok
  of_six L p t =
      let z = hold (all_six L p) t in
      (both (forward_ok C n L L p) (backward_ok C.defs C.reads n L p) (conj_of (four L p) z.1.1) z.0, z.1.0)

  module _ {S U : List ℕ} {least r : ℕ} (b : (p : ℕ) → in_set S p ≡ begins C n mv m needed p) (d : Settled (cycle_ok C n) m least S U r) where
    -- what a member of the greatest set keeps
    kept : (p : ℕ) → T (member (greatest run needed m) p) → T (cycle_ok C n (member (greatest run needed m)) p) × T (result_ok C n needed p)
    kept p t = of_six (member (greatest run needed m)) p (subst T (sym (legal_is C n run s needed (member (greatest run needed m)) p (le_trans (greatest_movable run needed m p t).0 h))) (greatest_legal run needed m p t))

    first : member (greatest run needed m) ⊑ in_set S
    unfolding begins
    first p t =
        let z = greatest_movable run needed m p t in
        subst T (sym (b p)) (both (ltb p m && mv p) (result_ok C n needed p) (both (ltb p m) (mv p) (lt→ltb p m z.0) (subst T (class p (le_trans z.0 h)) z.1)) (kept p t).1)

    -- the greatest legal set is left, whatever else is
    pub greatest_left : member (greatest run needed m) ⊑ in_set U
    greatest_left = d.holds (member (greatest run needed m)) first (λ q t. (kept q t).0)

    start : (p : ℕ) → T (in_set U p) → (p < m) × T (mv p) × T (result_ok C n needed p)
    unfolding begins
    start p t =
        let z = subst T (b p) (d.within p t) in
        let y = left (ltb p m && mv p) (result_ok C n needed p) z in
        (ltb→lt p m (left (ltb p m) (mv p) y), right (ltb p m) (mv p) y, right (ltb p m && mv p) (result_ok C n needed p) z)

    -- and nothing else, where enough is left
    pub settled_greatest : least ≤ r → (p : ℕ) → in_set U p ≡ member (greatest run needed m) p
    settled_greatest many p = bool_ext (in_set U p) (member (greatest run needed m) p) (greatest_most run needed m (in_set U) low moves legal_now p) (greatest_left p)
      where
        low : (p : ℕ) → T (in_set U p) → p < m
        low p t = (start p t).0

        moves : (p : ℕ) → T (in_set U p) → T (movable (fact_at run p).does.class)
        moves p t = let z = start p t in subst T (sym (class p (le_trans z.0 h))) z.1

        legal_now : (p : ℕ) → T (in_set U p) → T (legal run needed (in_set U) p)
        legal_now p t =
            let z = start p t in
            subst T (legal_is C n run s needed (in_set U) p (le_trans z.0 h)) (six (in_set U) p (d.keeps many p z.0 t) z.2)
