-- The positions to begin with, and rule 2. Assumes nothing.
use mathlib.Core.Path.{◌≡◌, sym, ap, ◌∙◌}
use mathlib.Core.Bool.{Bool, true, false, not, ◌&&◌, ◌||◌, and_assoc}
use mathlib.Core.List.{List}
use Prim.Native.Nat.{ℕ, ◌+◌, ◌*◌, ◌/◌, ◌<◌}
use borrow.Author.Tests.{eq-eqb, ne_eqb}
use lib.Dec.{eqb, ltb}
use lib.ListN.{get_or, length}
use Rattle.words.specs.Lists.{all}
use Rattle.words.specs.Bits.{is_in}
use Rattle.words.proofs.Members.{all_on}
use Rattle.model.specs.Picture.{inst, absent, writes}
use Rattle.facts.specs.declared.Fact.{Fact}
use Rattle.facts.specs.Marks.{fact_in}
use Rattle.legalset.specs.Chain.{view, defs_of, writer, Safe}
use Rattle.legalset.specs.Rules.{result_ok, begins}
use Rattle.summary.specs.Passes.{result_test, begin_test, Ended, Shows}
use Rattle.summary.proofs.Backing.{writes_low}

module _ (regs bits : List ℕ) (o p r : ℕ) where
  pub result_absent : r ≡ absent → true ≡ (eqb r absent || result_test regs bits o p r)
  result_absent e = sym (ap (λ (b : Bool). b || result_test regs bits o p r) (eq-eqb r absent e))

  pub result_there : {k : ℕ} {b : Bool} → (r ≡ absent → ⊥) → k ≡ r → b ≡ is_in bits (64 * o + k) → not (b && eqb (get_or regs k 0 / 16) (p + 1)) ≡ (eqb r absent || result_test regs bits o p r)
  unfolding result_test
  result_there {k} n e f =
      ap (λ (x : Bool). not (x && eqb (get_or regs k 0 / 16) (p + 1))) f ∙ ap (λ (j : ℕ). not (is_in bits (64 * o + j) && eqb (get_or regs j 0 / 16) (p + 1))) e
      ∙ sym (ap (λ (b : Bool). b || not (is_in bits (64 * o + r) && eqb (get_or regs r 0 / 16) (p + 1))) (ne_eqb r absent n))

module _ (recs regs bits : List ℕ) (f : Fact) (o p : ℕ) where
  pub begin_fixed : (f.class ≡ 1 → ⊥) → false ≡ begin_test recs regs bits f o p
  unfolding begin_test
  begin_fixed n = sym (ap (λ (b : Bool). b && all (result_test regs bits o p) (writes (inst recs f.rec))) (ne_eqb f.class 1 n))

  pub begin_may : {b : Bool} → f.class ≡ 1 → b ≡ all (result_test regs bits o p) (writes (inst recs f.rec)) → b ≡ begin_test recs regs bits f o p
  unfolding begin_test
  begin_may n t = t ∙ sym (ap (λ (b : Bool). b && all (result_test regs bits o p) (writes (inst recs f.rec))) (eq-eqb f.class 1 n))

pub results_are : (bits : List ℕ) (o : ℕ) {recs ops : List ℕ} {w : List Fact} {regs : List ℕ} {n p : ℕ} → Safe recs ops w n (length regs) → p < n → Ended recs w n regs
    → all (result_test regs bits o p) (defs_of recs w p) ≡ result_ok (view recs ops w regs) n (λ r. is_in bits (64 * o + r)) p
unfolding result_ok result_test
results_are bits o {recs} {ops} {w} {regs} {n} {p} s h d =
    all_on (result_test regs bits o p) (λ r. not (is_in bits (64 * o + r) && eqb (writer (defs_of recs w) r n) (p + 1))) (defs_of recs w p)
    (λ r i. ap (λ (y : ℕ). not (is_in bits (64 * o + r) && eqb y (p + 1))) (d.each r (writes_low recs (length regs) (fact_in w p).rec (s.good p h).fits r i)))

module _ (bits : List ℕ) (o : ℕ) {recs ops : List ℕ} {w : List Fact} {regs : List ℕ} {n : ℕ} (s : Safe recs ops w n (length regs)) (d : Ended recs w n regs) (m p : ℕ) (h : p < n) {f : Fact} (t : Shows w p f) where
  pub begins_in : (ltb p m && begin_test recs regs bits f o p) ≡ begins (view recs ops w regs) n (λ q. eqb (fact_in w q).class 1) m (λ r. is_in bits (64 * o + r)) p
  unfolding begin_test begins
  begins_in =
      ap (λ (y : Fact). ltb p m && (eqb y.class 1 && all (result_test regs bits o p) (writes (inst recs y.rec)))) (sym t.same)
      ∙ ap (λ (b : Bool). ltb p m && (eqb (fact_in w p).class 1 && b)) (results_are bits o s h d) ∙ sym (and_assoc (ltb p m) (eqb (fact_in w p).class 1) (result_ok (view recs ops w regs) n (λ r. is_in bits (64 * o + r)) p))
