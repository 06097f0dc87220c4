-- The marks that are left are the greatest legal set, with as many members, or that has fewer than the least. Assumes nothing.
use mathlib.Core.Path.{◌≡◌, refl, sym, ap, ◌∙◌}
use mathlib.Core.Bool.{Bool, true, false, not, ◌&&◌}
use mathlib.Core.List.{List, [], ◌∷◌}
use Prim.Native.Nat.{ℕ, suc, ◌+◌, ◌*◌, ◌≤◌, ◌<◌}
use native.Mathlib.Omega.{arith}
use mathlib.Core.Logic.{⊎_elim}
use borrow.Author.Tests.{le-ltb}
use lib.Dec.{eqb, ltb}
use lib.ListN.{length}
use Rattle.words.specs.Lists.{hit, member, count}
use Rattle.words.specs.Bits.{is_in}
use Rattle.words.proofs.Bools.{lt?, T_true}
use Rattle.words.proofs.Members.{all_on}
use Rattle.model.specs.Analyse.{Fact, movable}
use Rattle.model.specs.Legal.{fact_at, greatest}
use Rattle.effects.proofs.Origins.{movable_is}
use Rattle.facts.specs.declared.Fact as F
use Rattle.facts.specs.Marks.{fact_in}
use Rattle.legalset.specs.Chain.{view, defs_of, writer, Safe, Told}
use Rattle.legalset.specs.Marks.{in_set, members, Settled, ◌⊑◌}
use Rattle.legalset.specs.Rules.{result_ok, cycle_ok, begins}
use Rattle.legalset.proofs.Settling.{greatest_left, settled_greatest}
use Rattle.summary.specs.Passes.{Row, Greatest}
use Rattle.legality.proofs.Marking.{none_marked}
use Rattle.summary.proofs.Backing.{writes_low}

-- as many marks as members
none_left : (G : List Bool) → ((p : ℕ) → false ≡ member G p) → 0 ≡ count G
none_left [] h = refl
none_left (true ∷ G) h = absurd (mathlib.Core.Bool.true≢false (sym (h 0)))
none_left (false ∷ G) h = none_left G (λ p. h (suc p))

as_many : (S : List ℕ) (G : List Bool) → ((p : ℕ) → in_set S p ≡ member G p) → members S ≡ count G
unfolding members in_set
as_many [] G h = none_left G h
as_many (x ∷ S) [] h = none_marked (x ∷ S) h
as_many (x ∷ S) (true ∷ G) h = let a = ap hit (h 0) in let b = as_many S G (λ p. h (suc p)) in omega arith
as_many (x ∷ S) (false ∷ G) h = let a = ap hit (h 0) in let b = as_many S G (λ p. h (suc p)) in omega arith

-- at least as many marks as members, if all of these are marked
at_most : (S : List ℕ) (G : List Bool) → member G ⊑ in_set S → count G ≤ members S
unfolding members in_set
at_most S [] h = omega arith
at_most [] (true ∷ G) h = absurd (h 0 tt)
at_most [] (false ∷ G) h = at_most [] G (λ p. h (suc p))
at_most (x ∷ S) (true ∷ G) h = let a = ap hit (T_true (not (eqb x 0)) (h 0 tt)) in let b = at_most S G (λ p. h (suc p)) in omega arith
at_most (x ∷ S) (false ∷ G) h = let b = at_most S G (λ p. h (suc p)) in omega arith

-- the row in place of the needs
pub results_row : (regs : List ℕ) {recs ops : List ℕ} {w : List F.Fact} {bits : List ℕ} {o n p : ℕ} {needed : ℕ → Bool} → Safe recs ops w n (length regs) → p < n → Row bits o (length regs) needed
    → result_ok (view recs ops w regs) n (λ r. is_in bits (64 * o + r)) p ≡ result_ok (view recs ops w regs) n needed p
unfolding result_ok
results_row regs {recs} {ops} {w} {bits} {o} {n} {p} {needed} s h k =
    all_on (λ r. not (is_in bits (64 * o + r) && eqb (writer (defs_of recs w) r n) (p + 1))) (λ r. not (needed r && eqb (writer (defs_of recs w) r n) (p + 1))) (defs_of recs w p)
    (λ r i. ap (λ (y : Bool). not (y && eqb (writer (defs_of recs w) r n) (p + 1))) (k.each r (writes_low recs (length regs) (fact_in w p).rec (s.good p h).fits r i)))

begins_row : (regs : List ℕ) {recs ops : List ℕ} {w : List F.Fact} {bits : List ℕ} {o m n : ℕ} {needed : ℕ → Bool} → Safe recs ops w n (length regs) → m ≤ n → Row bits o (length regs) needed → (p : ℕ)
    → begins (view recs ops w regs) n (λ q. eqb (fact_in w q).class 1) m (λ r. is_in bits (64 * o + r)) p ≡ begins (view recs ops w regs) n (λ q. eqb (fact_in w q).class 1) m needed p
unfolding begins
begins_row regs {recs} {ops} {w} {bits} {o} {m} {n} {needed} s h k p = ⊎_elim
    (λ (l : p < m). ap (λ (b : Bool). ltb p m && eqb (fact_in w p).class 1 && b) (results_row regs s (omega arith) k))
    (λ (l : m ≤ p). ap (λ (b : Bool). b && eqb (fact_in w p).class 1 && result_ok (view recs ops w regs) n (λ r. is_in bits (64 * o + r)) p) (le-ltb p m l)
    ∙ sym (ap (λ (b : Bool). b && eqb (fact_in w p).class 1 && result_ok (view recs ops w regs) n needed p) (le-ltb p m l))) (lt? p m)

module _ {recs ops : List ℕ} {w : List F.Fact} (regs bits : List ℕ) (o : ℕ) {m n least r : ℕ} {S U : List ℕ} (s : Safe recs ops w n (length regs)) (h : m ≤ n)
    (b : (p : ℕ) → in_set S p ≡ begins (view recs ops w regs) n (λ q. eqb (fact_in w q).class 1) m (λ r. is_in bits (64 * o + r)) p)
    (d : Settled (cycle_ok (view recs ops w regs) n) m least S U r) (e : length S ≡ n) where
  module _ (run : List Fact) (needed : ℕ → Bool) (t : Told recs ops w regs n run) (k : Row bits o (length regs) needed) where
    chosen_class : (p : ℕ) → p < n → movable (fact_at run p).does.class ≡ eqb (fact_in w p).class 1
    chosen_class p l = ap movable (t.class p l) ∙ movable_is (fact_in w p).class

    chosen_left : member (greatest run needed m) ⊑ in_set U
    chosen_left = greatest_left (view recs ops w regs) n run t.stands needed (λ q. eqb (fact_in w q).class 1) m h chosen_class (λ p. b p ∙ begins_row regs s h k p) d

    chosen_set : least ≤ r → (p : ℕ) → in_set U p ≡ member (greatest run needed m) p
    chosen_set = settled_greatest (view recs ops w regs) n run t.stands needed (λ q. eqb (fact_in w q).class 1) m h chosen_class (λ p. b p ∙ begins_row regs s h k p) d

  pub chosen : Greatest recs ops w regs bits o U m n least r
  chosen = record {
    size = d.size ∙ e;
    set = λ l run needed t k. chosen_set run needed t k l;
    few = λ l run needed t k. let x = d.count in let y = at_most U (greatest run needed m) (chosen_left run needed t k) in omega arith;
    count = λ l run needed t k. d.count ∙ as_many U (greatest run needed m) (chosen_set run needed t k l);
  }
