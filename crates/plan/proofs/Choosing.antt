-- The loop over turns (`set::legal_set`): the marks to begin with, and what is left of them, until the greatest legal set is left. Assumes
-- nothing.
use mathlib.Core.Path.{◌≡◌, refl, sym, ap, ◌∙◌, subst}
use mathlib.Core.Bool.{Bool, true, false, ◌&&◌}
use mathlib.Core.Logic.{⊎_elim}
use mathlib.Core.List.{List}
use Prim.Native.Nat.{ℕ, ◌-◌, ◌+◌, ◌*◌, ◌≤◌, ◌<◌}
use native.Mathlib.Omega.{arith}
use borrow.Author.Tests.{le-ltb}
use lib.Dec.{eqb}
use lib.ListN.{length}
use Rattle.words.specs.Bits.{is_in}
use Rattle.words.proofs.Bools.{clash, lt?}
use Rattle.facts.specs.declared.Fact.{Fact}
use Rattle.facts.specs.Marks.{fact_in, bare}
use Rattle.legalset.specs.Chain.{View, view}
use Rattle.legalset.specs.Marks.{in_set, members}
use Rattle.legalset.specs.Rules.{result_ok, begins}
use Rattle.legalset.proofs.Settling.{Settling, settling_start, settling_more, settled}
use Rattle.plan.specs.declared.turn.Asked.{Asked}
use Rattle.plan.specs.declared.turn.Last.TheVariants.{Dropped}
use Rattle.plan.specs.declared.turn.Sweeps.{Sweeps}
use Rattle.summary.specs.Passes.{Around}
use Rattle.plan.specs.Sweep.{marks, Sweepable, Marked, Begun}
use Rattle.plan.specs.Turn.{is_quiet, is_done, went, goes_on, Passes, half, whole, Turn}
use Rattle.plan.specs.Set.{Choosable, Chose}
use Rattle.legality.proofs.Marking.{past_marks}
use Rattle.legality.proofs.Starting.{begins_in}
use Rattle.legality.proofs.Chosen.{chosen}
use Rattle.plan.proofs.Lent.{around_on, around_none}
use Rattle.plan.proofs.Sweeping.{marks_long, sweepable_on, marked_on}
use Rattle.plan.proofs.Turning.{quiet_after, done_after, to_come, passes_less}

-- what the sweeps left of the marks S; if more are to come, one backward is next
pub record Left (C : View) (n m least : ℕ) (S U : List ℕ) (c : Sweeps) : Type 0 where
  pub ahead : Bool
  pub settling : Settling C n m S U ahead (is_quiet c.last) (is_done c.last) c.left
  pub next : goes_on c least ≡ true → ahead ≡ false

back_next : {C : View} {n m least : ℕ} {S U : List ℕ} {c : Sweeps} → goes_on c least ≡ true → Left C n m least S U c → Settling C n m S U false (is_quiet c.last) (is_done c.last) c.left
back_next {C} {n} {m} {S = S} {U = U} {c = c} e i = subst (λ (a : Bool). Settling C n m S U a (is_quiet c.last) (is_done c.last) c.left) (i.next e) i.settling

settling_on : {C : View} {n m : ℕ} {S W : List ℕ} {a : Bool} (c : Sweeps) (k : ℕ) → Settling C n m S W a (eqb k 0) (is_quiet c.last && eqb k 0) (c.left - k) → Settling C n m S W a (is_quiet (went c k).last) (is_done (went c k).last) (went c k).left
settling_on {C} {n} {m} {S} {W} {a} c k s =
    subst (λ (b : Bool). Settling C n m S W a b (is_done (went c k).last) (c.left - k)) (sym (quiet_after (eqb k 0) c.last))
    (subst (λ (b : Bool). Settling C n m S W a (eqb k 0) b (c.left - k)) (sym (done_after (eqb k 0) c.last)) s)

left_on : (C : View) (n m : ℕ) {least : ℕ} {S U W : List ℕ} (c : Sweeps) {t : Sweeps} → goes_on c least ≡ true → Left C n m least S U c → Passes C n m least U c W t → Left C n m least S W t
left_on C n m c e i (half V k p g) = record { ahead = true; settling = settling_on c k (settling_more C n m (back_next e i) p); next = λ u. clash u g }
left_on C n m c e i (whole V W k l p g q) = record { ahead = false; settling = settling_on (went c k) l (settling_more C n m (settling_on c k (settling_more C n m (back_next e i) p)) q); next = λ u. refl }

-- S are the marks to begin with
pub record Choosing (recs ops regs : List ℕ) (z : Asked) (work₀ : List ℕ) (fs₀ : List Fact) (c : Sweeps) (work : List ℕ) (fs : List Fact) : Type 0 where
  pub S : List ℕ
  pub begun : (p : ℕ) → in_set S p ≡ begins (view recs ops (bare fs₀) regs) z.span.n (λ q. eqb (fact_in (bare fs₀) q).class 1) z.span.m (λ r. is_in work₀ (64 * z.span.o + r)) p
  pub size : length S ≡ z.span.n
  pub left : Left (view recs ops (bare fs₀) regs) z.span.n z.span.m z.least S (marks z.span.n fs) c
  pub around : Around z.span.s (length regs) work₀ work
  pub facts : Marked fs₀ fs

module _ {recs ops regs work₀ : List ℕ} {fs₀ : List Fact} {z : Asked} (h : Choosable recs ops regs work₀ fs₀ z) where
  -- all positions are marked: those that begin in the set
  pub choosing_none : {fs : List Fact} {k : ℕ} → Begun recs regs work₀ z.span fs₀ z.span.n fs k → Choosing recs ops regs z work₀ fs₀ (record { left = k; last = Dropped }) work₀ fs
  unfolding begins
  choosing_none {fs} {k} d =
      let r = h.sweeps in
      let n = z.span.n in
      let w = bare fs₀ in
      let size : length (marks z.span.n fs) ≡ z.span.n = (let a = d.facts.long in let b = r.long in marks_long z.span.n fs (omega arith)) in
      record {
        S = marks z.span.n fs;
        begun = λ p. ⊎_elim
            (λ (x : p < z.span.n). d.each p x ∙ begins_in work₀ z.span.o r.safe h.ended z.span.m p x (record { same = refl }))
            (λ (x : z.span.n ≤ p). let x_in = h.in_x in sym (past_marks (marks z.span.n fs) p (omega arith)) ∙ sym (ap (λ (b : Bool). (b && eqb (fact_in w p).class 1) && result_ok (view recs ops w regs) n (λ y. is_in work₀ (64 * z.span.o + y)) p) (le-ltb p z.span.m (omega arith)))) (lt? p z.span.n);
        size = size;
        left = record { ahead = false; settling = settling_start (view recs ops w regs) n z.span.m d.count; next = λ u. refl };
        around = around_none z.span.s (length regs) work₀;
        facts = d.facts;
      }

  module _ {c : Sweeps} {work : List ℕ} {fs : List Fact} (i : Choosing recs ops regs z work₀ fs₀ c work fs) where
    -- a turn may be made
    pub turn_may : Sweepable recs ops regs work fs z.span × (c.left ≡ members (marks z.span.n fs)) × (z.span.m ≤ z.span.n)
    turn_may = (sweepable_on h.sweeps i.around.size i.facts, i.left.settling.count, h.in_x)

    module _ {work' : List ℕ} {fs' : List Fact} {t : Sweeps} (e : goes_on c z.least ≡ true) (d : Turn recs ops regs z work fs c work' fs' t) where
      pub choosing_more : Choosing recs ops regs z work₀ fs₀ t work' fs'
      choosing_more = record {
        S = i.S;
        begun = i.begun;
        size = i.size;
        left = left_on (view recs ops (bare fs₀) regs) z.span.n z.span.m c e i.left
            (subst (λ (w : List Fact). Passes (view recs ops w regs) z.span.n z.span.m z.least (marks z.span.n fs) c (marks z.span.n fs') t) i.facts.bare_same d.passes);
        around = around_on i.around d.around;
        facts = marked_on i.facts d.facts;
      }

      pub choosing_less : to_come t < to_come c
      choosing_less = passes_less z.least c e i.left.settling.count d.passes

    -- no turn is to come
    pub choosing_end : goes_on c z.least ≡ false → Chose recs ops regs z work₀ fs₀ work fs c.left
    choosing_end e = record {
      set = chosen regs work₀ z.span.o h.sweeps.safe h.in_x i.begun (settled (view recs ops (bare fs₀) regs) z.span.n z.span.m i.left.settling e) i.size;
      around = i.around;
      bare_same = i.facts.bare_same;
      long = i.facts.long;
    }
