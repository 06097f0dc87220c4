-- A turn, by its sweeps: what they leave, and that fewer turns are to come. Assumes nothing.
use mathlib.Core.Path.{◌≡◌, refl, sym, ap, ◌∙◌, subst}
use mathlib.Core.Bool.{Bool, true, false, not, ◌&&◌, true≢false}
use mathlib.Core.List.{List}
use Prim.Native.Nat.{ℕ, ◌+◌, ◌-◌, ◌≤◌, ◌<◌}
use native.Mathlib.Omega.{arith}
use borrow.Author.Tests.{eqb-false, leb-true, leb-false}
use lib.Dec.{eqb, leb}
use lib.ListN.{length, replicate}
use Rattle.words.specs.Lists.{hit}
use Rattle.words.proofs.Bools.{left_true, right_true, hit_le}
use Rattle.summary.specs.declared.notes.Lasts.{Lasts}
use Rattle.facts.specs.declared.Fact.{Fact}
use Rattle.facts.specs.Marks.{bare}
use Rattle.legalset.specs.Chain.{View, view}
use Rattle.legalset.specs.Marks.{members, Passed}
use Rattle.legalset.specs.Rules.{pass_ok}
use Rattle.legalset.proofs.Settling.{ahead_passed}
use Rattle.plan.specs.declared.turn.Asked.{Asked}
use Rattle.plan.specs.declared.turn.Last.{Last}
use Rattle.plan.specs.declared.turn.Last.TheVariants.{Dropped, Quiet, Done}
use Rattle.plan.specs.declared.turn.Sweeps.{Sweeps}
use Rattle.summary.specs.Passes.{blank, Around, Near, Summed}
use Rattle.plan.specs.Sweep.{part, marks, Sweepable, from_first, from_last, VisitBack, VisitForth, Swept, Clear, Backward, Forward}
use Rattle.plan.specs.Turn.{is_quiet, is_done, after, went, goes_on, Passes, half, whole, Turn, Turned, back_alone, back_and_forth}
use Rattle.plan.proofs.Lent.{around_on}
use Rattle.plan.proofs.Sweeping.{sweepable_on, summed_near, marked_on}

-- where the words are cleared in work₁, and the sweep backward comes to work₂
module _ {recs ops regs work work₁ work₂ : List ℕ} {ls ls₂ : Lasts} {fs fs₂ : List Fact} (z : Asked) (c : Sweeps) {h : Sweeps} {k : ℕ} (r : Sweepable recs ops regs work fs z.span) (words : part z.span.s (length regs) work₁ ≡ replicate (length regs) 0)
    (m : Around z.span.s (length regs) work work₁) (new : ls ≡ blank) (b : Backward recs ops regs z.span work₁ ls fs work₂ ls₂ fs₂ k) (e : h ≡ went c k) where
  clear : Clear (length regs) z.span.s work₁ ls
  clear = record { words = words; notes = new }

  pub turn_half : goes_on h z.least ≡ false → Turn recs ops regs z work fs c work₂ fs₂ h
  turn_half g = subst (Turn recs ops regs z work fs c work₂ fs₂) (sym e) (record {
    passes = half (marks z.span.n fs₂) k (b.passed clear) (ap (λ (x : Sweeps). goes_on x z.least) (sym e) ∙ g);
    around = around_on m b.around;
    facts = b.facts;
  })

  sum : Summed recs (bare fs₂) z.span.n 0 (part z.span.s (length regs) work₂) ls₂ (marks z.span.n fs₂)
  sum = subst (λ (w : List Fact). Summed recs w z.span.n 0 (part z.span.s (length regs) work₂) ls₂ (marks z.span.n fs₂)) (sym b.facts.bare_same) (b.sum clear)

  pub forward_may : z.span.m ≤ z.span.n → Sweepable recs ops regs work₂ fs₂ z.span × Near (part z.span.s (length regs) work₂) × (z.span.m ≤ z.span.n)
  forward_may x_in = (sweepable_on r (b.around.size ∙ m.size) b.facts, summed_near sum, x_in)

  module _ {work₃ : List ℕ} {ls₃ : Lasts} {fs₃ : List Fact} {l : ℕ} (f : Forward recs ops regs z.span work₂ ls₂ fs₂ work₃ ls₃ fs₃ l) where
    passed : Passed (pass_ok (view recs ops (bare fs) regs) z.span.n true) 0 z.span.m (marks z.span.n fs₂) (marks z.span.n fs₃) l
    passed = subst (λ (w : List Fact). Passed (pass_ok (view recs ops w regs) z.span.n true) 0 z.span.m (marks z.span.n fs₂) (marks z.span.n fs₃) l) b.facts.bare_same
        (ahead_passed (view recs ops (bare fs₂) regs) z.span.n z.span.m refl (f.going sum).passed)

    pub turn_whole : {t : Sweeps} → t ≡ went h l → goes_on h z.least ≡ true → Turn recs ops regs z work fs c work₃ fs₃ t
    turn_whole et g = subst (Turn recs ops regs z work fs c work₃ fs₃) (sym (et ∙ ap (λ (x : Sweeps). went x l) e)) (record {
      passes = whole (marks z.span.n fs₂) (marks z.span.n fs₃) k l (b.passed clear) (ap (λ (x : Sweeps). goes_on x z.least) (sym e) ∙ g) passed;
      around = around_on (around_on m b.around) f.around;
      facts = marked_on b.facts f.facts;
    })

-- the same, sweep by sweep
module _ {recs ops regs work work₁ work₂ : List ℕ} {ls ls₂ : Lasts} {fs fs₂ : List Fact} (z : Asked) (c : Sweeps) {h : Sweeps} {k : ℕ} (words : part z.span.s (length regs) work₁ ≡ replicate (length regs) 0) (m : Around z.span.s (length regs) work work₁)
    (new : ls ≡ blank) (b : Swept (VisitBack recs ops regs z.span) (from_last z.span.n) work₁ ls fs z.span.n work₂ ls₂ fs₂ k) (e : h ≡ went c k) where
  from_blank : Swept (VisitBack recs ops regs z.span) (from_last z.span.n) work₁ blank fs z.span.n work₂ ls₂ fs₂ k
  from_blank = subst (λ (l : Lasts). Swept (VisitBack recs ops regs z.span) (from_last z.span.n) work₁ l fs z.span.n work₂ ls₂ fs₂ k) new b

  pub turned_half : goes_on h z.least ≡ false → Turned recs ops regs z work fs c work₂ fs₂ h
  turned_half g = subst (Turned recs ops regs z work fs c work₂ fs₂) (sym e)
      (back_alone work₁ work₂ ls₂ fs₂ k (record { words = words; around = m }) from_blank (ap (λ (x : Sweeps). goes_on x z.least) (sym e) ∙ g))

  pub turned_whole : {work₃ : List ℕ} {ls₃ : Lasts} {fs₃ : List Fact} {l : ℕ} {t : Sweeps} → Swept (VisitForth recs ops regs z.span) from_first work₂ ls₂ fs₂ z.span.m work₃ ls₃ fs₃ l → t ≡ went h l → goes_on h z.least ≡ true
      → Turned recs ops regs z work fs c work₃ fs₃ t
  turned_whole {work₃} {ls₃} {fs₃} {l} f et g = subst (Turned recs ops regs z work fs c work₃ fs₃) (sym (et ∙ ap (λ (x : Sweeps). went x l) e))
      (back_and_forth work₁ work₂ work₃ ls₂ ls₃ fs₂ fs₃ k l (record { words = words; around = m }) from_blank (ap (λ (x : Sweeps). goes_on x z.least) (sym e) ∙ g) f)

-- ---- a bound on the turns to come

pub quiet_after : (b : Bool) (l : Last) → is_quiet (after b l) ≡ b
quiet_after true Dropped = refl
quiet_after true Quiet = refl
quiet_after true Done = refl
quiet_after false l = refl

pub done_after : (b : Bool) (l : Last) → is_done (after b l) ≡ (is_quiet l && b)
done_after true Dropped = refl
done_after true Quiet = refl
done_after true Done = refl
done_after false Dropped = refl
done_after false Quiet = refl
done_after false Done = refl

abbrev pub to_come : Sweeps → ℕ
to_come c = c.left + hit (not (is_done c.last))

half_less : (d : Bool) (n k least : ℕ) → k ≤ n → (not d && leb least (n - k)) ≡ false → least ≤ n → n - k + hit (not d) < n + 1
half_less d n k least h e l = go d (leb least (n - k)) refl e
  where
    go : (b x : Bool) → leb least (n - k) ≡ x → (not b && x) ≡ false → n - k + hit (not b) < n + 1
    go true x i e = omega arith
    go false true i e = absurd (true≢false e)
    go false false i e = let j = leb-false least (n - k) i in omega arith

whole_less : (n k l : ℕ) → k + l ≤ n → n - k - l + hit (not (eqb k 0 && eqb l 0)) < n + 1
whole_less n k l h = go (eqb k 0) (eqb l 0) refl refl
  where
    go : (b x : Bool) → eqb k 0 ≡ b → eqb l 0 ≡ x → n - k - l + hit (not (b && x)) < n + 1
    go true true i j = omega arith
    go true false i j = let y = eqb-false l 0 j in omega arith
    go false x i j = let y = eqb-false k 0 i in let u = hit_le (not (false && x)) in omega arith

below : (c : Sweeps) (least : ℕ) {i : ℕ} → goes_on c least ≡ true → i < c.left + 1 → i < to_come c
below c least e h = let d = ap hit (left_true (not (is_done c.last)) (leb least c.left) e) in omega arith

pub passes_less : {C : View} {n m : ℕ} (least : ℕ) {U W : List ℕ} (c : Sweeps) {t : Sweeps} → goes_on c least ≡ true → c.left ≡ members U → Passes C n m least U c W t → to_come t < to_come c
passes_less least c e l (half V k p g) = below c least e (half_less (is_done (went c k).last) c.left k least (let a = p.count in omega arith) g (leb-true least c.left (right_true (not (is_done c.last)) (leb least c.left) e)))
passes_less least c e l (whole V W k j p g q) = below c least e
    (subst (λ (b : Bool). c.left - k - j + hit (not b) < c.left + 1) (sym (done_after (eqb j 0) (went c k).last ∙ ap (λ (b : Bool). b && eqb j 0) (quiet_after (eqb k 0) c.last)))
    (whole_less c.left k j (let a = p.count in let b = q.count in omega arith)))
