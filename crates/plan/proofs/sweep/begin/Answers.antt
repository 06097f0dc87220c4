-- `plan::sweep::begin` meets its contract. Assumes nothing.
use mathlib.Core.Path.{◌≡◌, sym, subst}
use Prim.Native.Nat.{ℕ, ◌+◌, ◌≤◌}
use native.Mathlib.Omega.{arith}
use lib.ListN.{get_or, set}
use Rattle.words.proofs.Bools.{hit_le}
use Rattle.facts.specs.Marks.{no_fact, marked}
use Rattle.plan.specs.Sweep.{from_first, VisitStart, Swept, none, Begun}
use Rattle.plan.proofs.Sweeping.{fact_written, place_few, begun_none, begun_count, begun_more, begun_swept}
use Rattle.plan.proofs.sweep.begin.Goals as goal

pub loop-p-init : goal.loop-p-init
loop-p-init c = let a = c.args in record { begun = begun_none a.given.now.code.recs.now a.given.now.regs.now a.work.now a.span a.facts.now; swept = λ ls. none }

pub starts-begins-requires : goal.starts-begins-requires
starts-begins-requires c =
    let r = c.requires in
    let l = c.loop-p-test.true in
    let k = c.loop-p.invariant.begun.facts in
    (fact_written r k l, place_few r k l, r.row)

pub overflow_add-count : goal.overflow_add-count
overflow_add-count c =
    let one : c.from-count.result ≤ 1 = subst (λ (n : ℕ). n ≤ 1) (sym c.from-count.ensures) (hit_le _) in
    omega (arith, one, begun_count c.loop-p.invariant.begun, c.loop-p-test.true, c.requires.safe.few)

pub loop-p-preserved : goal.loop-p-preserved
loop-p-preserved c =
    let a = c.args in
    let at-loop = c.loop-p in
    let p = at-loop.p in
    let fs = at-loop.facts in
    let begins = c.starts-begins.result in
    record {
      begun = subst (λ (n : ℕ). Begun a.given.now.code.recs.now a.given.now.regs.now a.work.now a.span a.facts.now (p + 1) (set fs p (marked (get_or fs p no_fact) begins)) (at-loop.count + n)) (sym c.from-count.ensures)
          (begun_more c.requires at-loop.invariant.begun c.loop-p-test.true c.starts-begins.ensures);
      swept = λ ls. subst (λ (n : ℕ). Swept (VisitStart a.given.now.code.recs.now a.given.now.regs.now a.span) from_first a.work.now ls a.facts.now (p + 1) a.work.now ls (set fs p (marked (get_or fs p no_fact) begins)) (at-loop.count + n)) (sym c.from-count.ensures)
          (begun_swept (at-loop.invariant.swept ls) c.starts-begins.ensures);
    }

pub returns : goal.returns
returns c =
    let a = c.args in
    let at-loop = c.loop-p in
    let e : at-loop.p ≡ a.span.n = omega (arith, at-loop.auto.p-end) in
    record {
      begun = subst (λ (i : ℕ). Begun a.given.now.code.recs.now a.given.now.regs.now a.work.now a.span a.facts.now i at-loop.facts at-loop.count) e at-loop.invariant.begun;
      swept = λ ls. subst (λ (i : ℕ). Swept (VisitStart a.given.now.code.recs.now a.given.now.regs.now a.span) from_first a.work.now ls a.facts.now i a.work.now ls at-loop.facts at-loop.count) e (at-loop.invariant.swept ls);
    }
