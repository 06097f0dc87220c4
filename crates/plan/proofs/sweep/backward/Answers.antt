-- `plan::sweep::backward` meets its contract. Assumes nothing.
use mathlib.Core.Path.{sym, subst}
use Prim.Native.Nat.{ℕ, ◌+◌, ◌-◌, ◌<◌}
use native.Mathlib.Omega.{arith}
use lib.ListN.{get_or, set}
use Rattle.facts.specs.Marks.{no_fact, marked}
use Rattle.plan.proofs.Sweeping.{fact_written, fact_readable, fact_small, place_few, behind_end, BehindSwept, behind_swept_none, behind_swept_more, behind_swept}
use Rattle.plan.proofs.sweep.backward.Goals as goal

pub loop-p-init : goal.loop-p-init
loop-p-init c = behind_swept_none c.requires

-- by the fact that is lent, whichever that is: what a wrong one breaks is the invariant
pub back_in-stays-requires : goal.back_in-stays-requires
back_in-stays-requires c =
    let r = c.requires in
    let at-loop = c.loop-p in
    let l : at-loop.p - 1 < c.args.span.n = omega (arith, c.loop-p-test.true, at-loop.auto.p) in
    let k = at-loop.invariant.behind.facts in
    let room = r.room in
    let size = at-loop.invariant.behind.around.size in
    let few : at-loop.p - 1 < 800 = place_few r k l in
    (fact_written r k (omega arith), fact_readable r k (omega arith), fact_small r k (omega arith), omega arith, omega arith)

pub loop-p-preserved : goal.loop-p-preserved
loop-p-preserved c =
    let a = c.args in
    let at-loop = c.loop-p in
    let fs = at-loop.facts in
    let p = at-loop.p - 1 in
    let step = c.back_in-stays in
    subst (λ (n : ℕ). BehindSwept a.given.now.code.recs.now a.given.now.code.ops.now a.given.now.regs.now a.span a.work.now a.lasts.now a.facts.now p step.new.work step.new.lasts (set fs p (marked (get_or fs p no_fact) step.result)) (at-loop.count + n)) (sym c.from-count.ensures)
    (behind_swept_more c.requires at-loop.invariant c.loop-p-test.true at-loop.auto.p step.ensures.0 step.ensures.1)

pub returns : goal.returns
returns c = record { passed = behind_end c.requires c.loop-p.invariant.behind c.loop-p-test.false; swept = behind_swept c.requires c.loop-p.invariant c.loop-p-test.false }
