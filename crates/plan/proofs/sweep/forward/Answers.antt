-- `plan::sweep::forward` meets its contract. Assumes nothing.
use mathlib.Core.Path.{◌≡◌, sym, subst}
use Prim.Native.Nat.{ℕ, ◌+◌, ◌<◌}
use native.Mathlib.Omega.{arith}
use lib.ListN.{get_or, set}
use Rattle.facts.specs.Marks.{no_fact, marked}
use Rattle.plan.proofs.Sweeping.{fact_written, fact_readable, fact_small, place_few, ahead_end, AheadSwept, ahead_swept_none, ahead_swept_more, ahead_swept}
use Rattle.plan.proofs.sweep.forward.Goals as goal

pub loop-p-init : goal.loop-p-init
loop-p-init c = ahead_swept_none c.requires.0 c.requires.1

-- by the fact that is lent, whichever that is: what a wrong one breaks is the invariant
pub forth_in-keeps-requires : goal.forth_in-keeps-requires
forth_in-keeps-requires c =
    let r = c.requires.0 in
    let at-loop = c.loop-p in
    let l : at-loop.p < c.args.span.n = omega (arith, c.loop-p-test.true, c.requires.2) in
    let k = at-loop.invariant.ahead.facts in
    let room = r.room in
    let size = at-loop.invariant.ahead.around.size in
    let few : at-loop.p < 800 = place_few r k l in
    (fact_written r k (omega arith), fact_readable r k (omega arith), fact_small r k (omega arith), at-loop.invariant.ahead.near, omega arith, omega arith)

pub loop-p-preserved : goal.loop-p-preserved
loop-p-preserved c =
    let a = c.args in
    let r = c.requires.0 in
    let at-loop = c.loop-p in
    let fs = at-loop.facts in
    let p = at-loop.p in
    let l : at-loop.p < a.span.n = omega (arith, c.loop-p-test.true, c.requires.2) in
    let step = c.forth_in-keeps in
    subst (λ (n : ℕ). AheadSwept a.given.now.code.recs.now a.given.now.code.ops.now a.given.now.regs.now a.span a.work.now a.lasts.now a.facts.now (p + 1) step.new.work step.new.lasts (set fs p (marked (get_or fs p no_fact) step.result)) (at-loop.count + n)) (sym c.from-count.ensures)
    (ahead_swept_more r at-loop.invariant l step.ensures.0 step.ensures.1)

pub returns : goal.returns
returns c =
    let at-loop = c.loop-p in
    let e : at-loop.p ≡ c.args.span.m = omega (arith, at-loop.auto.p-end) in
    record { passed = ahead_end c.requires.0 at-loop.invariant.ahead e; swept = ahead_swept c.requires.0 at-loop.invariant e }
