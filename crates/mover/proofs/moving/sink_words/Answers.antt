-- `mover::moving::sink_words` meets its contract. Assumes nothing.
use Prim.Native.Nat.{◌+◌, ◌-◌, ◌*◌, ◌≤◌}
use native.Mathlib.Nat.{mul-le-mul_left}
use native.Mathlib.Omega.{arith}
use mathlib.Core.Path.{◌∙◌}
use Rattle.words.proofs.Parts.{tail_is}
use Rattle.mover.proofs.Moves.{sunk_is}
use Rattle.mover.proofs.Segments.{segment_ask}
use Rattle.mover.proofs.Sinking.{sinking_none, sinking_fits, sinking_below, sinking_more, sinking_end}
use Rattle.mover.proofs.moving.sink_words.Goals as goal

pub loop-q-init : goal.loop-q-init
loop-q-init c = let a = c.args in sinking_none a.r.w a.chain.now a.r.lo a.r.m (a.r.w * a.t) a.xs.now a.saved.now (mul-le-mul_left a.r.w c.requires.1)

pub sink-e-requires : goal.sink-e-requires
sink-e-requires c =
    let a = c.args in
    let q = c.requires in
    let l = c.loop-q in
    let i = l.invariant in
    let k = c.min-m.result in
    let f = sinking_fits (mul-le-mul_left a.r.w q.1) q.0.target i in
    let up : a.r.w * (a.r.lo + (l.q - k) + k) ≤ a.r.w * (a.r.lo + l.q) = mul-le-mul_left a.r.w (omega (arith, c.min-m.ensures)) in
    (segment_ask q.0 (l.q - k) k (omega (arith, c.min-m.ensures, i.inside)) (omega (arith, c.min-m.ensures)) (tail_is (10 * (l.q - k)) a.chain.now) i.size i.saved_size f.1, omega (arith, f.0, up))

pub overflow_sub-e : goal.overflow_sub-e
overflow_sub-e c =
    let a = c.args in
    let q = c.requires in
    let l = c.loop-q in
    let k = c.min-m.result in
    let s = c.sink-e in
    sinking_below (mul-le-mul_left a.r.w q.1) q.0.target l.invariant (l.q - k) k (omega (arith, c.min-m.ensures)) (tail_is (10 * (l.q - k)) a.chain.now) c.sink-e.auto.xs c.sink-e.ensures.0 c.sink-e.ensures.1

pub loop-q-preserved : goal.loop-q-preserved
loop-q-preserved c =
    let a = c.args in
    let q = c.requires in
    let l = c.loop-q in
    let k = c.min-m.result in
    let s = c.sink-e in
    sinking_more (mul-le-mul_left a.r.w q.1) q.0.target l.invariant (l.q - k) k (omega (arith, c.min-m.ensures)) (tail_is (10 * (l.q - k)) a.chain.now) c.sink-e.auto.xs c.sink-e.ensures.0 c.sink-e.ensures.1 c.sink-e.auto.saved

pub returns : goal.returns
returns c = λ n h. let a = c.args in sinking_end c.loop-q.invariant (omega (arith, c.loop-q-test.false)) ∙ sunk_is a.r.w a.xs.now a.chain.now a.r.lo a.r.m a.t n h
