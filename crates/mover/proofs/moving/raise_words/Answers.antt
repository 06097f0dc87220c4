-- `mover::moving::raise_words` meets its contract. Assumes nothing.
use Prim.Native.Nat.{◌*◌}
use native.Mathlib.Nat.{mul-le-mul_left}
use native.Mathlib.Omega.{arith}
use mathlib.Core.Path.{◌∙◌}
use Rattle.words.proofs.Parts.{tail_is}
use Rattle.mover.proofs.Moves.{raised_is}
use Rattle.mover.proofs.Segments.{segment_ask}
use Rattle.mover.proofs.Raising.{raising_none, raising_fits, raising_more, raising_end}
use Rattle.mover.proofs.moving.raise_words.Goals as goal

pub loop-q-init : goal.loop-q-init
loop-q-init c = let a = c.args in raising_none a.r.w a.chain.now a.r.lo a.r.m (a.r.w * a.t) a.xs.now a.saved.now (mul-le-mul_left a.r.w c.requires.1)

pub raise-e-requires : goal.raise-e-requires
raise-e-requires c =
    let a = c.args in
    let q = c.requires in
    let l = c.loop-q in
    let i = l.invariant in
    let k = c.min-m.result in
    let f = raising_fits (mul-le-mul_left a.r.w q.1) q.0.inside i in
    (segment_ask q.0 l.q k (omega (arith, c.min-m.ensures, i.inside)) (omega (arith, c.min-m.ensures)) (tail_is (10 * l.q) a.chain.now) i.size i.saved_size (omega (arith, f.0, f.1)), f.0)

pub overflow_add-e : goal.overflow_add-e
overflow_add-e c =
    let a = c.args in
    let q = c.requires in
    let l = c.loop-q in
    let k = c.min-m.result in
    let s = c.raise-e in
    let n = raising_more (mul-le-mul_left a.r.w q.1) q.0.inside l.invariant k {saved' = s.new.saved} (omega (arith, c.min-m.ensures, c.loop-q-test.true)) (tail_is (10 * l.q) a.chain.now) c.raise-e.auto.xs c.raise-e.ensures.0 c.raise-e.ensures.1 c.raise-e.auto.saved
    in let f = raising_fits (mul-le-mul_left a.r.w q.1) q.0.inside n in omega (arith, f.0, f.1, c.raise-e.auto.xs, l.invariant.size, c.well_formed)

pub loop-q-preserved : goal.loop-q-preserved
loop-q-preserved c =
    let a = c.args in
    let q = c.requires in
    let l = c.loop-q in
    let k = c.min-m.result in
    let s = c.raise-e in
    raising_more (mul-le-mul_left a.r.w q.1) q.0.inside l.invariant k (omega (arith, c.min-m.ensures, c.loop-q-test.true)) (tail_is (10 * l.q) a.chain.now) c.raise-e.auto.xs c.raise-e.ensures.0 c.raise-e.ensures.1 c.raise-e.auto.saved

pub returns : goal.returns
returns c = λ n h. let a = c.args in raising_end c.loop-q.invariant c.loop-q-test.false ∙ raised_is a.r.w a.xs.now a.chain.now a.r.lo a.r.m a.t n h
