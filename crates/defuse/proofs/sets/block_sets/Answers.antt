-- `defuse::sets::block_sets` meets its contract. Assumes nothing.
use Prim.Native.Nat.{◌-◌}
use native.Mathlib.Omega.{arith}
use Rattle.defuse.proofs.Runs.{read_low, written_low, run_none, run_more, run_all}
use Rattle.defuse.proofs.Noted.{notes_none, notes_more, notes_all}
use Rattle.defuse.proofs.sets.block_sets.Goals as goal

pub loop-p-init : goal.loop-p-init
loop-p-init c =
    let a = c.args in
    let f = a.code in
    record { from = c.requires.2; made = run_none f.recs.now f.ops.now a.at.u a.at.d a.bits.now a.hi; noted = notes_none f.recs.now a.writers.now a.hi }

pub add_front-requires : goal.add_front-requires
add_front-requires c =
    let g = c.requires in
    let l = c.loop-p in
    let p = l.p - 1 in (
      record { fits = omega (arith, g.0.fits, l.auto.bits) },
      record { fits = omega (arith, g.1.fits, l.auto.bits) },
      omega (arith, g.3, l.auto.p),
      g.5.known p (omega (arith, g.4, l.auto.p)),
      g.5.listed p (omega (arith, g.4, l.auto.p)),
      read_low g.5 p (omega (arith, g.4, l.auto.p)),
      written_low g.5 p (omega (arith, g.4, l.auto.p)),
    )

pub loop-p-preserved : goal.loop-p-preserved
loop-p-preserved c =
    let a = c.args in
    let f = a.code in
    let l = c.loop-p in
    let e = c.add_front.ensures in
    record {
      from = omega (arith, c.loop-p-test.true);
      made = run_more f.recs.now f.ops.now a.at.u a.at.d a.bits.now _ _ _ c.loop-p-test.true l.auto.p l.invariant.made e.bits;
      noted = notes_more f.recs.now a.writers.now _ _ _ c.loop-p-test.true l.auto.p l.invariant.noted e.writers;
    }

pub returns : goal.returns
returns c =
    let a = c.args in
    let f = a.code in
    let on = c.loop-p.invariant in
    record {
      bits = run_all f.recs.now f.ops.now a.at.u a.at.d a.bits.now _ _ _ on.from c.loop-p-test.false on.made;
      writers = notes_all f.recs.now a.writers.now _ _ _ on.from c.loop-p-test.false on.noted;
    }
