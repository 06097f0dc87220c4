-- `defuse::sets::write_slots` meets its contract. Assumes nothing.
use native.Mathlib.Omega.{arith}
use mathlib.Core.Path.{◌≡◌, refl, ap, ◌∙◌}
use Prim.Native.Nat.{◌<◌}
use Rattle.inst.specs.Record.{writers}
use Rattle.inst.proofs.Firsts.{writers_few, writers_end}
use Rattle.inst.proofs.Indices.{among_made}
use Rattle.inst.proofs.Rest.{writes_all}
use Rattle.defuse.specs.Sets.{wrote}
use Rattle.defuse.specs.Writers.{note}
use Rattle.defuse.proofs.Runs.{write_on}
use Rattle.words.specs.Steps.{steps}
use Rattle.words.proofs.Steps.{steps_end}
use Rattle.defuse.proofs.sets.write_slots.Goals as goal

pub write-requires-clause-slot : goal.write-requires-clause-slot
write-requires-clause-slot c = omega (arith, c.loop-s-test.true, c.writers-n.ensures, writers_few c.args.slots.now.does)

pub write-requires-clause-few : goal.write-requires-clause-few
write-requires-clause-few c = omega (arith, c.requires.2.few)

pub write_one-requires : goal.write_one-requires
write_one-requires c =
    let g = c.requires in (
      record { fits = omega (arith, g.0.fits, c.loop-s.auto.bits) },
      record { fits = omega (arith, g.1.fits, c.loop-s.auto.bits) },
      among_made _ _ c.write.ensures refl _ (omega (arith, g.2.few)) (omega arith),
      g.3,
    )

pub loop-s-preserved : goal.loop-s-preserved
loop-s-preserved c =
    let a = c.args in
    let e = c.write_one.ensures in
    let on = c.loop-s.invariant in
    let low : c.loop-s.s < 5 = omega (arith, c.loop-s-test.true, c.writers-n.ensures, writers_few a.slots.now.does) in (
      write_on (wrote a.at.u a.at.d) a.slots.now.used.within c.requires.2 low _ _ _ c.write.ensures e.bits on.0,
      write_on (note a.slots.now.p) a.slots.now.used.within c.requires.2 low _ _ _ c.write.ensures e.writers on.1,
    )

pub returns : goal.returns
returns c =
    let a = c.args in
    let on = c.loop-s.invariant in
    let all : c.loop-s.s ≡ writers a.slots.now.does = omega (arith, c.loop-s.auto.s-end, c.loop-s-test.false, c.writers-n.ensures) in
    let none = writers_end _ _ _ a.slots.now.used all in
    record {
      bits = steps_end (wrote a.at.u a.at.d) _ none on.0 ∙ ap (steps (wrote a.at.u a.at.d) a.bits.now) (writes_all _);
      writers = steps_end (note a.slots.now.p) _ none on.1 ∙ ap (steps (note a.slots.now.p) a.writers.now) (writes_all _);
    }
