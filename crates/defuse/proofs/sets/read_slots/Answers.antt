-- `defuse::sets::read_slots` meets its contract. Assumes nothing.
use native.Mathlib.Omega.{arith}
use mathlib.Core.Path.{◌≡◌, refl}
use Prim.Native.Nat.{◌<◌}
use Rattle.inst.specs.Record.{readers}
use Rattle.inst.proofs.Firsts.{readers_few, readers_end}
use Rattle.inst.proofs.Indices.{among_made}
use Rattle.defuse.specs.Sets.{put}
use Rattle.defuse.proofs.Runs.{read_on}
use Rattle.words.proofs.Steps.{steps_end}
use Rattle.defuse.proofs.sets.read_slots.Goals as goal

pub read-requires-clause-slot : goal.read-requires-clause-slot
read-requires-clause-slot c = omega (arith, c.loop-s-test.true, c.readers-n.ensures, readers_few c.args.slots.now.does)

pub read-requires-clause-few : goal.read-requires-clause-few
read-requires-clause-few c = omega (arith, c.requires.1.few)

pub read_one-requires : goal.read_one-requires
read_one-requires c =
    let g = c.requires in
    (record { fits = omega (arith, g.0.fits, c.loop-s.auto.bits) }, among_made _ _ c.read.ensures refl _ (omega (arith, g.1.few)) (omega arith))

pub loop-s-preserved : goal.loop-s-preserved
loop-s-preserved c =
    let low : c.loop-s.s < 5 = omega (arith, c.loop-s-test.true, c.readers-n.ensures, readers_few c.args.slots.now.does) in
    read_on c.args.at.u c.args.slots.now.used.within c.requires.1 low _ _ _ c.read.ensures c.read_one.ensures c.loop-s.invariant

pub returns : goal.returns
returns c =
    let all : c.loop-s.s ≡ readers c.args.slots.now.does = omega (arith, c.loop-s.auto.s-end, c.loop-s-test.false, c.readers-n.ensures) in
    steps_end (put c.args.at.u) _ (readers_end _ _ _ c.args.slots.now.used all) c.loop-s.invariant
