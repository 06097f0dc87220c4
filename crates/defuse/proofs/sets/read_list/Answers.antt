-- `defuse::sets::read_list` meets its contract. Assumes nothing.
use native.Mathlib.Omega.{arith}
use mathlib.Core.Path.{refl}
use Rattle.words.proofs.Members.{in_get_or}
use Rattle.inst.proofs.Indices.{among_made}
use Rattle.defuse.specs.Sets.{put}
use Rattle.defuse.proofs.Runs.{step_here}
use Rattle.words.proofs.Steps.{steps_next, steps_past}
use Rattle.defuse.proofs.sets.read_list.Goals as goal

pub read_one-requires : goal.read_one-requires
read_one-requires c =
    let g = c.requires in
    (record { fits = omega (arith, g.0.fits, c.loop-r.auto.bits) }, among_made _ _ c.new.ensures refl _ (omega (arith, g.1.few)) (omega arith))

pub loop-r-preserved : goal.loop-r-preserved
loop-r-preserved c =
    let a = c.args in
    let l = c.loop-r in
    let h = c.loop-r-test.true in
    steps_next (put a.at.u) a.xs.now l.r-index h
    (step_here (put a.at.u) _ _ (c.requires.1.each _ (in_get_or 0 a.xs.now l.r-index h)) c.new.ensures c.read_one.ensures) l.invariant

pub returns : goal.returns
returns c = steps_past _ _ _ c.loop-r-test.false c.loop-r.invariant
