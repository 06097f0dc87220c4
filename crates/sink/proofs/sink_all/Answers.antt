-- `sink_all` meets its contract. Assumes nothing.
use Rattle.checks.specs.Causes.{picture_of}
use Rattle.sink.proofs.Call.{coming, promised, stopped}
use Rattle.sink.proofs.sink_all.Goals as goal

pub run-requires : goal.run-requires
run-requires c =
    let a = c.args in
    coming (picture_of a.bounds.now a.recs.now a.locs.now a.vias.now a.types.now a.regs a.ops.now a.opers a.pairs.now a.targets.now a.replay.now) a.work64.now a.work32.now a.facts.now
    (c.start.ensures a.replay.now) c.in-Continue.is c.first.ensures

pub returns-in-Continue : goal.returns-in-Continue
returns-in-Continue c =
    let a = c.args in
    promised (picture_of a.bounds.now a.recs.now a.locs.now a.vias.now a.types.now a.regs a.ops.now a.opers a.pairs.now a.targets.now a.replay.now) a.work64.now a.work32.now a.facts.now
    (c.start.ensures a.replay.now) c.in-Continue.is c.first.ensures {r = c.run.result} c.run.ensures

pub returns-in-Break : goal.returns-in-Break
returns-in-Break c =
    let a = c.args in
    stopped (picture_of a.bounds.now a.recs.now a.locs.now a.vias.now a.types.now a.regs a.ops.now a.opers a.pairs.now a.targets.now a.replay.now) a.work64.now a.work32.now a.facts.now
    (c.start.ensures a.replay.now) c.in-Break.is
