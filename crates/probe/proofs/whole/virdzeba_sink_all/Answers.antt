-- `whole::virdzeba_sink_all` meets its contract: the call, and its answer told. Assumes nothing.
use lib.ListN.{length}
use Rattle.checks.specs.Causes.{picture_of}
use Rattle.probe.proofs.Numbers.{answer_low}
use Rattle.probe.proofs.whole.virdzeba_sink_all.Goals as goal

pub tell-requires : goal.tell-requires
tell-requires c =
    let a = c.args in
    let P = picture_of a.bounds.now a.recs.now a.locs.now a.vias.now a.types.now a.registers a.ops.now a.operands a.pairs.now a.targets.now a.replay.now in
    answer_low P (length a.work64.now) (length a.work32.now) (length a.facts.now) c.sink_all-ran.result.answer c.sink_all-ran.ensures.0
