-- `run::sink_into` meets its contract: what the call leaves fits, and is written. Assumes nothing.
use lib.ListN.{replicate}
use Rattle.model.specs.Refusal.{records}
use Rattle.checks.specs.Causes.{picture_of}
use Rattle.host.specs.Host.{work64, work32, sunk_of}
use Rattle.host.proofs.Left.{came, fitting, did_of, ran_of}
use Rattle.host.proofs.Loads.{roomy_same}
use Rattle.host.proofs.run.sink_into.Goals as goal

pub put_left-requires : goal.put_left-requires
put_left-requires c =
    let lent = c.args in
    let P = picture_of lent.bounds.now lent.recs.now lent.locs.now lent.vias.now lent.types.now lent.used.regs lent.ops.now lent.used.opers lent.pairs.now lent.targets.now lent.replay.now in
    let d = did_of P (replicate work64 0) (replicate work32 0) records c.sink_here-ran.result c.sink_here-ran.ensures in
    let kept = c.sink_here-ran.auto in
    fitting d.holds (came P work64 work32 records) d.answer_is (roomy_same c.requires kept.bounds kept.recs kept.locs kept.vias kept.types kept.ops)

pub returns : goal.returns
unfolding sunk_of
returns c =
    let lent = c.args in
    let P = picture_of lent.bounds.now lent.recs.now lent.locs.now lent.vias.now lent.types.now lent.used.regs lent.ops.now lent.used.opers lent.pairs.now lent.targets.now lent.replay.now in
    ran_of P work64 work32 records (did_of P (replicate work64 0) (replicate work32 0) records c.sink_here-ran.result c.sink_here-ran.ensures) c.put_left.ensures
