-- `attempt::virdzeba_try` meets its contract: the block is judged, and its chain tried. Assumes nothing.
use lib.ListN.{length}
use Rattle.model.specs.Refusal.{records}
use Rattle.laws.proofs.Accepted.{accepted}
use Rattle.flow.proofs.Accepted.{graph_given}
use Rattle.checks.specs.Causes.{picture_of}
use Rattle.probe.proofs.Attempts.{stopped, shown, block_in, many, settled}
use Rattle.probe.proofs.attempt.virdzeba_try.Goals as goal

pub returns-in-Err : goal.returns-in-Err
returns-in-Err c =
    let a = c.args in
    let P = picture_of a.bounds.now a.recs.now a.locs.now a.vias.now a.types.now a.registers a.ops.now a.operands a.pairs.now a.targets.now a.replay.now in
    stopped P a.x a.work64.now a.work32.now a.facts.now (c.judge.ensures a.replay.now) c.in-Err.is a.out.now

pub invariant_of-func : goal.invariant_of-func
invariant_of-func c =
    let a = c.args in
    let P = picture_of a.bounds.now a.recs.now a.locs.now a.vias.now a.types.now a.registers a.ops.now a.operands a.pairs.now a.targets.now a.replay.now in
    let s = shown P a.x a.work64.now a.work32.now a.facts.now (c.judge.ensures a.replay.now) c.in-Ok.is in
    record { graphed = graph_given P (accepted P (length a.work64.now) (length a.work32.now) records s.lists.accepted) }

pub try_block-r-requires : goal.try_block-r-requires
try_block-r-requires c =
    let a = c.args in
    let P = picture_of a.bounds.now a.recs.now a.locs.now a.vias.now a.types.now a.registers a.ops.now a.operands a.pairs.now a.targets.now a.replay.now in
    let j = c.judge.ensures a.replay.now in
    let e = c.in-Ok.is in (
      record { P = P; shown = shown P a.x a.work64.now a.work32.now a.facts.now j e; is_block = block_in P a.x a.work64.now a.work32.now a.facts.now j e },
      many P a.x a.work64.now a.work32.now a.facts.now j e,
    )

pub returns : goal.returns
returns c =
    let a = c.args in
    let P = picture_of a.bounds.now a.recs.now a.locs.now a.vias.now a.types.now a.registers a.ops.now a.operands a.pairs.now a.targets.now a.replay.now in
    let j = c.judge.ensures a.replay.now in
    let e = c.in-Ok.is in
    let t = c.try_block-r.ensures in
    settled P a.x a.work64.now a.work32.now a.facts.now j e a.out.now c.try_block-r.result t.size64 t.size32
    (t.is P (shown P a.x a.work64.now a.work32.now a.facts.now j e)) c.try_block-r.auto.facts c.put_move.ensures
