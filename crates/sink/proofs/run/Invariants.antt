-- `sink::run`: what the rounds so far came to, from where the call stood. Assumes nothing.
use Rattle.checks.specs.Causes.{picture_of}
use Rattle.rounds.specs.Going.{to_come}
use Rattle.sink.proofs.Looping.{Running}
use Rattle.sink.proofs.run.Given as goal

abbrev pub invariant-loop-next : goal.invariant-loop-next
invariant-loop-next l =
    Running (picture_of l.fn.bounds l.fn.recs l.fn.locs l.fn.vias l.fn.types l.fn.m.sizes.regs l.fn.ops l.fn.m.sizes.opers l.fixed.pairs.now l.fixed.targets.now l.fixed.replay.now) l.fn.m l.fn.work64 l.fn.work32 l.fn.facts
    (picture_of l.bounds l.recs l.locs l.vias l.types l.m.sizes.regs l.ops l.m.sizes.opers l.fixed.pairs.now l.fixed.targets.now l.fixed.replay.now) l.m l.work64 l.work32 l.facts

abbrev pub decreases-loop-next : goal.decreases-loop-next
decreases-loop-next l = to_come l.m
