-- `sink::run` meets its contract. Assumes nothing.
use mathlib.Core.Path.{sym, ◌∙◌}
use Rattle.rounds.proofs.Going.{opening, advancing, fewer}
use Rattle.sink.proofs.Looping.{running_next, running_many, running_more, running_end}
use Rattle.sink.proofs.run.Goals as goal

pub round-r-requires : goal.round-r-requires
round-r-requires c = (opening (running_next c.loop-next.invariant c.requires), running_many c.loop-next.invariant c.requires)

pub advance-requires : goal.advance-requires
advance-requires c = advancing (running_next c.loop-next.invariant c.requires)

pub loop-next-smaller : goal.loop-next-smaller
loop-next-smaller c = fewer c.loop-next.m c.in-Continue.next c.round-r.result (running_next c.loop-next.invariant c.requires).few (sym c.advance.ensures ∙ c.in-Continue.is)

pub loop-next-preserved : goal.loop-next-preserved
loop-next-preserved c =
    running_more c.loop-next.invariant c.round-r.ensures.0 c.round-r.auto.facts c.in-Continue.next
    (record { bounds = c.round-r.auto.bounds; recs = c.round-r.auto.recs; locs = c.round-r.auto.locs; vias = c.round-r.auto.vias; types = c.round-r.auto.types; ops = c.round-r.auto.ops })
    (sym c.advance.ensures ∙ c.in-Continue.is)

pub returns-in-Break : goal.returns-in-Break
returns-in-Break c = running_end c.loop-next.invariant c.round-r.ensures.0 c.round-r.auto.facts c.in-Break.ran (sym c.advance.ensures ∙ c.in-Break.is)
