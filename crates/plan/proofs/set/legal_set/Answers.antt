-- `plan::set::legal_set` meets its contract. Assumes nothing.
use mathlib.Core.Path.{sym, ◌∙◌}
use Rattle.plan.proofs.Choosing.{choosing_none, turn_may, choosing_more, choosing_less, choosing_end}
use Rattle.plan.proofs.set.legal_set.Goals as goal

pub loop-given-init : goal.loop-given-init
loop-given-init c = choosing_none c.requires c.begin.ensures.begun

pub turn-c-requires : goal.turn-c-requires
turn-c-requires c = turn_may c.requires c.loop-given.invariant

pub loop-given-smaller : goal.loop-given-smaller
loop-given-smaller c = choosing_less c.requires c.loop-given.invariant (sym c.goes_on.ensures ∙ c.loop-given-test.true) c.turn-c.ensures.passed

pub loop-given-preserved : goal.loop-given-preserved
loop-given-preserved c = choosing_more c.requires c.loop-given.invariant (sym c.goes_on.ensures ∙ c.loop-given-test.true) c.turn-c.ensures.passed

pub returns : goal.returns
returns c = choosing_end c.requires c.loop-given.invariant (sym c.goes_on.ensures ∙ c.loop-given-test.false)
