-- `legality::start::begins_in` meets its contract. Assumes nothing.
use mathlib.Core.Path.{◌∙◌}
use borrow.Author.Tests.{ne_eqb}
use Rattle.legality.proofs.Starting.{begin_fixed, begin_may}
use Rattle.legality.proofs.start.begins_in.Goals as goal

pub returns-then-f-eq1 : goal.returns-then-f-eq1
returns-then-f-eq1 c = begin_may _ _ _ _ _ _ c.if-f-eq1.true c.rule2.ensures

pub returns-else-f-eq1 : goal.returns-else-f-eq1
returns-else-f-eq1 c = ne_eqb _ _ c.if-f-eq1.false ∙ begin_fixed _ _ _ _ _ _ c.if-f-eq1.false
