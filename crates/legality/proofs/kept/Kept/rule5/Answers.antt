-- `legality::kept::Kept::rule5` meets its contract. Assumes nothing.
use Rattle.legality.proofs.Testing.{memory_no, memory_on}
use mathlib.Core.Path.{ap}
use mathlib.Core.Bool.{not}
use Rattle.legality.proofs.kept.Kept.rule5.Goals as goal

pub returns-then-not-still : goal.returns-then-not-still
returns-then-not-still c = memory_no _ _ _ _ _ _ _ _ c.still.ensures (ap not c.if-not-still.true)

pub returns : goal.returns
returns c = memory_on _ _ _ _ _ _ _ _ c.still.ensures (ap not c.if-not-still.false) c.froms_ok.ensures
