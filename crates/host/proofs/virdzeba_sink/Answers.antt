-- `virdzeba_sink` meets its contract: the number for what the call gives. Assumes nothing.
use mathlib.Core.Path.{sym, ◌∙◌}
use lib.ListN.{length}
use Rattle.host.proofs.Entry.{number_small}
use Rattle.host.proofs.virdzeba_sink.Goals as goal

pub number-requires : goal.number-requires
number-requires c = let g = c.args in number_small g.picture.now (length g.res.now) g.registers g.operands {ran = c.in-Some.ran} (sym c.in-Some.is ∙ c.sink_bytes.ensures.value)
