-- `inst::code::Code::slots` meets its contract. Assumes nothing.
use mathlib.Core.Path.{ap, ◌∙◌}
use Rattle.model.specs.Picture.{inst}
use Rattle.inst.specs.Table.{uses}
use Rattle.inst.proofs.Resolved.{uses_resolved}
use Rattle.inst.proofs.code.Code.slots.Goals as goal

pub invariant_of-result : goal.invariant_of-result
invariant_of-result c = record { used = record { within = c.requires.within; uses = c.uses.ensures ∙ ap uses c.row.ensures ∙ uses_resolved (inst c.args.self.now.recs.now c.args.p) } }
