-- `regfacts::flags::record_flags` meets its contract. Assumes nothing.
use borrow.Author.Rules.{rules}
use mathlib.Core.Path.{◌∙◌, ap}
use Rattle.model.specs.Picture.{inst}
use Rattle.effects.specs.Origin.{num}
use Rattle.regfacts.specs.Flags.{flags_in}
use Rattle.regfacts.proofs.Turned.{address_flags, constant_flags}
use Rattle.regfacts.proofs.flags.record_flags.Goals as goal

pub returns-then-kind-eq-ADDR_OF : goal.returns-then-kind-eq-ADDR_OF
unfolding num
returns-then-kind-eq-ADDR_OF c = address_flags (inst c.args.recs.now c.args.q) _ c.kind.ensures c.if-kind-eq-ADDR_OF.true c.form.ensures c.address-o.ensures.0 (search rules) (search rules)

pub returns : goal.returns
returns c = c.constant_flags.ensures ∙ ap flags_in c.decode.ensures ∙ constant_flags (inst c.args.recs.now c.args.q) c.kind.ensures c.if-kind-eq-ADDR_OF.false
