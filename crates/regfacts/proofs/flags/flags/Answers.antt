-- `regfacts::flags::flags` meets its contract. Assumes nothing.
use mathlib.Core.Path.{◌∙◌, ap, refl}
use Rattle.regfacts.specs.Flags.{flags_of}
use Rattle.regfacts.proofs.Turned.{sole_none, sole_some, sole_within}
use Rattle.regfacts.proofs.flags.flags.Goals as goal

pub returns-then-v : goal.returns-then-v
returns-then-v c = sole_none _ _ c.if-v.true

pub overflow_sub-q : goal.overflow_sub-q
overflow_sub-q c = (sole_some c.args.recs.now _ c.if-v.false).0

pub record_flags-requires : goal.record_flags-requires
record_flags-requires c = sole_within c.args.recs.now c.args.v c.if-v.false c.requires refl

pub returns : goal.returns
returns c = c.record_flags.ensures ∙ ap flags_of (sole_some _ _ c.if-v.false).2
