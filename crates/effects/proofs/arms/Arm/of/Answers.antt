-- `effects::arms::Arm::of` meets its contract. Assumes nothing.
use mathlib.Core.Path.{ap, ◌∙◌}
use native.Mathlib.Nat.{le_refl}
use Rattle.std.specs.Option.{unwrap_or}
use Rattle.inst.specs.Table.{arm_at}
use Rattle.effects.specs.Arms.{arm_of}
use Rattle.effects.specs.declared.arms.Arm.TheVariants.{Other}
use Rattle.effects.proofs.Rows.{arm_found}
use Rattle.effects.proofs.arms.Arm.of.Goals as goal

pub returns : goal.returns
returns c =
    ap arm_of (c.unwrap_or.ensures ∙ ap (λ o. unwrap_or o Other) c.copied.ensures ∙ c.get.ensures.lookup.4 (le_refl c.arm.result) Other)
    ∙ arm_found c.arm.result ∙ ap arm_at c.arm.ensures
