-- `inst::scanned::nth_of` meets its contract. Assumes nothing.
use mathlib.Core.Path.{ap, ◌∙◌}
use native.Mathlib.Nat.{le_refl}
use Rattle.std.specs.Option.{unwrap_or}
use Rattle.model.specs.Picture.{absent}
use Rattle.inst.proofs.scanned.nth_of.Goals as goal

pub returns : goal.returns
returns c = c.unwrap_or.ensures ∙ ap (λ o. unwrap_or o absent) c.copied.ensures ∙ c.get.ensures.lookup.4 (le_refl c.args.k) absent
