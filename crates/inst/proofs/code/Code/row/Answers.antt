-- `inst::code::Code::row` meets its contract. Assumes nothing.
use mathlib.Core.Path.{◌∙◌, ap₂}
use Prim.Native.Nat.{ℕ}
use Rattle.model.specs.Kinds.{kind_of}
use Rattle.inst.specs.Table.{packed}
use Rattle.inst.proofs.code.Code.row.Goals as goal

pub returns : goal.returns
returns c = c.row.ensures ∙ ap₂ (λ (w f : ℕ). packed (kind_of w) f) c.kind.ensures c.form.ensures
