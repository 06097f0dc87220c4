-- `rename::names::forget` meets its contract. Assumes nothing.
use borrow.Author.Rules.{rules}
use mathlib.Core.Path.{refl}
use Rattle.model.specs.Picture.{absent}
use Rattle.rename.proofs.Naming.{forgot}
use Rattle.rename.proofs.names.forget.Goals as goal

pub returns : goal.returns
returns c = forgot (c.change_written.ensures (λ v. absent) (record { made = λ x y h. search rules }) (λ v. refl))
