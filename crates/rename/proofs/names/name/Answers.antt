-- `rename::names::name` meets its contract. Assumes nothing.
use mathlib.Core.Path.{ap, ap₂, ◌∙◌}
use Prim.Native.Nat.{ℕ, ◌%◌}
use lib.ListN.{get_or}
use Rattle.model.specs.Picture.{absent}
use Rattle.rename.specs.Names.{reg_or}
use Rattle.words.proofs.Lists.{get_d_any}
use Rattle.rename.proofs.names.name.Goals as goal

pub returns : goal.returns
returns c =
    let a = c.args in
    let at = ap (λ (k : ℕ). get_or a.names.now k 0 % 4294967296) c.at.ensures in
    let any = ap (λ (k : ℕ). k % 4294967296) (get_d_any a.names.now a.r.0 0 absent c.requires) in
    c.or.ensures ∙ ap₂ reg_or (c.low.ensures ∙ at ∙ any) c.number.ensures
