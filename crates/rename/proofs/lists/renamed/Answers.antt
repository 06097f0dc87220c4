-- `rename::lists::renamed` meets its contract. Assumes nothing.
use mathlib.Core.Path.{sym, ap, ◌∙◌}
use Prim.Native.Nat.{ℕ, ◌%◌}
use native.Mathlib.Omega.{arith}
use lib.ListN.{get_or-eq_default}
use Rattle.model.specs.Picture.{absent}
use Rattle.inst.proofs.Indices.{is_reg, not_reg}
use Rattle.rename.specs.Names.{named, reg_or}
use Rattle.rename.proofs.lists.renamed.Goals as goal

pub returns-in_default : goal.returns-in_default
returns-in_default c =
    sym (ap (λ (k : ℕ). reg_or (k % 4294967296) c.args.w) (get_or-eq_default c.args.names.now absent (omega (arith, not_reg _ _ (sym c.new.ensures ∙ c.in_default.is)))))

pub name-requires : goal.name-requires
name-requires c = let h = is_reg _ _ _ (sym c.new.ensures ∙ c.in-Some.is) in omega (arith, h.0, h.1)

pub returns : goal.returns
returns c =
    let h = is_reg _ _ _ (sym c.new.ensures ∙ c.in-Some.is) in
    c.name.ensures ∙ ap (named c.args.names.now) (sym h.0)
