-- `rename::walk::own` meets its contract. Assumes nothing.
use mathlib.Core.Path.{refl}
use Rattle.inst.proofs.Resolved.{uses_by}
use Rattle.rename.proofs.Lines.{line_fit, used_after, written_after, own_law}
use Rattle.rename.proofs.walk.own.Goals as goal

pub remake-r-requires : goal.remake-r-requires
remake-r-requires c = let p = c.requires in record { u = p.u; is = line_fit p.is refl (uses_by _ c.kind.ensures c.form.ensures c.row.ensures c.uses-does.ensures) }

pub invariant_of-slots : goal.invariant_of-slots
invariant_of-slots c = record { used = used_after c.requires.is.line (uses_by _ c.kind.ensures c.form.ensures c.row.ensures c.uses-does.ensures) c.remake-r.ensures }

pub forget-requires : goal.forget-requires
forget-requires c =
    let l = c.requires.is.line in
    let e = uses_by _ c.kind.ensures c.form.ensures c.row.ensures c.uses-does.ensures in
    let m = c.remake-r.ensures in
    record { few = l.few_regs; by_index = written_after l e m }

pub returns : goal.returns
returns c = own_law c.requires.is.line (uses_by _ c.kind.ensures c.form.ensures c.row.ensures c.uses-does.ensures) c.remake-r.ensures c.forget.ensures
