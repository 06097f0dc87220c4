-- `rename::walk::pass` meets its contract. Assumes nothing.
use Rattle.std.proofs.Common.{rules}
use native.Mathlib.Omega.{arith}
use Rattle.inst.proofs.Resolved.{uses_by}
use Rattle.rename.proofs.Lines.{used_is, line_fit, written_ok, pass_kept, pass_moved}
use Rattle.rename.proofs.walk.pass.Goals as goal

pub invariant_of-slots : goal.invariant_of-slots
invariant_of-slots c = record { used = used_is c.requires.0.is.line (uses_by _ c.kind.ensures c.form.ensures c.row.ensures c.uses-does.ensures) }

pub forget-requires : goal.forget-requires
forget-requires c = let l = c.requires.0.is.line in
    record { few = l.few_regs; by_index = written_ok l }

pub returns-then-not-goes : goal.returns-then-not-goes
returns-then-not-goes c = pass_kept c.requires.0.is.line (search rules) c.forget.ensures

pub remake-r-requires : goal.remake-r-requires
remake-r-requires c = let p = c.requires.0 in record { u = p.u; is = line_fit p.is (search rules) (uses_by _ c.kind.ensures c.form.ensures c.row.ensures c.uses-does.ensures) }

pub returns : goal.returns
returns c = pass_moved (search rules) c.remake-r.ensures c.requires.0.is.wrote_ok (omega arith) c.put.ensures
