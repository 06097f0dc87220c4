-- `checks::plain::plain` meets its contract. Assumes nothing.
use native.Mathlib.Omega.{arith}
use Rattle.model.specs.Picture.{inst}
use Rattle.checks.proofs.Freed.{not_known, plain_by, not_simple}
use Rattle.checks.proofs.plain.plain.Goals as goal

pub returns-then-k-gt-LAST : goal.returns-then-k-gt-LAST
returns-then-k-gt-LAST c = let a = c.args in not_known a.regs (inst a.rec.recs.now a.rec.p) _ c.kind-k.ensures (omega (arith, c.if-k-gt-LAST.true))

pub returns-then-simple-bare : goal.returns-then-simple-bare
returns-then-simple-bare c =
    let a = c.args in
    plain_by a.regs (inst a.rec.recs.now a.rec.p) _ c.kind-k.ensures (omega (arith, c.if-k-gt-LAST.false)) _ _ _ _ c.row-row.ensures c.form.ensures c.simple.ensures c.bare.ensures c.if-simple-bare.true _ _ c.uses.ensures c.usual.ensures

pub returns : goal.returns
returns c =
    let a = c.args in
    not_simple a.regs (inst a.rec.recs.now a.rec.p) _ c.kind-k.ensures (omega (arith, c.if-k-gt-LAST.false)) _ _ _ _ c.row-row.ensures c.form.ensures c.simple.ensures c.bare.ensures c.if-simple-bare.false
