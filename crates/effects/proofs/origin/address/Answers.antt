-- `effects::origin::address` meets its contract. Assumes nothing.
use native.Mathlib.Omega.{arith}
use borrow.Author.Tests.{eq-eqb, ne_eqb}
use Rattle.effects.specs.Origin.{org_at}
use Rattle.effects.proofs.origin.address.Goals as goal

pub returns-then-form : goal.returns-then-form
unfolding org_at
returns-then-form c = (simp c.if-form.true, omega arith)

pub returns-then-form-eq0 : goal.returns-then-form-eq0
unfolding org_at
returns-then-form-eq0 c = (simp (c.if-form.false, eq-eqb _ _ c.if-form-eq0.true), omega arith)

pub returns : goal.returns
unfolding org_at
returns c = (simp (c.if-form.false, ne_eqb _ _ c.if-form-eq0.false), omega arith)
