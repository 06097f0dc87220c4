-- `inst::constant::decode` meets its contract. Assumes nothing.
use Rattle.std.specs.Prelude.{Some}
use mathlib.Core.Bool.{true, false}
use mathlib.Core.Path.{refl, sym, ap, ◌∙◌}
use Prim.Native.Nat.{ℕ}
use lib.Ieee.{nan_bits, binary64, of_bits}
use borrow.Author.Tests.{eq-eqb, ne_eqb}
use Rattle.model.specs.Picture.{inst}
use Rattle.inst.specs.declared.constant.Constant.TheVariants.{Whole, Float, Nan}
use Rattle.inst.specs.Constant.{signed}
use Rattle.inst.proofs.Constants.{whole_constant, constant_by, whole_is}
use borrow.Author.Rules.{rules}
use Rattle.inst.proofs.constant.decode.Goals as goal

pub returns-then-k-eq-CONST : goal.returns-then-k-eq-CONST
unfolding signed
returns-then-k-eq-CONST c = let a = c.args in
    let i = inst a.rec.recs.now a.rec.p in
    ap (λ z. Some (Whole z)) (search rules ∙ ap signed c.bits-n.ensures ∙ whole_is i)
    ∙ sym (whole_constant i (eq-eqb _ _ (sym c.kind-k.ensures ∙ c.if-k-eq-CONST.true)))

pub returns-then-k-ne-CONST_F : goal.returns-then-k-ne-CONST_F
returns-then-k-ne-CONST_F c = let a = c.args in
    let i = inst a.rec.recs.now a.rec.p in
    sym (constant_by i false false _ (ne_eqb _ _ (λ e. c.if-k-eq-CONST.false (c.kind-k.ensures ∙ e))) (ne_eqb _ _ (λ e. c.if-k-ne-CONST_F.true (c.kind-k.ensures ∙ e))) refl)

pub returns-then-is_nan : goal.returns-then-is_nan
returns-then-is_nan c = let a = c.args in
    let i = inst a.rec.recs.now a.rec.p in
    ap (λ (n : ℕ). Some (Nan n)) c.bits-n.ensures
    ∙ sym (constant_by i false true true (ne_eqb _ _ (λ e. c.if-k-eq-CONST.false (c.kind-k.ensures ∙ e))) (eq-eqb _ _ (sym c.kind-k.ensures ∙ c.if-k-ne-CONST_F.false)) (ap (nan_bits binary64) (sym c.bits-n.ensures) ∙ sym c.is_nan.ensures ∙ c.if-is_nan.true))

pub float_from_bits-result : goal.float_from_bits-result
float_from_bits-result c = rw (← c.is_nan.ensures, c.if-is_nan.false) tt

pub returns : goal.returns
returns c = let a = c.args in
    let i = inst a.rec.recs.now a.rec.p in
    ap (λ (n : ℕ). Some (Float (of_bits binary64 n))) c.bits-n.ensures
    ∙ sym (constant_by i false true false (ne_eqb _ _ (λ e. c.if-k-eq-CONST.false (c.kind-k.ensures ∙ e))) (eq-eqb _ _ (sym c.kind-k.ensures ∙ c.if-k-ne-CONST_F.false)) (ap (nan_bits binary64) (sym c.bits-n.ensures) ∙ sym c.is_nan.ensures ∙ c.if-is_nan.false))
