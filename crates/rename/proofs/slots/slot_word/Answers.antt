-- `rename::slots::slot_word` meets its contract. Assumes nothing.
use mathlib.Core.Path.{sym, ap, ◌∙◌}
use Rattle.inst.specs.Index.{word_of}
use Rattle.inst.proofs.Indices.{below, a_reg}
use Rattle.rename.specs.Names.{named, reg_or}
use Rattle.rename.proofs.Slotting.{slot_absent, slot_read, slot_write, slot_other}
use Rattle.rename.proofs.slots.slot_word.Goals as goal

pub returns-in_default : goal.returns-in_default
returns-in_default c = let e = ap word_of c.in_default.is in sym e ∙ slot_absent _ _ _ _ e

pub name-requires : goal.name-requires
name-requires c = below c.in-Some.is c.requires

pub returns-then-does-eq1 : goal.returns-then-does-eq1
returns-then-does-eq1 c =
    let is = c.in-Some.is in
    let f = (a_reg is c.requires).1 in
    c.name.ensures ∙ ap (named c.args.anew.names.now) (sym (ap word_of is)) ∙ sym (slot_read _ _ _ _ f c.if-does-eq1.true)

pub returns-then-does-eq2 : goal.returns-then-does-eq2
returns-then-does-eq2 c =
    let is = c.in-Some.is in
    let f = (a_reg is c.requires).1 in
    let same = ap (reg_or c.args.anew.new) (c.number.ensures ∙ sym (ap word_of is)) in
    c.or.ensures ∙ same ∙ sym (slot_write _ _ _ _ f c.if-does-eq1.false c.if-does-eq2.true)

pub returns : goal.returns
returns c =
    let is = c.in-Some.is in
    let f = (a_reg is c.requires).1 in
    c.number-2.ensures ∙ sym (ap word_of is) ∙ sym (slot_other _ _ _ _ f c.if-does-eq1.false c.if-does-eq2.false)
