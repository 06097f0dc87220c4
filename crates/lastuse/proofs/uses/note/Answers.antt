-- `lastuse::uses::note` meets its contract. Assumes nothing.
use mathlib.Core.Path.{sym, ap, ◌∙◌}
use native.Mathlib.Omega.{arith}
use Rattle.inst.specs.Index.{word_of}
use Rattle.inst.proofs.Indices.{a_reg}
use Rattle.lastuse.proofs.Using.{note_none, note_zero, note_set, note_low}
use Rattle.lastuse.proofs.uses.note.Goals as goal

pub returns-in_default : goal.returns-in_default
returns-in_default c = note_none _ _ _ _ (ap word_of c.in_default.is)

pub bounds-st-at : goal.bounds-st-at
bounds-st-at c =
    let is = c.in-Some.is in
    omega (arith, (a_reg is c.requires.0).0, ap word_of is, c.at.ensures)

pub returns-then-d-eq0 : goal.returns-then-d-eq0
returns-then-d-eq0 c =
    let is = c.in-Some.is in
    note_zero _ _ _ _ (a_reg is c.requires.0).1 (c.at.ensures ∙ sym (ap word_of is)) c.if-d-eq0.true

pub offset_bounds-lasts-i : goal.offset_bounds-lasts-i
offset_bounds-lasts-i c =
    let is = c.in-Some.is in
    let low = note_low c.args.st.now (omega (arith, (a_reg is c.requires.0).0, ap word_of is, c.at.ensures)) c.requires.1 c.if-d-eq0.false in
    omega (arith, low)

pub bounds-lasts-i : goal.bounds-lasts-i
bounds-lasts-i c =
    let is = c.in-Some.is in
    let low = note_low c.args.st.now (omega (arith, (a_reg is c.requires.0).0, ap word_of is, c.at.ensures)) c.requires.1 c.if-d-eq0.false in
    omega (arith, low)

pub returns : goal.returns
returns c =
    let is = c.in-Some.is in
    note_set _ _ _ _ (a_reg is c.requires.0).1 (c.at.ensures ∙ sym (ap word_of is)) c.if-d-eq0.false
