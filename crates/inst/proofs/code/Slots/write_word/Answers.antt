-- `inst::code::Slots::write_word` meets its contract. Assumes nothing.
use borrow.Author.Tests.{eqb-true, eqb-false}
use mathlib.Core.Path.{refl, sym, ◌∙◌}
use Rattle.inst.proofs.Slots.{write_yes, write_no}
use Rattle.inst.proofs.code.Slots.write_word.Goals as goal

pub returns-then-writes : goal.returns-then-writes
returns-then-writes c = write_yes _ _ _ _ c.args.self.now.used c.requires _ refl (eqb-true _ _ (sym c.writes.ensures ∙ c.if-writes.true)) c.word.ensures

pub returns : goal.returns
returns c = write_no _ _ _ _ c.args.self.now.used c.requires _ refl (eqb-false _ _ (sym c.writes.ensures ∙ c.if-writes.false))
