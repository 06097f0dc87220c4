-- `inst::code::Slots::read_word` meets its contract. Assumes nothing.
use borrow.Author.Tests.{eqb-true, eqb-false}
use mathlib.Core.Path.{refl, sym, ◌∙◌}
use Rattle.inst.proofs.Slots.{read_yes, read_no}
use Rattle.inst.proofs.code.Slots.read_word.Goals as goal

pub returns-then-reads : goal.returns-then-reads
returns-then-reads c = read_yes _ _ _ _ c.args.self.now.used c.requires _ refl (eqb-true _ _ (sym c.reads.ensures ∙ c.if-reads.true)) c.word.ensures

pub returns : goal.returns
returns c = read_no _ _ _ _ c.args.self.now.used c.requires _ refl (eqb-false _ _ (sym c.reads.ensures ∙ c.if-reads.false))
