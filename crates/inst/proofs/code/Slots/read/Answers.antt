-- `inst::code::Slots::read` meets its contract. Assumes nothing.
use borrow.Author.Tests.{eqb-true, eqb-false}
use mathlib.Core.Path.{refl, sym, ap, ◌∙◌}
use Prim.Native.Nat.{ℕ}
use Rattle.inst.specs.Index.{reg_of}
use Rattle.inst.proofs.Slots.{read_yes, read_no}
use Rattle.inst.proofs.Indices.{none_made}
use Rattle.inst.proofs.code.Slots.read.Goals as goal

pub returns-then-reads : goal.returns-then-reads
returns-then-reads c =
    let a = c.args in
    c.new.ensures ∙ ap (λ (n : ℕ). reg_of n a.count) (read_yes _ _ _ _ a.self.now.used c.requires.slot _ refl (eqb-true _ _ (sym c.reads.ensures ∙ c.if-reads.true)) c.word.ensures)

pub returns : goal.returns
returns c = none_made _ (sym (read_no _ _ _ _ c.args.self.now.used c.requires.slot _ refl (eqb-false _ _ (sym c.reads.ensures ∙ c.if-reads.false)))) c.requires.few
