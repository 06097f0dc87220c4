-- `inst::code::Slots::write` meets its contract. Assumes nothing.
use borrow.Author.Tests.{eqb-true, eqb-false}
use mathlib.Core.Path.{refl, sym, ap, ◌∙◌}
use Prim.Native.Nat.{ℕ}
use Rattle.inst.specs.Index.{reg_of}
use Rattle.inst.proofs.Slots.{write_yes, write_no}
use Rattle.inst.proofs.Indices.{none_made}
use Rattle.inst.proofs.code.Slots.write.Goals as goal

pub returns-then-writes : goal.returns-then-writes
returns-then-writes c =
    let a = c.args in
    c.new.ensures ∙ ap (λ (n : ℕ). reg_of n a.count) (write_yes _ _ _ _ a.self.now.used c.requires.slot _ refl (eqb-true _ _ (sym c.writes.ensures ∙ c.if-writes.true)) c.word.ensures)

pub returns : goal.returns
returns c = none_made _ (sym (write_no _ _ _ _ c.args.self.now.used c.requires.slot _ refl (eqb-false _ _ (sym c.writes.ensures ∙ c.if-writes.false)))) c.requires.few
