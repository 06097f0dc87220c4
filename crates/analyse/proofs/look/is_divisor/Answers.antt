-- `analyse::look::is_divisor` meets its contract. Assumes nothing.
use mathlib.Core.Path.{ap, sym, ◌∙◌}
use Prim.Native.Nat.{ℕ}
use native.Mathlib.Omega.{arith}
use lib.ListN.{get_or}
use Rattle.inst.specs.Index.{word_of}
use Rattle.inst.proofs.Indices.{a_reg}
use Rattle.analyse.proofs.Looked.{divisor_none, divisor_some}
use Rattle.analyse.proofs.look.is_divisor.Goals as goal

pub returns-in_default : goal.returns-in_default
returns-in_default c = λ G count a few s. divisor_none s few _ (ap word_of c.in_default.is)

pub bounds-regs-at : goal.bounds-regs-at
bounds-regs-at c =
    let is = c.in-Some.is in
    let h = a_reg is c.requires in
    omega (arith, h.0, ap word_of is, c.at.ensures)

pub returns : goal.returns
returns c =
    let is = c.in-Some.is in
    let v = ap (λ (k : ℕ). get_or c.args.regs.now k 0) (c.at.ensures ∙ sym (ap word_of is)) in
    λ G count a few s. divisor_some s _ _ (a_reg is a).0 v
