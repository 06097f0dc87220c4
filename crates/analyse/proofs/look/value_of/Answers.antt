-- `analyse::look::value_of` meets its contract. Assumes nothing.
use mathlib.Core.Path.{ap, sym, ◌∙◌}
use Prim.Native.Nat.{ℕ}
use native.Mathlib.Omega.{arith}
use lib.ListN.{get_or}
use Rattle.inst.specs.Index.{word_of}
use Rattle.inst.proofs.Indices.{a_reg}
use Rattle.analyse.proofs.Looked.{valued_none, valued_flags, valued_left, a_writer, left_org, origin_low}
use Rattle.analyse.proofs.look.value_of.Goals as goal

pub returns-in_default : goal.returns-in_default
returns-in_default c = λ count n a g. (omega arith, λ G past e s. valued_none G past _ (ap word_of c.in_default.is))

pub bounds-regs-at : goal.bounds-regs-at
bounds-regs-at c =
    let is = c.in-Some.is in
    let h = a_reg is c.requires in
    omega (arith, h.0, ap word_of is, c.at.ensures)

pub returns-then-v-lt-FLAGS : goal.returns-then-v-lt-FLAGS
returns-then-v-lt-FLAGS c =
    let is = c.in-Some.is in
    let v = ap (λ (k : ℕ). get_or c.args.regs.now k 0) (c.at.ensures ∙ sym (ap word_of is)) in
    λ count n a g. (let h = origin_low (get_or c.args.regs.now c.at.result 0) c.origin.ensures in omega (arith, h), λ G past e s. let h = a_reg is a in valued_flags s _ h.1 h.0 _ v _ c.origin.ensures c.if-v-lt-FLAGS.true)

pub returns : goal.returns
returns c =
    let is = c.in-Some.is in
    let v = ap (λ (k : ℕ). get_or c.args.regs.now k 0) (c.at.ensures ∙ sym (ap word_of is)) in
    λ count n a g.
    let h = a_reg is a in
    (left_org v (g.each _ h.0) c.left_in.ensures, λ G past e s. valued_left s _ h.1 h.0 _ v c.left_in.ensures _ (a_writer _ v (g.each _ h.0) c.if-v-lt-FLAGS.false))
