-- `rename::slots::rename_slots` meets its contract. Assumes nothing.
use native.Mathlib.Omega.{arith}
use mathlib.Core.Path.{◌≡◌, refl, sym, ap, ◌∙◌, subst}
use Prim.Native.Nat.{ℕ, ◌+◌, ◌*◌, ◌<◌}
use lib.ListN.{length}
use Rattle.inst.proofs.Indices.{among_made, word_made}
use Rattle.rename.specs.Names.{slotted}
use Rattle.rename.proofs.Slotting.{slotted_none, slotted_more, slotted_end}
use Rattle.rename.proofs.slots.rename_slots.Goals as goal

pub loop-s-init : goal.loop-s-init
loop-s-init c = slotted_none _ _ _ _ _

pub slot_word-requires : goal.slot_word-requires
slot_word-requires c = among_made _ _ c.new-r.ensures refl _ c.requires.used.1 (omega arith)

pub loop-s-preserved : goal.loop-s-preserved
loop-s-preserved c =
    let a = c.args in
    let i = c.loop-s in
    let taken = c.loop-s-test.true in
    let here = sym (i.invariant.later (16 * a.p + 2 + i.s) (omega arith)) in
    let ok = subst (λ (k : ℕ). (k ≡ 4294967295 → ⊥) → k < length a.anew.names.now) here (c.requires.by_index i.s taken) in
    let word = word_made _ _ c.new-r.ensures refl ok in
    let v = c.slot_word.ensures ∙ ap (λ (k : ℕ). slotted c.two_bits-does.result a.anew.names.now a.anew.new k) word in
    slotted_more i.invariant taken c.requires.used.0.within.whole c.two_bits-does.ensures v

pub returns : goal.returns
returns c = slotted_end c.loop-s.invariant c.loop-s.auto.s-end c.loop-s-test.false
