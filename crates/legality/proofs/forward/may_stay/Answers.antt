-- `legality::forward::may_stay` meets its contract. Assumes nothing.
use mathlib.Core.Path.{◌≡◌}
use mathlib.Core.Bool.{◌&&◌}
use Prim.Native.Nat.{◌+◌}
use lib.Dec.{leb}
use Rattle.summary.specs.Passes.{memory_test, own_test}
use Rattle.legality.proofs.Testing.{by_rules, none_stay}
use Rattle.legality.proofs.forward.may_stay.Goals.{then-f, else-f, then-rule4, else-rule4, then-rule6, else-rule6}
use Rattle.legality.proofs.forward.may_stay.Goals as goal

pub returns-then-rule5 : goal.returns-then-rule5
returns-then-rule5 c =
    let a = c.args in
    let four : c.if-f.value ≡ (a.f.member && leb a.kept.now.lasts.now.suspension (a.p + 1)) =
    elim c.if-f.branch [ then-f w ↦ rw (w.value-is, w.if-f.true) w.rule4.ensures | else-f w ↦ rw (w.value-is, w.if-f.false) ] in
    let six : c.if-rule4.value ≡ (c.if-f.value && own_test a.kept.now.lasts.now.writes a.f.wrote) =
    elim c.if-rule4.branch [ then-rule4 w ↦ rw (w.value-is, w.if-rule4.true) w.rule6.ensures | else-rule4 w ↦ rw (w.value-is, w.if-rule4.false) ] in
    let five : c.if-rule6.value ≡ (c.if-rule4.value && memory_test a.code.now.recs.now a.code.now.ops.now a.kept.now.regs.now a.kept.now.st.now a.kept.now.lasts.now.writes a.f a.kept.now.lasts.now.barrier a.p) =
    elim c.if-rule6.branch [ then-rule6 w ↦ rw (w.value-is, w.if-rule6.true) w.rule5.ensures | else-rule6 w ↦ rw (w.value-is, w.if-rule6.false) ] in
    by_rules _ _ _ _ _ _ _ _ _ four six five c.if-rule5.true c.rule3.ensures

pub returns-else-rule5 : goal.returns-else-rule5
returns-else-rule5 c =
    let a = c.args in
    let four : c.if-f.value ≡ (a.f.member && leb a.kept.now.lasts.now.suspension (a.p + 1)) =
    elim c.if-f.branch [ then-f w ↦ rw (w.value-is, w.if-f.true) w.rule4.ensures | else-f w ↦ rw (w.value-is, w.if-f.false) ] in
    let six : c.if-rule4.value ≡ (c.if-f.value && own_test a.kept.now.lasts.now.writes a.f.wrote) =
    elim c.if-rule4.branch [ then-rule4 w ↦ rw (w.value-is, w.if-rule4.true) w.rule6.ensures | else-rule4 w ↦ rw (w.value-is, w.if-rule4.false) ] in
    let five : c.if-rule6.value ≡ (c.if-rule4.value && memory_test a.code.now.recs.now a.code.now.ops.now a.kept.now.regs.now a.kept.now.st.now a.kept.now.lasts.now.writes a.f a.kept.now.lasts.now.barrier a.p) =
    elim c.if-rule6.branch [ then-rule6 w ↦ rw (w.value-is, w.if-rule6.true) w.rule5.ensures | else-rule6 w ↦ rw (w.value-is, w.if-rule6.false) ] in
    none_stay _ _ _ _ _ _ _ _ _ four six five c.if-rule5.false
