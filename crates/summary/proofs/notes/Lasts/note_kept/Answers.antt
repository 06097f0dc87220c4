-- `summary::notes::Lasts::note_kept` meets its contract. Assumes nothing.
use mathlib.Core.Path.{◌≡◌, ◌∙◌}
use Rattle.summary.proofs.Summing.{barred, barred_yes, barred_no, suspended_yes, suspended_no}
use Rattle.summary.proofs.notes.Lasts.note_kept.Goals.{then-f, else-f}
use Rattle.summary.proofs.notes.Lasts.note_kept.Goals as goal

pub returns-then-f-2 : goal.returns-then-f-2
returns-then-f-2 c =
    let a = c.args in
    let mid : c.if-f.self ≡ barred a.f a.q a.self.now =
    elim c.if-f.branch [ then-f w ↦ w.self-is ∙ barred_yes a.f a.q a.self.now c.max.ensures w.if-f.true w.max-self.ensures | else-f w ↦ w.self-is ∙ barred_no a.f a.q a.self.now c.max.ensures w.if-f.false ] in
    suspended_yes a.f a.q a.self.now mid c.if-f-2.true c.max-self-then-f-2.ensures

pub returns-else-f-2 : goal.returns-else-f-2
returns-else-f-2 c =
    let a = c.args in
    let mid : c.if-f.self ≡ barred a.f a.q a.self.now =
    elim c.if-f.branch [ then-f w ↦ w.self-is ∙ barred_yes a.f a.q a.self.now c.max.ensures w.if-f.true w.max-self.ensures | else-f w ↦ w.self-is ∙ barred_no a.f a.q a.self.now c.max.ensures w.if-f.false ] in
    suspended_no a.f a.q a.self.now mid c.if-f-2.false
