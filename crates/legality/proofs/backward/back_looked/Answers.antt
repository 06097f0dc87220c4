-- `legality::backward::back_looked` meets its contract. Assumes nothing.
use mathlib.Core.Path.{◌≡◌, subst, sym}
use mathlib.Core.Bool.{◌&&◌}
use Prim.Native.Nat.{ℕ}
use lib.Dec.{leb}
use lib.ListN.{get_or}
use Rattle.words.specs.Lists.{all}
use Rattle.model.specs.Picture.{inst, writes}
use Rattle.summary.proofs.Backing.{backed, kept_few, awaited_none, awaited_one}
use Rattle.summary.specs.Passes.{Readable}
use Rattle.legality.proofs.backward.back_looked.Goals.{then-f, else-f}
use Rattle.legality.proofs.backward.back_looked.Goals as goal

pub kept-requires : goal.kept-requires
kept-requires c = kept_few _ _ c.requires.3 c.kept_at.ensures

pub put_reads-requires : goal.put_reads-requires
put_reads-requires c =
    let a = c.args in
    subst (λ (m : ℕ). Readable a.code.now.recs.now a.code.now.ops.now m a.f) (sym c.put_writes.ensures.size) c.requires.1

pub returns-then-not-stays : goal.returns-then-not-stays
returns-then-not-stays c =
    let a = c.args in
    let stays : c.if-f.stays ≡ (a.f.member && all (λ (x : ℕ). leb (get_or a.st.now x 0) 1023) (writes (inst a.code.now.recs.now a.f.rec))) =
    elim c.if-f.branch [ then-f w ↦ rw (w.stays-is, w.if-f.true) w.rule1-stays.ensures | else-f w ↦ rw (w.stays-is, w.if-f.false) ] in
    backed stays c.kept_at.ensures (rw (c.kept.ensures.0, c.kept.ensures.1, c.kept.ensures.2) at c.put_writes.ensures)
    (awaited_one _ c.if-not-stays.true (rw (c.awaited.ensures.0, c.awaited.ensures.1, c.awaited.ensures.2) at c.put_reads.ensures)) c.note.ensures

pub returns-else-not-stays : goal.returns-else-not-stays
returns-else-not-stays c =
    let a = c.args in
    let stays : c.if-f.stays ≡ (a.f.member && all (λ (x : ℕ). leb (get_or a.st.now x 0) 1023) (writes (inst a.code.now.recs.now a.f.rec))) =
    elim c.if-f.branch [ then-f w ↦ rw (w.stays-is, w.if-f.true) w.rule1-stays.ensures | else-f w ↦ rw (w.stays-is, w.if-f.false) ] in
    backed stays c.kept_at.ensures (rw (c.kept.ensures.0, c.kept.ensures.1, c.kept.ensures.2) at c.put_writes.ensures)
    (awaited_none _ _ c.if-not-stays.false) c.note.ensures
