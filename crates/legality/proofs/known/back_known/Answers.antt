-- `legality::known::back_known` meets its contract. Assumes nothing.
use mathlib.Core.Path.{◌≡◌}
use mathlib.Core.Bool.{◌&&◌}
use Prim.Native.Nat.{ℕ}
use native.Mathlib.Omega.{arith}
use lib.Dec.{leb}
use lib.ListN.{get_or, length}
use Rattle.words.specs.Lists.{all}
use Rattle.summary.specs.Passes.{own_def}
use Rattle.summary.proofs.Backing.{kept_few, awaited_none, awaited_one}
use Rattle.summary.proofs.Wording.{backed_by}
use Rattle.legality.proofs.known.back_known.Goals.{then-f, else-f}
use Rattle.legality.proofs.known.back_known.Goals as goal

pub kept-requires : goal.kept-requires
kept-requires c = kept_few _ _ c.requires.2 c.kept_at.ensures

pub put_uses-requires : goal.put_uses-requires
put_uses-requires c = omega (arith, c.put_def.ensures.size, c.requires.0)

pub returns-then-not-stays : goal.returns-then-not-stays
unfolding own_def
returns-then-not-stays c recs ops w r e =
    let a = c.args in
    let stays : c.if-f.stays ≡ (a.f.member && all (λ (x : ℕ). leb (get_or a.st.now x 0) 1023) (own_def (length a.st.now) a.f)) =
    elim c.if-f.branch [ then-f w ↦ rw (w.stays-is, w.if-f.true) w.def_free-stays.ensures | else-f w ↦ rw (w.stays-is, w.if-f.false) ] in
    backed_by a.f w r e stays c.kept_at.ensures (rw (c.kept.ensures.0, c.kept.ensures.1, c.kept.ensures.2) at c.put_def.ensures)
    (awaited_one _ c.if-not-stays.true (rw (c.awaited.ensures.0, c.awaited.ensures.1, c.awaited.ensures.2) at c.put_uses.ensures)) c.note.ensures

pub returns-else-not-stays : goal.returns-else-not-stays
unfolding own_def
returns-else-not-stays c recs ops w r e =
    let a = c.args in
    let stays : c.if-f.stays ≡ (a.f.member && all (λ (x : ℕ). leb (get_or a.st.now x 0) 1023) (own_def (length a.st.now) a.f)) =
    elim c.if-f.branch [ then-f w ↦ rw (w.stays-is, w.if-f.true) w.def_free-stays.ensures | else-f w ↦ rw (w.stays-is, w.if-f.false) ] in
    backed_by a.f w r e stays c.kept_at.ensures (rw (c.kept.ensures.0, c.kept.ensures.1, c.kept.ensures.2) at c.put_def.ensures)
    (awaited_none _ _ c.if-not-stays.false) c.note.ensures
