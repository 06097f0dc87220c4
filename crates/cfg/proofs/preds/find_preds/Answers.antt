-- `cfg::preds::find_preds` meets its contract. Assumes nothing.
use mathlib.Core.Path.{ap, ◌∙◌, subst}
use native.Mathlib.Omega.{arith}
use Prim.Native.Nat.{ℕ}
use Rattle.model.specs.Picture.{succs, from_start}
use Rattle.words.specs.Steps.{steps}
use Rattle.cfg.specs.Func.{drawn_of}
use Rattle.cfg.specs.Preds.{Told, noted}
use Rattle.cfg.proofs.Noted.{all_preds, noted_none, noted_more, noted_end}
use Rattle.cfg.proofs.preds.find_preds.Goals as goal

pub loop-k-init : goal.loop-k-init
loop-k-init c = noted_none (succs (drawn_of c.args.func.now)) _

pub loop-k-preserved : goal.loop-k-preserved
loop-k-preserved c =
    let next = succs (drawn_of c.args.func.now) in
    let l = c.loop-k in
    noted_more next _ l.k _ (c.succs.ensures.0 ∙ ap next c.known-c.ensures) l.invariant
    (c.note_all.ensures ∙ ap (λ (x : ℕ). steps (noted x) l.words c.succs.result.list.now) c.known-c.ensures)

pub returns : goal.returns
returns c =
    let n = c.blocks-n.ensures in
    all_preds (drawn_of c.args.func.now) _ _ (λ b l. subst (λ (m : ℕ). Told c.begin.new.words b (from_start m b)) n (c.begin.ensures b (omega (arith, n)))) (omega (arith, c.requires, c.begin.auto.words))
    (noted_end _ _ _ _ (omega (arith, c.loop-k.auto.k-end, c.blocks-n.ensures)) (omega (arith, c.loop-k-test.false, c.blocks-n.ensures)) c.loop-k.invariant)
