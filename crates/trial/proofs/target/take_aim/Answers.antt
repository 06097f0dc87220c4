-- `trial::target::take_aim` meets its contract. Assumes nothing.
use mathlib.Core.Path.{refl, sym, ap, subst}
use Prim.Native.Nat.{ℕ, ◌-◌, ◌*◌, ◌≤◌}
use native.Mathlib.Omega.{arith}
use borrow.Author.Tests.{not-true, not-false}
use lib.ListN.{length, take, drop}
use Rattle.chainwords.proofs.Rooms.{room, preds_room}
use Rattle.trial.proofs.Aiming.{needed_from, block_lent, block_in, row_lent, preds_from, aim_off, aim_on}
use mathlib.Core.Bool.{not}
use Rattle.trial.proofs.target.take_aim.Goals as goal

pub needed-o-requires : goal.needed-o-requires
needed-o-requires c = let r = room c.requires.lists in rw c.width.ensures (omega (arith, r.rows, r.four, r.words64))

pub at_stamps-s-requires : goal.at_stamps-s-requires
at_stamps-s-requires c = let r = room c.requires.lists in (r.blocks, r.few)

pub at_preds-k-requires : goal.at_preds-k-requires
at_preds-k-requires c = (room c.requires.lists).few

pub slice_bounds-is_target-count : goal.slice_bounds-is_target-count
slice_bounds-is_target-count c = let r = room c.requires.lists in omega (arith, r.words32, c.at_preds-k.ensures)

pub is_target-requires : goal.is_target-requires
is_target-requires c =
    let a = c.args in
    let p = c.requires in
    let low = block_in p.lists p.into_block in
    let ws = a.work32.now in
    let long = subst (λ (i : ℕ). 2 * a.body.now.sizes.blocks ≤ length (take (length ws - i) (drop i ws))) (sym c.at_preds-k.ensures) (preds_room ws p.lists) in
    (p.few, omega (arith, low, long))

pub returns-then-not-wanted : goal.returns-then-not-wanted
returns-then-not-wanted c =
    let a = c.args in
    aim_off (record { is = λ P h. c.is_target.ensures P a.body.now.sizes.blocks (block_in c.requires.lists c.requires.into_block) (preds_from a.body.now.sizes a.work32.now P c.at_preds-k.ensures h) }) (not-true _ (ap not c.if-not-wanted.true)) (needed_from a.body.now.sizes c.width.ensures c.needed-o.ensures) c.at_stamps-s.ensures.0

pub put_needed-requires : goal.put_needed-requires
put_needed-requires c =
    let t = c.requires in
    let l = t.lists in
    let low = block_lent l t.into_block in
    let other = block_lent l t.other_block in
    let ew = c.width.ensures in
    (omega (arith, low, other), omega (arith, low, other), row_lent l t.into_block ew)

pub returns : goal.returns
returns c =
    let a = c.args in
    aim_on c.requires (record { is = λ P h. c.is_target.ensures P a.body.now.sizes.blocks (block_in c.requires.lists c.requires.into_block) (preds_from a.body.now.sizes a.work32.now P c.at_preds-k.ensures h) }) (not-false _ (ap not c.if-not-wanted.false)) c.width.ensures (needed_from a.body.now.sizes c.width.ensures c.needed-o.ensures) c.at_stamps-s.ensures.0
    refl c.put_needed.ensures

pub slice_bounds-is_target-start : goal.slice_bounds-is_target-start
slice_bounds-is_target-start c = let r = room c.requires.lists in omega (arith, r.words32, c.at_preds-k.ensures)
