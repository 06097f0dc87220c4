-- `mover::moving::move_all` meets its contract. Assumes nothing.
use Rattle.std.proofs.Common.{◌≡◌, false, eqb, length, sym, ◌∙◌}
use native.Mathlib.Nat.{one-mul}
use borrow.Author.Tests.{eqb-false}
use Rattle.mover.proofs.Moves.{none_moved, some_moved}
use Rattle.mover.proofs.moving.move_all.Goals as goal

pub returns-then-not-is_empty : goal.returns-then-not-is_empty
returns-then-not-is_empty c =
    let a = c.args in
    let q = c.requires in
    let some : eqb (length a.vias.now) 0 ≡ false = sym c.is_empty.ensures ∙ c.if-not-is_empty.true in
    record {
      recs_are = c.move_words.ensures _ q.whole;
      locs_are = c.move_words-2.ensures _ (sym (one-mul _));
      vias_are =
          some_moved 1 a.chain.now a.vias.now a.lo a.m a.t _ some
          (c.move_words-then-not-is_empty.ensures _ (q.each_or_none (eqb-false (length a.vias.now) 0 some) ∙ sym (one-mul _)));
    }

pub returns-else-not-is_empty : goal.returns-else-not-is_empty
returns-else-not-is_empty c = let a = c.args in let q = c.requires in record {
  recs_are = c.move_words.ensures _ q.whole;
  locs_are = c.move_words-2.ensures _ (sym (one-mul _));
  vias_are = none_moved 1 a.chain.now a.vias.now a.lo a.m a.t _ (sym c.is_empty.ensures ∙ c.if-not-is_empty.false);
}
