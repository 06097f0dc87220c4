-- `mover::bounds::each` meets its contract. Assumes nothing.
use Rattle.std.proofs.Common.{◌<◌, length, arith, ◌∙◌, get_or, sym}
use Rattle.std.proofs.lemmas.List.{take_more_set}
use Rattle.std.proofs.lemmas.List.Elements.{all_zip_more}
use lib.Seq.{get_or-set_other}
use Rattle.words.proofs.Lists.{get_d_any}
use Rattle.mover.proofs.bounds.each.Goals as goal

pub loop-w-preserved : goal.loop-w-preserved
loop-w-preserved g c =
    let i = c.loop-w.w-index in
    let l : i < length c.loop-w.words = omega arith in
    let xs = c.args.words.now in
    record {
      made = rw (take_more_set c.loop-w.words i c.f.result) (all_zip_more (goal.F-post g c.args.f) xs _ i (get_or xs i 0) c.f.result (omega arith) (get_d_any xs i 0 _ (omega arith)) c.loop-w.invariant.made (rw (sym (c.loop-w.invariant.rest i (omega arith))) c.f.ensures));
      rest = λ k h. get_or-set_other c.loop-w.words i k c.f.result 0 (λ e. omega arith) ∙ c.loop-w.invariant.rest k (omega arith);
    }
