-- The bytes of one more read stand behind those that came before. Assumes nothing.
use Rattle.std.proofs.Common.{◌++◌, ap, drop, subst, sym, take, ◌∙◌}
use Rattle.std.specs.Io.KnownBytes.{Consumes}
use Rattle.std.proofs.KnownBytes.{Consumes-trans}
use lib.Seq.{take-add}
use Rattle.input.proofs.read_full.Goals as goal

pub loop-done-preserved : goal.loop-done-preserved
loop-done-preserved g c =
    let read = c.in_ok-n.ensures in
    let done = c.loop-done.done in
    let out = c.read_at.new.out in
    let joined = ap (λ front. front ++ take c.in_ok-n.n (drop done out)) (sym read.front) ∙ sym (take-add done c.in_ok-n.n out) in
    (read.fits, subst (Consumes _ _) joined (Consumes-trans _ _ _ _ _ c.loop-done.invariant.1 read.bytes))
