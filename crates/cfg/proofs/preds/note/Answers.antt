-- `cfg::preds::note` meets its contract. Assumes nothing.
use mathlib.Core.Path.{◌∙◌, ap}
use Prim.Native.Nat.{◌+◌, ◌*◌, ◌<◌}
use native.Mathlib.Omega.{arith}
use lib.ListN.{length, length-set}
use Rattle.cfg.specs.Preds.{noted}
use Rattle.cfg.proofs.Noted.{one_noted}
use Rattle.cfg.proofs.preds.note.Goals as goal

pub bounds-words-i-4 : goal.bounds-words-i-4
bounds-words-i-4 c =
    let h : 2 * c.at-i.result + 1 < length c.args.words.now = omega (arith, c.requires, c.at-i.ensures) in
    simp length-set h

pub returns : goal.returns
returns c =
    let a = c.args in
    one_noted a.c.0 a.words.now c.at-i.result _ _ c.count_after.ensures c.which_after.ensures ∙ ap (noted a.c.0 a.words.now) c.at-i.ensures
