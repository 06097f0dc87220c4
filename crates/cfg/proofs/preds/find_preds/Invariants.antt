-- `cfg::preds::find_preds` meets its contract. Assumes nothing.
use mathlib.Core.Path.{◌≡◌}
use Rattle.model.specs.Picture.{succs}
use Rattle.cfg.specs.Func.{drawn_of}
use Rattle.cfg.specs.Preds.{all_noted}
use Rattle.cfg.proofs.preds.find_preds.Given as goal

abbrev pub invariant-loop-k : goal.invariant-loop-k
invariant-loop-k l = l.words ≡ all_noted (succs (drawn_of l.func)) l.initial.words l.k
