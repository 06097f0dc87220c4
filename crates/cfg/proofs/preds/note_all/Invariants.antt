-- `cfg::preds::note_all` meets its contract. Assumes nothing.
use mathlib.Core.Path.{◌≡◌}
use Prim.Native.Nat.{ℕ}
use lib.ListN.{drop}
use Rattle.words.specs.Steps.{steps}
use Rattle.cfg.specs.Succs.{left}
use Rattle.cfg.specs.Preds.{noted}
use Rattle.cfg.proofs.Each.{From}
use Rattle.cfg.proofs.preds.note_all.Given as goal

abbrev pub invariant-loop-b : goal.invariant-loop-b
invariant-loop-b l =
    let ss = l.fn.succs.list.now in
    (k : ℕ) × From ss k (left l.b-iterator) × (steps (noted l.c.0) l.words (drop k ss) ≡ steps (noted l.c.0) l.initial.words ss)
