-- `defuse::writers::note` meets its contract. Assumes nothing.
use mathlib.Core.Path.{◌∙◌, sym, ap}
use native.Mathlib.Omega.{arith}
use lib.ListN.{set}
use lib.Seq.{set_out}
use Rattle.defuse.specs.Writers.{note}
use Rattle.defuse.proofs.writers.note.Goals as goal

pub returns-then-k-notes : goal.returns-then-k-notes
unfolding note
returns-then-k-notes c = let a = c.args in ap (set a.notes.now c.at-k.result) c.next.ensures ∙ ap (note a.p a.notes.now) c.at-k.ensures

pub returns-else-k-notes : goal.returns-else-k-notes
unfolding note
returns-else-k-notes c = sym (set_out c.args.notes.now c.args.r.0 _ (omega (arith, c.at-k.ensures, c.if-k-notes.false)))
