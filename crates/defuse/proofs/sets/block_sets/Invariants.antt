-- `defuse::sets::block_sets` meets its contract. Assumes nothing.
use mathlib.Core.Path.{◌≡◌}
use Prim.Native.Nat.{◌-◌, ◌≤◌}
use mathlib.Core.List.{map}
use Rattle.words.specs.Lists.{range}
use Rattle.model.specs.Picture.{inst}
use Rattle.defuse.specs.Sets.{run}
use Rattle.defuse.specs.Writers.{notes}
use Rattle.defuse.proofs.sets.block_sets.Given as goal

abbrev pub invariant-loop-p : goal.invariant-loop-p
invariant-loop-p l = record {
  from : l.lo ≤ l.p;
  made : l.bits ≡ run l.code.ops.now l.at.u l.at.d l.initial.bits (map (inst l.code.recs.now) (range l.p (l.hi - l.p)));
  noted : l.writers ≡ notes l.code.recs.now l.initial.writers (range l.p (l.hi - l.p));
}
