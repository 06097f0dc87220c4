-- `rename::lists::append` meets its contract. Assumes nothing.
use mathlib.Core.Path.{subst}
use native.Mathlib.Nat.{le_antisymm}
use Rattle.rename.specs.Names.{Appended}
use Rattle.rename.proofs.Operands.{appended_none, appended_more}
use Rattle.rename.proofs.lists.append.Goals as goal

pub loop-k-init : goal.loop-k-init
loop-k-init c = appended_none _ _ _ _

pub loop-k-preserved : goal.loop-k-preserved
loop-k-preserved c = let q = c.requires in appended_more c.loop-k.invariant c.loop-k-test.true q.0 q.1 c.renamed.ensures

pub returns : goal.returns
returns c = let a = c.args in subst (λ k. Appended a.s a.o a.names.now a.ops.now c.loop-k.ops k) (le_antisymm c.loop-k.auto.k-end c.loop-k-test.false) c.loop-k.invariant
