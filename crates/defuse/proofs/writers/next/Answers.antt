-- `defuse::writers::next` meets its contract. Assumes nothing.
use borrow.Author.Tests.{eq-eqb, ne_eqb}
use Rattle.defuse.specs.Writers.{noted}
use Rattle.defuse.proofs.writers.next.Goals as goal

pub returns-then-v-eq0 : goal.returns-then-v-eq0
unfolding noted
returns-then-v-eq0 c = simp c.if-v-eq0.true

pub returns-then-v-p : goal.returns-then-v-p
unfolding noted
returns-then-v-p c = simp (ne_eqb _ _ c.if-v-eq0.false, eq-eqb _ _ c.if-v-p.true)

pub returns : goal.returns
unfolding noted
returns c = simp (ne_eqb _ _ c.if-v-eq0.false, ne_eqb _ _ c.if-v-p.false)
