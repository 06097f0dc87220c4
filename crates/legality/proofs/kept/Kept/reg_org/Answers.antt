-- `legality::kept::Kept::reg_org` meets its contract. Assumes nothing.
use native.Mathlib.Omega.{arith}
use Rattle.legality.proofs.Testing.{reg_yes, reg_ro, reg_frame, reg_none}
use Rattle.legality.proofs.kept.Kept.reg_org.Goals as goal

pub overflow_cast-result : goal.overflow_cast-result
overflow_cast-result c =
    omega (arith, (reg_yes c.args.self.now.regs.now c.args.self.now.near c.requires c.at-k.ensures c.if-v-ge-WRITER.true).1)

pub returns-then-v-ge-WRITER : goal.returns-then-v-ge-WRITER
returns-then-v-ge-WRITER c = reg_yes _ c.args.self.now.near c.requires c.at-k.ensures c.if-v-ge-WRITER.true

pub returns-then-self-k-eq1 : goal.returns-then-self-k-eq1
returns-then-self-k-eq1 c =
    reg_ro _ c.args.self.now.near c.requires c.at-k.ensures c.if-v-ge-WRITER.false c.if-self-k-eq1.true

pub returns-then-self-k-eq1-2 : goal.returns-then-self-k-eq1-2
returns-then-self-k-eq1-2 c =
    reg_frame _ c.args.self.now.near c.requires c.at-k.ensures c.if-v-ge-WRITER.false c.if-self-k-eq1.false c.if-self-k-eq1-2.true

pub returns : goal.returns
returns c =
    reg_none _ c.args.self.now.near c.requires c.at-k.ensures c.if-v-ge-WRITER.false c.if-self-k-eq1.false c.if-self-k-eq1-2.false
