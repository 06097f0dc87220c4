-- `flow::rows::all_rows` meets its contract. Assumes nothing.
use Rattle.words.specs.Bits.{width}
use Rattle.flow.proofs.Renewed.{Made}
use Rattle.flow.proofs.rows.all_rows.Given as goal

abbrev pub invariant-loop-k : goal.invariant-loop-k
invariant-loop-k l = Made l.bounds l.code.recs.now l.code.ops.now (width l.regs) l.k l.initial.bits l.initial.writers l.bits l.writers
