-- `inst::table::Table::new` makes the table: its words are those that were printed. Assumes nothing.
use Rattle.inst.proofs.Rows.{printed}
use Rattle.inst.proofs.table.Table.new.Goals as goal

pub invariant_of-result : goal.invariant_of-result
invariant_of-result c = record { printed = printed }
