-- `inst::table::Table::row` meets its contract. Assumes nothing.
use Rattle.inst.proofs.Rows.{row_is}
use Rattle.inst.proofs.table.Table.row.Goals as goal

pub returns : goal.returns
returns c = row_is c.args.self.now.words c.args.self.now.printed c.args.kind c.args.form c.requires c.min.ensures
