-- `source::put_row` meets its contract: the parts one behind the other. Assumes nothing.
use Rattle.rolesource.proofs.Printing.{row_done}
use Rattle.rolesource.proofs.source.put_row.Goals as goal

pub returns-clause-text : goal.returns-clause-text
returns-clause-text c =
    row_done c.args.line.now _ _ _ _ _ _ c.requires.0 c.put.ensures.text c.put-2.ensures.text c.put-3.ensures.text c.put_cells.ensures.text c.put-4.ensures.text
