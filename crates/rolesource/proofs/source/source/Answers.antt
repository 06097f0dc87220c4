-- `source::source` meets its contract: the table where the list is whole, or else the number of a line. Assumes nothing.
use Rattle.rolesource.proofs.Printing.{table_done, unread_done}
use Rattle.rolesource.proofs.source.source.Goals as goal

pub returns-then-bad-eq0 : goal.returns-then-bad-eq0
returns-then-bad-eq0 c =
    table_done c.args.list.now c.put_lines-bad.result _ c.put_lines-bad.ensures.unread c.clear.ensures _ _ _ c.if-bad-eq0.true c.put.ensures.text
    (c.put_lines-bad.ensures.text c.if-bad-eq0.true) c.put-then-bad-eq0.ensures.text

pub returns-else-bad-eq0 : goal.returns-else-bad-eq0
returns-else-bad-eq0 c =
    unread_done c.args.list.now c.put_lines-bad.result _ c.put_lines-bad.ensures.unread c.clear-else-bad-eq0.ensures _ c.if-bad-eq0.false c.put_unread.ensures
