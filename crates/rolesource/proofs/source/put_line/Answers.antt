-- `source::put_line` meets its contract: a line that is passed over has no row. Assumes nothing.
use Rattle.std.proofs.Common.{◌∙◌, sym}
use Rattle.rolesource.proofs.Printing.{row_none}
use Rattle.rolesource.proofs.source.put_line.Goals as goal

pub returns-then-is_note-clause-text : goal.returns-then-is_note-clause-text
returns-then-is_note-clause-text c = row_none c.args.line.now _ (sym c.is_note.ensures ∙ c.if-is_note.true)
