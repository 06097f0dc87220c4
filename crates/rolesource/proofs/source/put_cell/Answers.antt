-- `source::put_cell` meets its contract: the digits one behind the other. Assumes nothing.
use Rattle.std.proofs.Common.{ap, ap₂, ◌∙◌}
use Rattle.std.specs.Str.{bytes_eq}
use Rattle.rolesource.specs.Source.{bit}
use Rattle.rolesource.proofs.Printing.{cell_done}
use Rattle.rolesource.proofs.source.put_cell.Goals as goal

pub returns-clause-text : goal.returns-clause-text
returns-clause-text c =
    cell_done _ _ _ _ _ _ _ c.arm_of-arm.result c.shape_of.result c.bit-quiet.result c.bit-list.result c.bit-allowed.result c.slots_at.result.now record {
      is_arm = c.arm_of-arm.ensures.same;
      is_shape = c.shape_of.ensures.same;
      is_quiet = c.bit-quiet.ensures ∙ ap bit (c.eq.ensures ∙ ap₂ bytes_eq c.word.ensures c.as_slice.ensures);
      has_list = c.bit-list.ensures ∙ ap bit (c.eq-2.ensures ∙ ap₂ bytes_eq c.word-2.ensures c.as_slice-2.ensures);
      has_form = c.bit-allowed.ensures ∙ ap bit c.allowed.ensures;
      are_slots = c.slots_at.ensures;
    } c.put.ensures.text c.put_digit.ensures.text c.put_digit-2.ensures.text c.put_digit-3.ensures.text c.put_slots.ensures.text c.put-2.ensures.text
