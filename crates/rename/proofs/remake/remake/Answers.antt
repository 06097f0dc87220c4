-- `rename::remake::remake` meets its contract. Assumes nothing.
use native.Mathlib.Omega.{arith}
use mathlib.Core.Path.{refl, ◌∙◌}
use Rattle.rename.proofs.Remakes.{remade_same, remade_changed, room_is, within, of_part}
use Rattle.rename.proofs.remake.remake.Goals as goal

pub append-requires : goal.append-requires
append-requires c =
    let f = c.requires.is in
    let h = c.rename_slots.ensures in
    let es = c.list_start-s.ensures.0 in
    let en = c.list_len-n.ensures.0 in
    (omega (arith, within f h es en, f.used), room_is f h es en (of_part c.args.anew.names.now c.list_start-s.result c.list_len-n.result c.args.ops.now c.changes-c.ensures ∙ c.if-c.true))

pub overflow_add-result : goal.overflow_add-result
overflow_add-result c =
    let f = c.requires.is in
    let h = c.rename_slots.ensures in
    let es = c.list_start-s.ensures.0 in
    let en = c.list_len-n.ensures.0 in
    omega (arith, room_is f h es en (of_part c.args.anew.names.now c.list_start-s.result c.list_len-n.result c.args.ops.now c.changes-c.ensures ∙ c.if-c.true), f.few)

pub returns-then-c : goal.returns-then-c
returns-then-c c =
    let f = c.requires.is in
    let h = c.rename_slots.ensures in
    let es = c.list_start-s.ensures.0 in
    let en = c.list_len-n.ensures.0 in
    remade_changed f h es en (of_part c.args.anew.names.now c.list_start-s.result c.list_len-n.result c.args.ops.now c.changes-c.ensures ∙ c.if-c.true) c.append.ensures refl

pub returns : goal.returns
returns c =
    let f = c.requires.is in
    remade_same f c.rename_slots.ensures c.list_start-s.ensures.0 c.list_len-n.ensures.0 (of_part c.args.anew.names.now c.list_start-s.result c.list_len-n.result c.args.ops.now c.changes-c.ensures ∙ c.if-c.false)
