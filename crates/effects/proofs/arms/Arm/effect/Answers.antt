-- `effects::arms::Arm::effect` meets its contract. Assumes nothing.
use mathlib.Core.Path.{refl}
use Rattle.effects.proofs.ByArm.{arm_addr_of, arm_cat, arm_const, arm_constF, arm_deref, arm_dopeLen, arm_fills, arm_index, arm_move, arm_other, arm_select, arm_signal, arm_stops, arm_truth, arm_writes}
use Rattle.effects.proofs.arms.Arm.effect.Goals as goal

pub returns-in-Const : goal.returns-in-Const
returns-in-Const c = arm_const c.args.x c.in-Const.is c.value.ensures

pub returns-in-ConstF : goal.returns-in-ConstF
returns-in-ConstF c = arm_constF c.args.x c.in-ConstF.is c.value-in-ConstF.ensures

pub returns-in-AddrOf : goal.returns-in-AddrOf
returns-in-AddrOf c = arm_addr_of c.args.x c.in-AddrOf.is _ c.address.ensures.0 c.address.ensures.1 c.value-in-AddrOf.ensures

pub returns-in-Move : goal.returns-in-Move
returns-in-Move c = arm_move c.args.x c.in-Move.is c.value-in-Move.ensures

pub returns-in-Select : goal.returns-in-Select
returns-in-Select c = arm_select c.args.x c.in-Select.is _ c.agree.ensures.0 c.agree.ensures.1 c.value-in-Select.ensures

pub returns-in-Truth : goal.returns-in-Truth
returns-in-Truth c = arm_truth c.args.x c.in-Truth.is c.value-in-Truth.ensures

pub returns-in-Index : goal.returns-in-Index
returns-in-Index c = arm_index c.args.x c.in-Index.is c.value-in-Index.ensures

pub returns-in-DopeLen : goal.returns-in-DopeLen
returns-in-DopeLen c = arm_dopeLen c.args.x c.in-DopeLen.is (rw c.memory.ensures at c.reads.ensures)

pub returns-in-Signal : goal.returns-in-Signal
returns-in-Signal c = arm_signal c.args.x c.in-Signal.is c.value-in-Signal.ensures

pub returns-in-Fills : goal.returns-in-Fills
returns-in-Fills c = arm_fills c.args.x c.in-Fills.is (rw c.memory-in-Fills.ensures at c.writes.ensures)

pub returns-in-Cat : goal.returns-in-Cat
returns-in-Cat c = arm_cat c.args.x c.in-Cat.is (rw c.memory-in-Cat.ensures at c.writes-in-Cat.ensures)

pub returns-in-Stops : goal.returns-in-Stops
returns-in-Stops c = arm_stops c.args.x c.in-Stops.is c.stops.ensures

pub returns-in-Deref : goal.returns-in-Deref
returns-in-Deref c = arm_deref c.args.x c.in-Deref.is c.value-in-Deref.ensures

pub returns-in-Writes : goal.returns-in-Writes
returns-in-Writes c = arm_writes c.args.x c.in-Writes.is (rw c.memory-in-Writes.ensures at c.writes-in-Writes.ensures)

pub returns-in-Other : goal.returns-in-Other
returns-in-Other c = arm_other c.args.x c.in-Other.is refl
