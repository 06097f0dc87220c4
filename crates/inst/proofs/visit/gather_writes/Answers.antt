-- `inst::visit::gather_writes` meets its contract. Assumes nothing.
use mathlib.Core.Path.{◌≡◌, sym, subst}
use mathlib.Core.List.{List}
use Prim.Native.Nat.{ℕ, ◌<◌}
use native.Mathlib.Omega.{arith}
use Rattle.model.specs.Picture.{inst, writes}
use Rattle.inst.specs.Record.{writers}
use Rattle.inst.proofs.Rest.{writes_all}
use Rattle.inst.proofs.Firsts.{writers_few, writers_end}
use Rattle.inst.proofs.Few.{few_writes}
use Rattle.inst.proofs.Gathered.{Gathering, write_next, gathering_none, gathering_room, gathering_more, gathering_end}
use Rattle.inst.proofs.visit.gather_writes.Goals as goal

pub loop-s-init : goal.loop-s-init
loop-s-init c =
    let i = inst c.args.slots.now.recs.now c.args.slots.now.p in
    subst (λ (l : List ℕ). Gathering 3 c.new-regs.result l (writes i)) (sym (writes_all i)) (gathering_none c.new-regs.ensures.numbers c.new-regs.ensures.count (few_writes i))

pub with-regs-requires : goal.with-regs-requires
with-regs-requires c =
    let low : c.loop-s.s < 5 = omega (arith, c.loop-s-test.true, c.writers-n.ensures, writers_few c.args.slots.now.does) in
    (omega arith, gathering_room c.write.result _ c.loop-s.invariant (write_next _ _ c.args.slots.now.used.within low c.requires c.write.ensures))

pub loop-s-preserved : goal.loop-s-preserved
loop-s-preserved c =
    let low : c.loop-s.s < 5 = omega (arith, c.loop-s-test.true, c.writers-n.ensures, writers_few c.args.slots.now.does) in
    gathering_more c.write.result _ c.loop-s.invariant (write_next _ _ c.args.slots.now.used.within low c.requires c.write.ensures) c.with-regs.ensures.numbers c.with-regs.ensures.count

pub returns : goal.returns
returns c =
    let all : c.loop-s.s ≡ writers c.args.slots.now.does = omega (arith, c.loop-s.auto.s-end, c.loop-s-test.false, c.writers-n.ensures) in
    gathering_end c.loop-s.invariant (writers_end _ _ _ c.args.slots.now.used all)
