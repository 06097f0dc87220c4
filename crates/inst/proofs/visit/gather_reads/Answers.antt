-- `inst::visit::gather_reads` meets its contract. Assumes nothing.
use native.Mathlib.Omega.{arith}
use Prim.Native.Nat.{◌<◌}
use mathlib.Core.Path.{◌≡◌}
use Rattle.inst.specs.Record.{readers}
use Rattle.inst.proofs.Firsts.{readers_few, readers_end}
use Rattle.inst.proofs.Few.{few_reads}
use Rattle.inst.proofs.Gathered.{read_next, gathering_none, gathering_room, gathering_more, gathering_end}
use Rattle.inst.proofs.visit.gather_reads.Goals as goal

pub loop-s-init : goal.loop-s-init
loop-s-init c = gathering_none c.new-regs.ensures.numbers c.new-regs.ensures.count (few_reads _ _ c.args.slots.now.used.within)

pub with-regs-requires : goal.with-regs-requires
with-regs-requires c =
    let low : c.loop-s.s < 5 = omega (arith, c.loop-s-test.true, c.readers-n.ensures, readers_few c.args.slots.now.does) in
    (omega arith, gathering_room c.read.result _ c.loop-s.invariant (read_next _ _ c.args.slots.now.used.within low c.requires c.read.ensures))

pub loop-s-preserved : goal.loop-s-preserved
loop-s-preserved c =
    let low : c.loop-s.s < 5 = omega (arith, c.loop-s-test.true, c.readers-n.ensures, readers_few c.args.slots.now.does) in
    gathering_more c.read.result _ c.loop-s.invariant (read_next _ _ c.args.slots.now.used.within low c.requires c.read.ensures) c.with-regs.ensures.numbers c.with-regs.ensures.count

pub returns : goal.returns
returns c =
    let all : c.loop-s.s ≡ readers c.args.slots.now.does = omega (arith, c.loop-s.auto.s-end, c.loop-s-test.false, c.readers-n.ensures) in
    gathering_end c.loop-s.invariant (readers_end _ _ _ c.args.slots.now.used all)
