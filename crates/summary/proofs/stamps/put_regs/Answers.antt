-- `summary::stamps::put_regs` meets its contract. Assumes nothing.
use mathlib.Core.Path.{refl}
use Rattle.std.proofs.lemmas.List.{take_all}
use Rattle.words.proofs.Members.{in_get_or, map_in}
use Rattle.inst.specs.declared.index.Reg.{Reg}
use Rattle.summary.proofs.Places.{held}
use Rattle.words.proofs.Lists.{map_more}
use Rattle.summary.proofs.Stamping.{stamped_none, stamped_more}
use Rattle.summary.proofs.stamps.put_regs.Goals as goal

pub loop-r-init : goal.loop-r-init
loop-r-init c = stamped_none _ _ _ _

pub put-requires : goal.put-requires
put-requires c =
    let l = c.loop-r in
    (held c.args.regs.now c.requires _ (in_get_or _ c.args.regs.now l.r-index c.loop-r-test.true) l.invariant.size).among

pub loop-r-preserved : goal.loop-r-preserved
loop-r-preserved c =
    let regs = c.args.regs.now in
    let l = c.loop-r in
    let h = c.loop-r-test.true in
    let there = map_in (λ (r : Reg). r.0) _ regs (in_get_or _ regs l.r-index h) in
    stamped_more c.args.d.beside (map_more (λ (r : Reg). r.0) regs l.r-index _ h) c.requires there refl c.put.ensures l.invariant

pub returns : goal.returns
returns c = rw (take_all c.loop-r.r-index c.args.regs.now c.loop-r-test.false) at c.loop-r.invariant
