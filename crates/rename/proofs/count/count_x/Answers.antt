-- `rename::count::count_x` meets its contract. Assumes nothing.
use native.Mathlib.Omega.{arith}
use Rattle.rename.proofs.Positions.{part_among, counted_part}
use Rattle.rename.proofs.Counting.{counting_none, counting_more, counting_end, ask_at}
use Rattle.rename.proofs.count.count_x.Goals as goal

pub loop-p-init : goal.loop-p-init
loop-p-init c = counting_none _ _ _ _ _ _

pub count_pass-n-requires : goal.count_pass-n-requires
count_pass-n-requires c =
    let a = c.args in
    let k = c.requires in
    let i = c.loop-p in
    let line = k.is.lines _ c.loop-p-test.true in
    let same = i.invariant.so_far.names_size in
    (record { u = k.u; is = ask_at a.names.now i.names same line k.is.operands }, part_among c.part_at-k.ensures (omega (arith, line.few_regs, same)))

pub loop-p-preserved : goal.loop-p-preserved
loop-p-preserved c =
    let k = c.requires.is in
    let i = c.loop-p.invariant in
    let lt = c.loop-p-test.true in
    counting_more i lt (counted_part c.part_at-k.ensures (λ f. omega (arith, k.wrote_ok _ lt f, i.so_far.names_size)) c.count_pass-n.ensures)

pub returns : goal.returns
returns c = counting_end c.loop-p.invariant c.loop-p-test.false
