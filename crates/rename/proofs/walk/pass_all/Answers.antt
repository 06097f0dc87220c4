-- `rename::walk::pass_all` meets its contract. Assumes nothing.
use Rattle.rename.proofs.Positions.{part_among, pass_part, passed_part}
use Rattle.rename.proofs.Passing.{passing_none, passing_ask, passing_more, passing_end}
use Rattle.rename.proofs.walk.pass_all.Goals as goal

pub loop-p-init : goal.loop-p-init
loop-p-init c = passing_none _ _ _ _ _ _ _

pub pass-n-requires : goal.pass-n-requires
pass-n-requires c =
    let k = passing_ask c.requires c.loop-p.invariant c.loop-p-test.true in
    let v = c.part_at-k.ensures in
    (record { u = c.args.u; is = pass_part v k.wrote_ok k }, part_among v k.line.few_regs)

pub loop-p-preserved : goal.loop-p-preserved
loop-p-preserved c =
    let q = c.requires in
    let i = c.loop-p.invariant in
    let lt = c.loop-p-test.true in
    passing_more q i lt (passed_part c.part_at-k.ensures (passing_ask q i lt).wrote_ok c.pass-n.ensures)

pub returns : goal.returns
returns c = passing_end c.loop-p.invariant c.loop-p-test.false
