-- `rename::count::count_target` meets its contract. Assumes nothing.
use native.Mathlib.Omega.{arith}
use Rattle.rename.proofs.Counting.{own_none, own_more, own_end, ask_at}
use Rattle.rename.proofs.count.count_target.Goals as goal

pub loop-q-init : goal.loop-q-init
loop-q-init c = own_none _ _ _ _ _ _ c.requires.0.is.order c.requires.1

pub count_own-k-requires : goal.count_own-k-requires
count_own-k-requires c =
    let a = c.args in
    let k = c.requires.0 in
    let i = c.loop-q in
    let asked = ask_at a.names.now i.names i.invariant.names_size (k.is.lines _ i.invariant.low c.loop-q-test.true) k.is.operands in
    (record { u = k.u; is = asked })

pub loop-q-preserved : goal.loop-q-preserved
loop-q-preserved c = own_more c.loop-q.invariant c.loop-q-test.true c.count_own-k.ensures

pub returns : goal.returns
returns c = let i = c.loop-q.invariant in (own_end i c.loop-q-test.false, omega (arith, i.small, i.high, c.requires.0.is.few))
