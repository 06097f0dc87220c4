-- `rounds::start::start` meets its contract. Assumes nothing.
use mathlib.Core.List.{[]}
use native.Mathlib.Omega.{arith}
use Rattle.rounds.proofs.Opening.{started_ends, blocks_small, graphed, beginning, started_opens}
use Rattle.rounds.proofs.start.start.Goals as goal

pub returns-in_err-judge : goal.returns-in_err-judge
returns-in_err-judge c = λ replay. let g = c.args in started_ends g.lent replay g.work64.now g.work32.now g.records c.judge.ensures c.in_err-judge.was c.from_residual.ensures

pub overflow_cast-s : goal.overflow_cast-s
overflow_cast-s c = let g = c.args in omega (arith, blocks_small g.lent [] g.work64.now g.work32.now g.records c.judge.ensures c.in_ok-judge.was)

pub invariant_of-func : goal.invariant_of-func
invariant_of-func c = let g = c.args in record { graphed = graphed g.lent [] g.work64.now g.work32.now g.records c.judge.ensures c.in_ok-judge.was }

pub begin-requires : goal.begin-requires
begin-requires c = let g = c.args in beginning g.lent [] g.work64.now g.work32.now g.records c.judge.ensures c.in_ok-judge.was

pub returns : goal.returns
returns c = λ replay.
    let g = c.args in
    started_opens g.lent replay g.work64.now g.work32.now g.records c.judge.ensures c.in_ok-judge.was c.begin.ensures
