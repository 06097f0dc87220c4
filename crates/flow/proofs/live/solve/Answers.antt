-- `flow::live::solve` meets its contract. Assumes nothing.
use Rattle.flow.proofs.Solving.{after_sweep, solved}
use Rattle.flow.proofs.live.solve.Goals as goal

pub loop-w-preserved : goal.loop-w-preserved
loop-w-preserved c = after_sweep (after_sweep c.loop-w.invariant c.sweep.ensures) c.sweep-in-loop-w.ensures

pub returns-then-not-sweep : goal.returns-then-not-sweep
returns-then-not-sweep c = solved (after_sweep c.loop-w.invariant c.sweep.ensures) c.sweep-in-loop-w.ensures c.if-not-sweep.true
