-- `regfacts::flags::find_facts` meets its contract. Assumes nothing.
use Rattle.regfacts.proofs.Turned.{turning_none, turning_more, turning_end, turning_fits}
use Rattle.regfacts.proofs.flags.find_facts.Goals as goal

pub loop-w-init : goal.loop-w-init
loop-w-init c = turning_none c.args.recs.now c.args.regs.now c.args.n

pub flags-requires : goal.flags-requires
flags-requires c = turning_fits c.requires.0 c.requires.2 c.loop-w.invariant c.loop-w-test.true c.requires.1

pub loop-w-preserved : goal.loop-w-preserved
loop-w-preserved c = turning_more c.requires.0 c.requires.2 c.loop-w.invariant c.loop-w-test.true c.flags.ensures

pub returns : goal.returns
returns c = turning_end c.loop-w.invariant c.loop-w-test.false
