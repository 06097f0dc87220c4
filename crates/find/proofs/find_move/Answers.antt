-- `find::find_move` meets its contract. Assumes nothing.
use native.Mathlib.Omega.{arith}
use Rattle.find.proofs.Onward.{looking, running_start, following, running_found, running_more, fewer, running_end}
use Rattle.find.proofs.find_move.Goals as goal

pub first_look-look-requires : goal.first_look-look-requires
first_look-look-requires c = looking c.requires.0

pub loop-look-init : goal.loop-look-init
loop-look-init c = running_start c.first_look-look.ensures

pub try_chain-requires : goal.try_chain-requires
try_chain-requires c = (following c.loop-look.invariant c.in-Some.is c.requires.0, omega (arith, c.loop-look.auto.facts, c.requires.1))

pub returns-in-Some-try_chain : goal.returns-in-Some-try_chain
returns-in-Some-try_chain c = running_found c.loop-look.invariant c.in-Some.is c.try_chain.ensures c.in-Some-try_chain.is

pub loop-look-preserved : goal.loop-look-preserved
loop-look-preserved c = running_more c.loop-look.invariant c.in-Some.is c.try_chain.ensures c.number.ensures c.seek-look.ensures c.in_default-try_chain.is

pub loop-look-smaller : goal.loop-look-smaller
loop-look-smaller c = fewer c.loop-look.invariant c.in-Some.is c.try_chain.ensures c.number.ensures c.seek-look.ensures c.requires.0

pub returns : goal.returns
returns c = running_end c.loop-look.invariant c.in_default.is
