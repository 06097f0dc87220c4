-- `search::find::seek` meets its contract. Assumes nothing.
use mathlib.Core.Path.{sym}
use Rattle.search.proofs.Looked.{passing_start, passing_more, passing_found, passing_end}
use Rattle.search.proofs.find.seek.Goals as goal

pub loop-b-init : goal.loop-b-init
loop-b-init c = passing_start c.requires.1

pub returns-in-Some : goal.returns-in-Some
returns-in-Some c = passing_found c.loop-b.invariant _ (sym c.known-x.ensures) c.look_from.ensures c.in-Some.is

pub loop-b-preserved : goal.loop-b-preserved
loop-b-preserved c = passing_more c.loop-b.invariant _ (sym c.known-x.ensures) c.look_from.ensures c.loop-b-test.true c.in_default.is

pub returns : goal.returns
returns c = passing_end c.loop-b.invariant c.loop-b-test.false
