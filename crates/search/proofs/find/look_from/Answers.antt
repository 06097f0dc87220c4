-- `search::find::look_from` meets its contract. Assumes nothing.
use mathlib.Core.Path.{refl}
use native.Mathlib.Omega.{arith}
use borrow.Author.Tests.{not-true, not-false}
use Rattle.search.proofs.Looked.{rooms, preds_there, chains_at, chain_asks, bounds_long, bounds_order, worth_asks, looked_short, looked_none, looked_low, looked_here}
use mathlib.Core.Path.{ap}
use mathlib.Core.Bool.{not}
use Rattle.search.proofs.find.look_from.Goals as goal

pub past-requires : goal.past-requires
past-requires c = let p = c.requires in bounds_long p.0 _ p.1

pub start-requires : goal.start-requires
start-requires c = let p = c.requires in bounds_long p.0 _ p.1

pub overflow_sub-size : goal.overflow_sub-size
overflow_sub-size c = let p = c.requires in omega (arith, bounds_order p.0 _ p.1, c.past.ensures, c.start.ensures)

pub returns-then-size : goal.returns-then-size
returns-then-size c = looked_short _ (omega (arith, c.past.ensures, c.start.ensures, c.if-size.true))

pub at_preds-p-requires : goal.at_preds-p-requires
at_preds-p-requires c = (rooms c.requires.0).few

pub slice_bounds-find_chain-count : goal.slice_bounds-find_chain-count
slice_bounds-find_chain-count c = omega (arith, (rooms c.requires.0).words32, c.at_preds-p.ensures)

pub find_chain-requires : goal.find_chain-requires
find_chain-requires c = let p = c.requires in (chain_asks p.0, preds_there p.0 c.at_preds-p.ensures, p.1)

pub returns-in_default : goal.returns-in_default
returns-in_default c = looked_none _ (chains_at c.args.body.now.sizes c.args.work32.now c.at_preds-p.ensures c.find_chain.ensures) c.in_default.is

pub worth_a_look-requires : goal.worth_a_look-requires
worth_a_look-requires c = let p = c.requires in worth_asks p.0 _ p.1 c.find_chain.ensures.sound c.in-Some.is

pub returns-then-not-worth_a_look : goal.returns-then-not-worth_a_look
returns-then-not-worth_a_look c = looked_low _ (chains_at c.args.body.now.sizes c.args.work32.now c.at_preds-p.ensures c.find_chain.ensures) c.in-Some.is c.worth_a_look.ensures (not-true _ (ap not c.if-not-worth_a_look.true))

pub returns : goal.returns
returns c = looked_here _ refl c.requires.1 (chains_at c.args.body.now.sizes c.args.work32.now c.at_preds-p.ensures c.find_chain.ensures) c.in-Some.is c.worth_a_look.ensures (not-false _ (ap not c.if-not-worth_a_look.false))

pub slice_bounds-find_chain-start : goal.slice_bounds-find_chain-start
slice_bounds-find_chain-start c = omega (arith, (rooms c.requires.0).words32, c.at_preds-p.ensures)
