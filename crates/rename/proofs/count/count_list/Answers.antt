-- `rename::count::count_list` meets its contract. Assumes nothing.
use native.Mathlib.Omega.{arith}
use mathlib.Core.Path.{sym, ◌∙◌}
use Rattle.rename.proofs.Counting.{list_listed, list_small, list_changed, list_same}
use Rattle.rename.proofs.count.count_list.Goals as goal

pub list-list-requires : goal.list-list-requires
list-list-requires c = list_listed c.requires.is

pub returns-then-changes : goal.returns-then-changes
returns-then-changes c =
    let k = c.requires.is in
    let is = c.list-list.ensures in
    (list_changed k is (sym c.changes.ensures ∙ c.if-changes.true), list_small k is)

pub returns : goal.returns
returns c = (list_same c.requires.is c.list-list.ensures (sym c.changes.ensures ∙ c.if-changes.false), omega arith)
