-- `mover::marks::count` meets its contract. Assumes nothing.
use Rattle.std.proofs.Common.{rules, ap, ◌∙◌, length}
use Rattle.std.proofs.lemmas.Iterator.{YieldsList-from_range}
use Rattle.std.proofs.lemmas.Iterator.Consumers.{YieldsList-from_filter, count_from_yields_List}
use native.Mathlib.Nat.{sub-zero}
use Rattle.mover.specs.Order.{goes}
use Rattle.mover.proofs.Cells.{filter_between}
use Rattle.mover.proofs.marks.count.Goals as goal

pub returns : goal.returns
returns c =
    let f = goes c.args.chain.now in
    let m = c.args.m in
    count_from_yields_List _ c.count.result c.count.ensures.ran
    (YieldsList-from_filter _ f (YieldsList-from_range 0 m m c.filter.ensures.source (sub-zero m)) c.filter.ensures.closure (λ x b q k. search rules))
    ∙ ap length (filter_between f 0 m)
