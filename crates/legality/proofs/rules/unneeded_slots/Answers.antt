-- `legality::rules::unneeded_slots` meets its contract. Assumes nothing.
use borrow.Author.Rules.{rules}
use Rattle.summary.specs.Passes.{result_test}
use Rattle.legality.proofs.rules.unneeded_slots.Goals as goal

pub returns : goal.returns
returns c =
    let a = c.args in
    c.all_written.ensures (result_test a.asked.now.regs.now a.asked.now.bits.now a.asked.now.at a.p) (record { each = λ m b h e. search rules })
