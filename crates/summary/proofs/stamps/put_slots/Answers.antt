-- `summary::stamps::put_slots` meets its contract. Assumes nothing.
use borrow.Author.Rules.{rules}
use native.Mathlib.Omega.{arith}
use Rattle.regfacts.proofs.Writing.{slot_index}
use Rattle.summary.specs.Passes.{over}
use Rattle.summary.proofs.Stamping.{stamped_written}
use Rattle.summary.proofs.stamps.put_slots.Goals as goal

pub change_written-requires-clause-few : goal.change_written-requires-clause-few
change_written-requires-clause-few c = omega (arith, c.requires.room)

pub change_written-requires-clause-by_index : goal.change_written-requires-clause-by_index
change_written-requires-clause-by_index c = slot_index c.requires

pub returns : goal.returns
returns c =
    let d = c.args.d in
    stamped_written d.keep d.lo d.v (c.change_written.ensures (over d.keep d.lo d.v) (record { made = λ x y h. search rules }) d.beside.twice)
