-- `analyse::marks::mark_record` meets its contract. Assumes nothing.
use borrow.Author.Rules.{rules}
use native.Mathlib.Omega.{arith}
use mathlib.Core.Path.{◌∙◌}
use Rattle.model.specs.Picture.{inst}
use Rattle.inst.proofs.Firsts.{all_written}
use Rattle.analyse.specs.Step.{marked}
use Rattle.analyse.proofs.Marking.{marked_twice}
use Rattle.inst.proofs.Writing.{writing_one}
use Rattle.regfacts.proofs.Writing.{first_made, slot_index}
use Rattle.analyse.proofs.marks.mark_record.Goals as goal

pub change-requires-clause-among : goal.change-requires-clause-among
change-requires-clause-among c = (first_made _ _ c.requires.1 c.requires.2 c.new.ensures).0

pub change_written-requires-clause-few : goal.change_written-requires-clause-few
change_written-requires-clause-few c = omega (arith, c.requires.1.room)

pub change_written-requires-clause-by_index : goal.change_written-requires-clause-by_index
change_written-requires-clause-by_index c = slot_index c.requires.1

pub returns-then-x-eq-ABSENT : goal.returns-then-x-eq-ABSENT
returns-then-x-eq-ABSENT c =
    let i = inst c.args.slots.now.recs.now c.args.slots.now.p in
    let fits = c.requires.1 in
    let made = first_made _ _ fits c.requires.2 c.new.ensures in
    writing_one _ (marked_twice _) _ _
    (all_written i (made.1 ∙ c.requires.2) c.requires.3 c.if-x-eq-ABSENT.true)
    made.2 (omega (arith, fits.room)) (c.change.ensures (marked c.args.d) (record { made = λ x y h. search rules }))

pub returns : goal.returns
returns c = c.change_written.ensures (marked c.args.d) (record { made = λ x y h. search rules }) (marked_twice _)
