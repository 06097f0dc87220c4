-- `chainwords::marks::find_readers` meets its contract. Assumes nothing.
use native.Mathlib.Omega.{arith}
use Rattle.lastuse.proofs.Going.{legible_on}
use Rattle.chainwords.proofs.Putting.{part_long, around_part}
use Rattle.chainwords.proofs.marks.find_readers.Goals as goal

pub last_readers-requires : goal.last_readers-requires
last_readers-requires c =
    let p = c.requires in
    let a = c.args in
    let st = c.at_stamps-st in
    (legible_on p.chain (part_long st.result a.body.now.sizes.regs a.work64.now (omega (arith, p.room, st.ensures.0))), c.own_places.ensures.size, c.own_places.ensures.each)

pub returns : goal.returns
returns c =
    let a = c.args in
    let st = c.at_stamps-st in
    (c.last_readers.ensures.0, around_part st.result a.body.now.sizes.regs a.work64.now c.last_readers.new.st st.ensures.0 c.requires.room c.last_readers.ensures.1)
