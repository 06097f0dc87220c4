-- `summary::reads::all_listed` meets its contract. Assumes nothing.
use mathlib.Core.Bool.{true, false}
use mathlib.Core.Path.{refl, sym, ◌∙◌}
use Rattle.words.proofs.Members.{in_get_or}
use Rattle.summary.proofs.Places.{in_made, in_tested}
use Rattle.words.proofs.Alls.{all_step, all_past}
use Rattle.summary.proofs.reads.all_listed.Goals as goal

pub test-requires : goal.test-requires
test-requires g c = c.requires.can _ (in_made c.requires.low (in_get_or 0 c.args.list.now c.loop-r.r-index c.loop-r-test.true) refl c.new.ensures).among

pub returns-then-not-test : goal.returns-then-not-test
returns-then-not-test g c = λ t h.
    let there = in_get_or 0 c.args.list.now c.loop-r.r-index c.loop-r-test.true in
    let same = in_tested c.requires.low there h (in_made c.requires.low there refl c.new.ensures) c.test.ensures in
    sym (c.loop-r.invariant t h ∙ all_step t 0 c.args.list.now c.loop-r.r-index c.loop-r-test.true false same c.if-not-test.true)

pub loop-r-preserved : goal.loop-r-preserved
loop-r-preserved g c = λ t h.
    let there = in_get_or 0 c.args.list.now c.loop-r.r-index c.loop-r-test.true in
    let same = in_tested c.requires.low there h (in_made c.requires.low there refl c.new.ensures) c.test.ensures in
    c.loop-r.invariant t h ∙ all_step t 0 c.args.list.now c.loop-r.r-index c.loop-r-test.true true same c.if-not-test.false

pub returns : goal.returns
returns g c = λ t h. sym (c.loop-r.invariant t h ∙ all_past t c.args.list.now c.loop-r.r-index c.loop-r-test.false)
