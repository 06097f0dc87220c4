-- `summary::reads::all_written` meets its contract. Assumes nothing.
use native.Mathlib.Omega.{arith}
use mathlib.Core.Bool.{true, false, ◌||◌}
use mathlib.Core.Path.{◌≡◌, sym, ap, ◌∙◌}
use Prim.Native.Nat.{ℕ, ◌<◌}
use lib.Dec.{eqb}
use Rattle.words.specs.Lists.{all}
use Rattle.model.specs.Picture.{absent}
use Rattle.inst.specs.Record.{writers}
use Rattle.inst.proofs.Firsts.{writers_few, writers_end}
use Rattle.inst.proofs.Rest.{writes_all}
use Rattle.summary.proofs.Places.{slot_made, slot_tested}
use Rattle.summary.proofs.reads.all_written.Goals as goal

pub loop-s-init : goal.loop-s-init
loop-s-init g c = λ t h. ap (all t) (sym (writes_all _))

pub test-requires : goal.test-requires
test-requires g c =
    let low : c.loop-s.s < 5 = omega (arith, c.loop-s-test.true, c.writers-n.ensures, writers_few c.args.slots.now.does) in
    c.requires.can _ (slot_made c.requires.fits low c.write.ensures).among

pub returns-then-not-test : goal.returns-then-not-test
returns-then-not-test g c = λ t h.
    let low : c.loop-s.s < 5 = omega (arith, c.loop-s-test.true, c.writers-n.ensures, writers_few c.args.slots.now.does) in
    let made = slot_made c.requires.fits low c.write.ensures in
    let test = h.each _ _ made.among c.test.ensures ∙ ap (λ (r : ℕ). eqb r absent || t r) made.word in
    sym (c.loop-s.invariant t h ∙ slot_tested t c.requires.fits c.loop-s.s low false test c.if-not-test.true)

pub loop-s-preserved : goal.loop-s-preserved
loop-s-preserved g c = λ t h.
    let low : c.loop-s.s < 5 = omega (arith, c.loop-s-test.true, c.writers-n.ensures, writers_few c.args.slots.now.does) in
    let made = slot_made c.requires.fits low c.write.ensures in
    let test = h.each _ _ made.among c.test.ensures ∙ ap (λ (r : ℕ). eqb r absent || t r) made.word in
    c.loop-s.invariant t h ∙ slot_tested t c.requires.fits c.loop-s.s low true test c.if-not-test.false

pub returns : goal.returns
returns g c = λ t h.
    let all_done : c.loop-s.s ≡ writers c.args.slots.now.does = omega (arith, c.loop-s.auto.s-end, c.loop-s-test.false, c.writers-n.ensures) in
    sym (ap (all t) (writers_end _ _ _ c.args.slots.now.used all_done)) ∙ sym (c.loop-s.invariant t h)
