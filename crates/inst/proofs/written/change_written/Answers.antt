-- `inst::written::change_written` meets its contract. Assumes nothing.
use native.Mathlib.Omega.{arith}
use mathlib.Core.Path.{◌≡◌, refl}
use Prim.Native.Nat.{◌<◌}
use Rattle.inst.specs.Record.{writers}
use Rattle.inst.proofs.Firsts.{writers_few, writers_end}
use Rattle.inst.proofs.Indices.{among_made, word_made}
use Rattle.inst.proofs.Writing.{writing_none, writing_more, writing_end}
use Rattle.inst.proofs.written.change_written.Goals as goal

pub loop-s-init : goal.loop-s-init
loop-s-init g c = λ f m twice. writing_none _ _ _ _

pub change-requires-clause-among : goal.change-requires-clause-among
change-requires-clause-among g c = among_made _ _ c.write.ensures refl _ (omega (arith, c.loop-s.auto.words, c.requires.few)) (omega arith)

pub loop-s-preserved : goal.loop-s-preserved
loop-s-preserved g c = λ f m twice.
    let low : c.loop-s.s < 5 = omega (arith, c.loop-s-test.true, c.writers-n.ensures, writers_few c.args.slots.now.does) in
    let ok = c.requires.by_index c.loop-s.s low in
    writing_more f twice _ _ _ _ _ low c.args.slots.now.used.within c.requires.few ok (c.loop-s.invariant f m twice) _
    (word_made _ _ c.write.ensures refl (λ n. rw c.loop-s.auto.words (ok n))) (c.change.ensures f (record { made = λ x y p. m.made x y p }))

pub returns : goal.returns
returns g c = λ f m twice.
    let all : c.loop-s.s ≡ writers c.args.slots.now.does = omega (arith, c.loop-s.auto.s-end, c.loop-s-test.false, c.writers-n.ensures) in
    writing_end (c.loop-s.invariant f m twice) (writers_end _ _ _ c.args.slots.now.used all)
