-- `summary::reads::all_regs` meets its contract. Assumes nothing.
use mathlib.Core.Bool.{true, false}
use mathlib.Core.Path.{sym, ◌∙◌}
use Rattle.words.proofs.Members.{in_get_or}
use Rattle.words.proofs.Alls.{all_step, all_past}
use Rattle.summary.proofs.reads.all_regs.Goals as goal

pub test-requires : goal.test-requires
test-requires g c = c.requires.can _ (in_get_or _ c.args.regs.now c.loop-r.r-index c.loop-r-test.true)

pub returns-then-not-test : goal.returns-then-not-test
returns-then-not-test g c = λ t h.
    let there = in_get_or _ c.args.regs.now c.loop-r.r-index c.loop-r-test.true in
    sym (c.loop-r.invariant t h ∙ all_step (λ r. t r.0) _ c.args.regs.now c.loop-r.r-index c.loop-r-test.true false (h _ _ there c.test.ensures) c.if-not-test.true)

pub loop-r-preserved : goal.loop-r-preserved
loop-r-preserved g c = λ t h.
    let there = in_get_or _ c.args.regs.now c.loop-r.r-index c.loop-r-test.true in
    c.loop-r.invariant t h ∙ all_step (λ r. t r.0) _ c.args.regs.now c.loop-r.r-index c.loop-r-test.true true (h _ _ there c.test.ensures) c.if-not-test.false

pub returns : goal.returns
returns g c = λ t h. sym (c.loop-r.invariant t h ∙ all_past (λ r. t r.0) c.args.regs.now c.loop-r.r-index c.loop-r-test.false)
