-- `plan::turn::turn` meets its contract. Assumes nothing.
use borrow.Author.Rules.{rules}
use mathlib.Core.Path.{sym, ◌∙◌}
use lib.ListN.{length}
use Rattle.plan.proofs.Lent.{words_clear}
use Rattle.plan.proofs.Turning.{turn_half, forward_may, turn_whole, turned_half, turned_whole}
use Rattle.plan.proofs.turn.turn.Goals as goal

pub returns-then-not-goes_on : goal.returns-then-not-goes_on
returns-then-not-goes_on c =
    let a = c.args in
    let r = c.requires.0 in
    let w = words_clear a.z.span.s (length a.given.now.regs.now) a.work.now c.fill.new.self r.room (search rules) in
    let back = c.backward-dropped.ensures in
    let last = sym c.goes_on.ensures ∙ c.if-not-goes_on.true in
    record {
      passed = turn_half a.z a.c r w.0 w.1 c.none-lasts.ensures back.passed c.went-half.ensures last;
      swept = turned_half a.z a.c w.0 w.1 c.none-lasts.ensures back.swept c.went-half.ensures last;
    }

pub forward-more-requires : goal.forward-more-requires
forward-more-requires c =
    let a = c.args in
    let r = c.requires.0 in
    let w = words_clear a.z.span.s (length a.given.now.regs.now) a.work.now c.fill.new.self r.room (search rules) in
    forward_may a.z a.c r w.0 w.1 c.none-lasts.ensures c.backward-dropped.ensures.passed c.went-half.ensures c.requires.2

pub returns : goal.returns
returns c =
    let a = c.args in
    let r = c.requires.0 in
    let w = words_clear a.z.span.s (length a.given.now.regs.now) a.work.now c.fill.new.self r.room (search rules) in
    let back = c.backward-dropped.ensures in
    let forth = c.forward-more.ensures in
    let on = sym c.goes_on.ensures ∙ c.if-not-goes_on.false in
    record {
      passed = turn_whole a.z a.c r w.0 w.1 c.none-lasts.ensures back.passed c.went-half.ensures forth.passed c.went.ensures on;
      swept = turned_whole a.z a.c w.0 w.1 c.none-lasts.ensures back.swept c.went-half.ensures forth.swept c.went.ensures on;
    }
