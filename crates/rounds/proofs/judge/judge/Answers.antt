-- `rounds::judge::judge` meets its contract: past acceptance, the gates. Assumes nothing.
use Rattle.rounds.proofs.Opening.{judge_gated, judge_opens}
use Rattle.rounds.proofs.judge.judge.Goals as goal

pub returns-then-gated : goal.returns-then-gated
returns-then-gated c = judge_gated c.args.lent c.args.room c.accept.ensures c.in_default.is c.gated.ensures c.if-gated.true

pub returns : goal.returns
returns c = judge_opens c.args.lent c.args.room c.accept.ensures c.in_default.is c.gated.ensures c.if-gated.false
