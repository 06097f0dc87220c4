-- `chains::chain::Chain::next` meets its contract. Assumes nothing.
use mathlib.Core.Path.{sym, ◌∙◌}
use native.Mathlib.Omega.{arith}
use Rattle.inst.proofs.Indices.{is_block, not_block}
use Rattle.chains.proofs.Search.{next_full, next_many, next_twice, next_on}
use Rattle.chains.proofs.chain.Chain.next.Goals as goal

pub returns-in_err-b : goal.returns-in_err-b
returns-in_err-b c = let a = c.args in let h = not_block a.to a.blocks (sym c.new.ensures ∙ c.in_err-b.was) in absurd (omega (arith, h, c.requires.1))

pub returns-then-self-eq6 : goal.returns-then-self-eq6
returns-then-self-eq6 c = next_full c.requires.0 c.requires.1 c.if-self-eq6.true

pub bounds-preds-at : goal.bounds-preds-at
bounds-preds-at c = let a = c.args in let h = is_block a.to a.blocks _ (sym c.new.ensures ∙ c.in_ok-b.was) in omega (arith, h.0, c.at.ensures, c.requires.1, c.requires.2)

pub returns-then-preds-at-ne1 : goal.returns-then-preds-at-ne1
returns-then-preds-at-ne1 c = let a = c.args in let h = is_block a.to a.blocks _ (sym c.new.ensures ∙ c.in_ok-b.was) in next_many c.requires.0 c.requires.1 c.if-self-eq6.false (c.at.ensures ∙ sym h.0) c.if-preds-at-ne1.true

pub returns-then-has : goal.returns-then-has
returns-then-has c = let a = c.args in let h = is_block a.to a.blocks _ (sym c.new.ensures ∙ c.in_ok-b.was) in next_twice c.requires.0 c.requires.1 c.if-self-eq6.false (sym h.0) c.has.ensures c.if-has.true

pub returns : goal.returns
returns c = let a = c.args in let h = is_block a.to a.blocks _ (sym c.new.ensures ∙ c.in_ok-b.was) in next_on c.requires.0 c.requires.1 c.if-self-eq6.false _ (c.at.ensures ∙ sym h.0) c.if-preds-at-ne1.false (sym h.0) c.has.ensures c.if-has.false c.with.ensures.0 c.with.ensures.1
