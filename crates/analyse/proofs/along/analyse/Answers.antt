-- `analyse::along::analyse` meets its contract. Assumes nothing.
use mathlib.Core.Path.{ap, ◌∙◌, refl}
use native.Mathlib.Omega.{arith}
use lib.ListN.{length-set}
use Rattle.chains.specs.Positions.{left}
use Rattle.analyse.proofs.Chained.{chained_none, chained_more, chained_end, few_yet, learn_ready}
use Rattle.analyse.proofs.along.analyse.Goals as goal

pub loop-g-init : goal.loop-g-init
loop-g-init c = record {
  order = omega arith;
  size = c.forget.auto.regs;
  facts_size = refl;
  ran = chained_none c.requires c.forget.ensures (λ P e. ap left c.into_iter-g-iterator.ensures.into_iter_gives ∙ c.new-g-items.ensures P e);
}

pub learn_one-requires : goal.learn_one-requires
learn_one-requires c = learn_ready c.requires c.loop-g.invariant.ran c.in-Some.ensures.steps

pub bounds-facts-p : goal.bounds-facts-p
bounds-facts-p c =
    let few = few_yet c.requires c.loop-g.invariant.ran c.in-Some.ensures.steps in
    omega (arith, few, c.requires.room, c.loop-g.invariant.facts_size)

pub loop-g-preserved : goal.loop-g-preserved
loop-g-preserved c =
    let i = c.loop-g in
    let few = few_yet c.requires i.invariant.ran c.in-Some.ensures.steps in
    record {
      order = omega (arith, few);
      size = c.learn_one.auto.regs ∙ i.invariant.size;
      facts_size = length-set i.facts i.p c.learn_one.result ∙ i.invariant.facts_size;
      ran = chained_more c.requires i.facts i.invariant.ran c.in-Some.ensures.steps c.learn_one.result i.invariant.facts_size c.learn_one.ensures;
    }

pub returns : goal.returns
returns c = chained_end c.requires c.forget.ensures c.loop-g.invariant.ran c.in-None.ensures.steps.0
