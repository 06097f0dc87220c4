-- `lastuse::uses::last_readers` meets its contract. Assumes nothing.
use borrow.Author.Rules.{rules}
use mathlib.Core.Logic.{inl}
use mathlib.Core.Path.{refl, ap, ◌∙◌}
use native.Mathlib.Omega.{arith}
use Rattle.std.specs.Iterator.Adapters.{enumerate_source, enumerate_count}
use Rattle.chains.specs.Positions.{left}
use Rattle.lastuse.proofs.Going.{cleared, going_none, few_places, legible_on, going_size, read_ready, going_more, going_end}
use Rattle.lastuse.proofs.uses.last_readers.Goals as goal

pub loop-q-init : goal.loop-q-init
loop-q-init c =
    let i = c.into_iter-q-iterator.ensures.into_iter_gives in
    let n = ap enumerate_count i ∙ c.enumerate-q-items.ensures.count in
    rw n (going_none _ _ _ refl (cleared c.args.st.now (search rules)).1 c.requires.1 c.requires.2
    (λ P e. ap (λ s. left (enumerate_source s)) i ∙ ap left c.enumerate-q-items.ensures.source ∙ c.new.ensures P e))

pub loop-q-init-derived : goal.loop-q-init-derived
loop-q-init-derived c =
    let i = c.into_iter-q-iterator.ensures.into_iter_gives in
    let n = ap enumerate_count i ∙ c.enumerate-q-items.ensures.count in
    let few = few_places c.requires.0 (λ P e. ap (λ s. left (enumerate_source s)) i ∙ ap left c.enumerate-q-items.ensures.source ∙ c.new.ensures P e) in
    ((tt, tt, inl (omega (arith, n, few))), tt)

pub read_on-requires : goal.read_on-requires
read_on-requires c =
    let y = legible_on c.requires.0 c.fill.ensures.len in
    let r = read_ready _ y c.loop-q.invariant c.in-Some.ensures.steps.0 in
    (r.0, r.1, r.2, rw c.in-Some.ensures.steps.1 r.3)

pub loop-q-preserved : goal.loop-q-preserved
loop-q-preserved c =
    let y = legible_on c.requires.0 c.fill.ensures.len in
    let s = c.in-Some.ensures.steps in
    rw s.2 (going_more _ y c.loop-q.invariant s.0 (rw s.1 at c.read_on.ensures))

pub returns : goal.returns
returns c =
    let y = legible_on c.requires.0 c.fill.ensures.len in
    (going_end _ y c.loop-q.invariant c.in-None.ensures.steps.0.0, going_size _ y c.loop-q.invariant ∙ c.fill.ensures.len)
