-- `pool::held::Pool::release` meets its contract. Assumes nothing.
use Rattle.std.proofs.Common.{rules, refl, arith, ◌≡◌, not}
use Rattle.words.specs.Lists.{filter}
use Rattle.pool.specs.Pool.{past, held_words}
use Rattle.pool.proofs.Releases.{released_some, as_many, all_stay, went, kept_by}
use Rattle.pool.proofs.held.Pool.release.Goals as goal

stay : (c : goal.After-retain) → c.retain.new.self.items ≡ filter (λ w. not (past c.args.p w)) (held_words c.args.self.now)
stay c = kept_by _ (λ w. not (past c.args.p w)) _ (λ x b g y called. search rules) _ _ c.retain.ensures.filtered

pub invariant_of-self : goal.invariant_of-self
invariant_of-self c =
    let few = c.args.self.now.few in
    let p = c.args.p in
    let held = held_words c.args.self.now in
    record { few = omega (arith, as_many p _ _ _ _ (went p held _ _ _ c.free_past.ensures c.as_slice.ensures.value) (stay c)) }

pub returns-then-before-len : goal.returns-then-before-len
returns-then-before-len c =
    let p = c.args.p in
    let held = held_words c.args.self.now in
    released_some p c.args.self.now _ (went p held _ _ _ c.free_past.ensures c.as_slice.ensures.value) (stay c.before) refl

pub returns-else-before-len : goal.returns-else-before-len
returns-else-before-len c =
    let p = c.args.p in
    let held = held_words c.args.self.now in
    let gone = went p held _ _ _ c.free_past.ensures c.as_slice.ensures.value in
    released_some p c.args.self.now _ gone (all_stay p _ _ _ gone (omega (arith, c.if-before-len.false, c.len-before.ensures.value, c.len.ensures.value))) refl
