-- `worth::look::worth_a_look` meets its contract. Assumes nothing.
use native.Mathlib.Omega.{arith}
use Rattle.worth.proofs.Looks.{too_few, too_long, by_replay, by_cat, worth_for, worth_is}
use Rattle.worth.proofs.look.worth_a_look.Goals as goal

pub overflow_sub-e : goal.overflow_sub-e
overflow_sub-e c =
    let lo = c.start-a.ensures in
    let hi = c.past-e.ensures in
    let o = c.requires.1.order in
    omega (arith, lo, hi)

pub returns-then-e-a : goal.returns-then-e-a
returns-then-e-a c =
    let lo = c.start-a.ensures in
    let hi = c.past-e.ensures in
    let again = c.replays-again.ensures in
    let few = c.minimum.ensures in
    worth_for c.args.c c.args.x.0 lo hi again (λ n. too_few c.args.recs.now _ _ n _ few (omega (arith, c.if-e-a.true)))

pub returns-then-chain_len : goal.returns-then-chain_len
returns-then-chain_len c =
    let lo = c.start-a.ensures in
    let hi = c.past-e.ensures in
    let again = c.replays-again.ensures in
    let l = c.if-chain_len.true in
    worth_is c.args.c c.args.x.0 lo hi again c.chain_len.ensures (too_long c.args.recs.now _ _ c.chain_len.result _ (omega arith))

pub returns-then-again : goal.returns-then-again
returns-then-again c =
    let lo = c.start-a.ensures in
    let hi = c.past-e.ensures in
    let again = c.replays-again.ensures in
    let few = c.minimum.ensures in
    let l = c.if-chain_len.false in
    worth_is c.args.c c.args.x.0 lo hi again c.chain_len.ensures
    (by_replay c.args.recs.now _ _ c.chain_len.result _ few (omega (arith, c.if-e-a.false)) (omega arith) c.if-again.true)

pub plain_cat_in-requires : goal.plain_cat_in-requires
plain_cat_in-requires c =
    let lo = c.start-a.ensures in
    let hi = c.past-e.ensures in
    let few = c.if-e-a.false in
    let whole = c.requires.2 in
    (omega (arith, few), omega (arith, hi, whole))

pub returns : goal.returns
returns c =
    let lo = c.start-a.ensures in
    let hi = c.past-e.ensures in
    let again = c.replays-again.ensures in
    let few = c.minimum.ensures in
    let l = c.if-chain_len.false in
    worth_is c.args.c c.args.x.0 lo hi again c.chain_len.ensures
    (by_cat c.args.recs.now _ _ c.chain_len.result _ few (omega (arith, c.if-e-a.false)) (omega arith) c.if-again.false c.plain_cat_in.ensures)
