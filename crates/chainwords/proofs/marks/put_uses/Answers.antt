-- `chainwords::marks::put_uses` meets its contract. Assumes nothing.
use mathlib.Core.Path.{sym}
use native.Mathlib.Omega.{arith}
use lib.Seq.{length-take-le}
use Rattle.chainwords.proofs.Using.{used_none, plan_room, legible, readers_room, use_asked, used_parts}
use Rattle.chainwords.proofs.marks.put_uses.Goals as goal

pub returns-then-mv-eq0 : goal.returns-then-mv-eq0
returns-then-mv-eq0 c = used_none c.if-mv-eq0.true

pub find_readers-requires-clause-chain : goal.find_readers-requires-clause-chain
find_readers-requires-clause-chain c = legible c.requires.planning

pub find_readers-requires-clause-room : goal.find_readers-requires-clause-room
find_readers-requires-clause-room c = readers_room c.requires.planning

pub split_at_mut-words-requires : goal.split_at_mut-words-requires
split_at_mut-words-requires c = let f = (plan_room c.requires.planning).words32 in omega arith

pub slice_bounds-asked-end : goal.slice_bounds-asked-end
slice_bounds-asked-end c = let f = plan_room c.requires.planning in omega (arith, f.words32, f.lent, c.split_at_mut-words.ensures.back_len)

pub slice_bounds-asked-end-2 : goal.slice_bounds-asked-end-2
slice_bounds-asked-end-2 c =
    let f = plan_room c.requires.planning in
    let parts = c.split_at_mut-words in
    sym (length-take-le c.args.body.now.sizes.regs parts.result.1.now (omega (arith, f.words32, f.lent, parts.ensures.back_len)))

pub put_lasts-requires : goal.put_lasts-requires
put_lasts-requires c =
    let p = c.requires in
    let f = plan_room p.planning in
    let parts = c.split_at_mut-words in
    let long = length-take-le c.args.body.now.sizes.regs parts.result.1.now (omega (arith, f.words32, f.lent, parts.ensures.back_len)) in
    (use_asked p.planning c.at.ensures c.width.ensures c.find_readers.ensures.1 long parts.ensures.front (p.numbered c.if-mv-eq0.false), p.planning.in_x)

pub returns : goal.returns
returns c =
    let parts = c.split_at_mut-words.ensures in
    let found = c.find_readers.ensures in
    used_parts c.requires.planning c.at.ensures c.width.ensures found.1 parts.front parts.back found.0 c.put_lasts.ensures c.if-mv-eq0.false
