-- `begin::begin` meets its contract. Assumes nothing.
use borrow.Author.Rules.{rules}
use mathlib.Core.Path.{◌≡◌, refl, sym, ◌∙◌}
use native.Mathlib.Omega.{arith}
use lib.ListN.{length, take, replicate}
use lib.Seq.{length-take-le}
use Rattle.search.proofs.Start.{rooms, few_lent, few_blocks, regs_room, rows_ask, rest_room, facts_ask, preds_ask, began}
use Rattle.search.proofs.begin.begin.Goals as goal

pub at_regs-a-requires : goal.at_regs-a-requires
at_regs-a-requires c = let k = c.requires in (few_blocks k, few_lent k)

pub at_preds-p-requires : goal.at_preds-p-requires
at_preds-p-requires c = few_lent c.requires

pub split_at_mut-rows-requires : goal.split_at_mut-rows-requires
split_at_mut-rows-requires c = omega (arith, regs_room c.requires c.at_regs-a.ensures.0)

pub slice_bounds-words-end : goal.slice_bounds-words-end
slice_bounds-words-end c = rest_room c.requires _ c.at_regs-a.ensures.0 c.split_at_mut-rows.ensures.back_len

pub slice_bounds-words-end-2 : goal.slice_bounds-words-end-2
slice_bounds-words-end-2 c =
    let rest = c.split_at_mut-rows.result.1.now in
    sym (length-take-le c.args.s.lent rest (rest_room c.requires rest c.at_regs-a.ensures.0 c.split_at_mut-rows.ensures.back_len))

pub all_rows-requires : goal.all_rows-requires
all_rows-requires c = rows_ask c.requires _ refl c.at_regs-a.ensures.0 c.split_at_mut-rows.ensures.front_len

pub find_facts-requires : goal.find_facts-requires
find_facts-requires c =
    let zeros : c.fill.new.self ≡ replicate (length (take c.args.s.lent c.split_at_mut-rows.result.1.now)) 0 = search rules in
    facts_ask c.requires _ zeros c.all_rows.ensures.writers

pub find_preds-requires : goal.find_preds-requires
find_preds-requires c = preds_ask c.requires _ c.at_preds-p.ensures

pub slice_bounds-find_preds-end : goal.slice_bounds-find_preds-end
slice_bounds-find_preds-end c = let k = c.requires in let r = rooms k in omega (arith, r.few_blocks, r.few_lent, r.room32, c.at_preds-p.ensures)

pub returns : goal.returns
returns c =
    let k = c.requires in
    let a = c.at_regs-a.ensures.0 in
    let parts = c.split_at_mut-rows.ensures in
    let rest = c.split_at_mut-rows.result.1.now in
    began k rest a c.at_preds-p.ensures refl (c.all_rows.ensures.bits_len_unchanged ∙ parts.front_len) parts.back_len
    (c.all_rows.auto.writers ∙ c.fill.auto.self ∙ length-take-le c.args.s.lent rest (rest_room k rest a parts.back_len))
    c.all_rows.ensures.by_index c.find_facts.ensures c.work32-1.given.0 c.find_preds.ensures
