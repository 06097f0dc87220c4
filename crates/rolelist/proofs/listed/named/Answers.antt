-- `listed::named` meets its contract: what `any` answers of the lines before. Assumes nothing.
use Rattle.std.proofs.Common.{◌∙◌, ap, refl, arith, rules, ℕ, List}
use Rattle.std.proofs.lemmas.Iterator.{YieldsList-from_range}
use Rattle.std.proofs.lemmas.Iterator.Search.{any_from_yields_List}
use borrow.Author.Tests.{tests}
use Rattle.words.specs.Lists.{any, upto}
use Rattle.rolelist.specs.Text.{word}
use Rattle.rolelist.specs.Listed.{named}
use Rattle.rolelist.proofs.Listing.{any_from, has_name}
use Rattle.rolelist.proofs.listed.named.Goals as goal

pub returns : goal.returns
unfolding named
returns c =
    let t = c.args.list.now in
    let n = c.args.n in
    let name = c.word-name.result.now in
    any_from_yields_List (has_name t name) _ _ c.any.result c.any.ensures.ran (YieldsList-from_range 0 n n refl (omega arith)) (λ x b q k. search (rules, tests))
    ∙ any_from (has_name t name) 0 n ∙ ap (λ (w : List ℕ). any (has_name t w) (upto n)) (c.word-name.ensures ∙ ap (word 1) c.line.ensures)
