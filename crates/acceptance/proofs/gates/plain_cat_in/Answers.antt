-- `acceptance::gates::plain_cat_in` meets its contract. Assumes nothing.
use borrow.Author.Rules.{rules}
use borrow.Author.Tests.{tests}
use mathlib.Core.Path.{refl, ◌∙◌}
use Prim.Native.Nat.{◌-◌}
use Rattle.std.proofs.lemmas.Iterator.{YieldsList-from_range}
use Rattle.std.proofs.lemmas.Iterator.Search.{any_from_yields_List}
use Rattle.model.specs.Picture.{inst}
use Rattle.checks.specs.Causes.{plain_cat}
use Rattle.acceptance.proofs.Ranges.{any_between}
use Rattle.acceptance.proofs.gates.plain_cat_in.Goals as goal

pub returns : goal.returns
returns c =
    let a = c.args in
    any_from_yields_List (λ p. plain_cat (inst a.recs.now p)) _ _ c.any.result c.any.ensures.ran (YieldsList-from_range a.a a.e (a.e - a.a) refl refl) (λ x b q k. search (rules, tests))
    ∙ any_between plain_cat a.recs.now a.a (a.e - a.a)
