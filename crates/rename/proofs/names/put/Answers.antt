-- `rename::names::put` meets its contract. Assumes nothing.
use borrow.Author.Rules.{rules}
use mathlib.Core.Path.{◌∙◌}
use Rattle.inst.specs.Index.{word_of}
use Rattle.rename.proofs.Naming.{put_is}
use Rattle.rename.proofs.names.put.Goals as goal

pub returns : goal.returns
returns c =
    let a = c.args in
    c.change.ensures (λ v. a.nw) (record { made = λ x y h. search rules }) ∙ put_is a.names.now (word_of a.r) a.nw
