-- `summary::stamps::put` meets its contract. Assumes nothing.
use borrow.Author.Rules.{rules}
use mathlib.Core.Path.{◌∙◌}
use Rattle.inst.specs.Index.{word_of}
use Rattle.summary.specs.Passes.{over}
use Rattle.summary.proofs.Stamping.{put_is}
use Rattle.summary.proofs.stamps.put.Goals as goal

pub returns : goal.returns
returns c =
    let d = c.args.d in
    c.change.ensures (over d.keep d.lo d.v) (record { made = λ x y h. search rules }) ∙ put_is d.keep d.lo d.v (word_of c.args.r) c.args.st.now
