-- `legality::kept::rule3` meets its contract. Assumes nothing.
use borrow.Author.Rules.{rules}
use borrow.Author.Tests.{not-true}
use mathlib.Core.Path.{ap, ◌∙◌}
use lib.ListN.{length}
use Rattle.words.specs.Lists.{all}
use Rattle.summary.specs.Passes.{read_test}
use Rattle.summary.proofs.Wording.{own_among, uses_tested, uses_all}
use Rattle.legality.proofs.Testing.{place_is}
use Rattle.legality.proofs.kept.rule3.Goals as goal

pub read_ok-requires : goal.read_ok-requires
read_ok-requires c =
    (own_among c.args.f.use0 c.requires.0.good.fits.room c.new.ensures, c.requires.1)

pub read_ok-requires-then-not-f : goal.read_ok-requires-then-not-f
read_ok-requires-then-not-f c =
    (own_among c.args.f.use1 c.requires.0.good.fits.room c.new-then-not-f.ensures, c.requires.1)

pub returns-then-not-f : goal.returns-then-not-f
returns-then-not-f c =
    let a = c.args in
    let test = read_test a.st.now a.p in
    uses_tested a.f (length a.st.now) test c.new.ensures c.new-then-not-f.ensures
    (place_is _ _ _ c.read_ok.ensures) (place_is _ _ _ c.read_ok-then-not-f.ensures)
    ∙ ap (all test) (uses_all a.f c.requires.0 (not-true _ c.if-not-f.true))

pub all_read-requires-clause-good : goal.all_read-requires-clause-good
all_read-requires-clause-good c = c.requires.0.good

pub returns : goal.returns
returns c =
    let a = c.args in
    c.all_read.ensures (read_test a.st.now a.p) (record { each = λ m b h e. place_is _ _ _ (search rules) })
