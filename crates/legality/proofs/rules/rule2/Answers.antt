-- `legality::rules::rule2` meets its contract. Assumes nothing.
use borrow.Author.Tests.{not-true}
use mathlib.Core.Path.{ap, ◌∙◌}
use lib.ListN.{length}
use Rattle.words.specs.Lists.{all}
use Rattle.summary.specs.Passes.{result_test}
use Rattle.summary.proofs.Wording.{own_among, def_tested, def_all}
use Rattle.legality.proofs.rules.rule2.Goals as goal

pub unneeded-requires : goal.unneeded-requires
unneeded-requires c =
    (own_among c.args.f.def c.requires.0.fits.room c.new.ensures, c.requires.1, c.requires.2)

pub returns-then-not-f : goal.returns-then-not-f
returns-then-not-f c =
    let a = c.args in
    let test = result_test a.asked.now.regs.now a.asked.now.bits.now a.asked.now.at a.p in
    def_tested a.f (length a.asked.now.regs.now) test c.new.ensures c.unneeded.ensures ∙ ap (all test) (def_all a.f c.requires.0 (not-true _ c.if-not-f.true))

pub slots-requires : goal.slots-requires
slots-requires c = c.requires.0.known

pub unneeded_slots-requires : goal.unneeded_slots-requires
unneeded_slots-requires c = (rw (c.slots.ensures.recs, c.slots.ensures.place) c.requires.0.fits, c.requires.1, c.requires.2)

pub returns : goal.returns
returns c = rw (c.slots.ensures.recs, c.slots.ensures.place) at c.unneeded_slots.ensures
