-- `legality::rules::rule1` meets its contract. Assumes nothing.
use borrow.Author.Rules.{rules}
use borrow.Author.Tests.{not-true}
use mathlib.Core.Path.{ap, ◌∙◌}
use Prim.Native.Nat.{ℕ}
use lib.Dec.{leb}
use lib.ListN.{get_or}
use Rattle.words.specs.Lists.{all}
use Rattle.summary.proofs.Wording.{def_all}
use Rattle.legality.proofs.rules.rule1.Goals as goal

pub def_free-requires : goal.def_free-requires
def_free-requires c = c.requires.fits.room

pub returns-then-not-f : goal.returns-then-not-f
returns-then-not-f c =
    let a = c.args in
    c.def_free.ensures ∙ ap (all (λ (x : ℕ). leb (get_or a.st.now x 0) 1023)) (def_all a.f c.requires (not-true _ c.if-not-f.true))

pub slots-requires : goal.slots-requires
slots-requires c = c.requires.known

pub all_written-requires-clause-fits : goal.all_written-requires-clause-fits
all_written-requires-clause-fits c = rw (c.slots.ensures.recs, c.slots.ensures.place) c.requires.fits

pub returns : goal.returns
returns c =
    rw (c.slots.ensures.recs, c.slots.ensures.place) at
    (c.all_written.ensures (λ (x : ℕ). leb (get_or c.args.st.now x 0) 1023) (record { each = λ m b h e. search rules }))
