-- `legality::backward::back` meets its contract. Assumes nothing.
use Rattle.legality.proofs.backward.back.Goals as goal

pub back_known-requires : goal.back_known-requires
back_known-requires c = (c.requires.0.fits.room, c.requires.2, c.requires.3)

pub returns : goal.returns
returns c =
    let a = c.args in
    c.back_known.ensures a.code.now.recs.now a.code.now.ops.now c.requires.0 c.requires.1 c.if-f.false
