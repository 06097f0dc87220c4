-- 01, "The call": `model`'s picture from what is lent. Assumes nothing.
use Rattle.std.specs.Prelude.{List, ℕ}
use Rattle.model.specs.Picture.{Picture}
use Rattle.checks.specs.Causes.{picture_of}
use Rattle.acceptance.specs.declared.lent.Lent.{Lent}

-- with this replay
abbrev pub picture : Lent → List ℕ → Picture
picture l replay = picture_of l.bounds.now l.recs.now l.locs.now l.vias.now l.types.now l.used.regs l.ops.now l.used.opers l.pairs.now l.targets.now replay
