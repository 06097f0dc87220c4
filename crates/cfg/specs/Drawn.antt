-- The picture that these lists make. `model`'s definitions on the graph read no other field, so the others are empty here:
-- proofs/Whole has, for a whole picture, that they say the same of it. Assumes nothing.
use Rattle.std.specs.Prelude.{List, [], ℕ}
use Rattle.model.specs.Picture.{Picture}

abbrev pub drawn : List ℕ → List ℕ → List ℕ → List ℕ → List ℕ → Picture
drawn bounds recs ops pairs targets =
    record { bounds = bounds; recs = recs; locs = []; vias = []; types = []; regs = 0; ops = ops; opers = 0; pairs = pairs; targets = targets; replay = [] }
