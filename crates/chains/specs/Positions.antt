-- The positions of a chain as an iterator: what is left of them. Assumes nothing.
use Rattle.std.specs.Prelude.{List, [], ℕ}
use Rattle.model.specs.Picture.{Picture}
use Rattle.chains.specs.declared.positions.Positions.{Positions}
use Rattle.chains.specs.Chain.{blocks_of}
use Rattle.chains.specs.Cursor.{left_of}

-- a picture of these bounds: positions are told by the bounds alone
abbrev pub bounded : List ℕ → Picture
bounded bounds = record { bounds = bounds; recs = []; locs = []; vias = []; types = []; regs = 0; ops = []; opers = 0; pairs = []; targets = []; replay = [] }

abbrev pub left : Positions → List ℕ
left s = left_of (bounded s.bounds.now) (blocks_of s.chain) s.at.k s.at.g s.at.past
