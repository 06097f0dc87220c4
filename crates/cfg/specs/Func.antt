-- The graph that the lists of a `Func` make. Assumes nothing.
use Rattle.std.specs.Prelude.{[], ℕ, ◌/◌, length}
use Rattle.model.specs.Picture.{Picture}
use Rattle.cfg.specs.declared.graph.Func.{Func}
use Rattle.cfg.specs.Drawn.{drawn}

-- how many blocks there are
abbrev pub blocks_of : Func → ℕ
blocks_of f = length f.bounds.now / 2

-- the picture: the graph has no operands
abbrev pub drawn_of : Func → Picture
drawn_of f = drawn f.bounds.now f.recs.now [] f.pairs.now f.targets.now
