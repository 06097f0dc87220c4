-- How a record's successors lie, by the field of its kind's row. Assumes nothing.
use Rattle.std.specs.Prelude.{ℕ, zero, suc}
use Rattle.inst.specs.declared.table.Shape.{Shape}
use Rattle.inst.specs.declared.table.Shape.TheVariants.{Stops, Goes, Parts, Cases}

abbrev pub shape_of : ℕ → Shape
shape_of zero = Stops
shape_of (suc zero) = Goes
shape_of (suc (suc zero)) = Parts
shape_of (suc (suc (suc n))) = Cases
