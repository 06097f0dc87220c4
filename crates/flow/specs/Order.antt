-- The order in which a sweep takes the blocks. Assumes nothing.
use Rattle.std.specs.Prelude.{ℕ, ◌-◌}
use Rattle.flow.specs.declared.live.Order.{Order}
use Rattle.flow.specs.declared.live.Order.TheVariants.{Down, Up}

-- the k-th of n blocks
abbrev pub kth : Order → ℕ → ℕ → ℕ
kth Down k n = n - 1 - k
kth Up k n = k
