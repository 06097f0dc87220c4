-- What an instruction's arm asks: when its numbers are small. Assumes nothing.
use Rattle.std.specs.Prelude.{false, List, ℕ, ◌+◌, ◌*◌, ◌<◌, get_or}
use Rattle.effects.specs.declared.origin.Value.{Value}

-- the k-th of the values read; past them, nothing is known
abbrev pub value_at : List Value → ℕ → Value
value_at reads k = get_or reads k (record { org = 0; len = false; layout = false })

-- the position p is small, and origins are of earlier ones
pub record Small (p : ℕ) (reads : List Value) : Type 0 where
  pub place : p < 1000
  pub first : (value_at reads 0).org < 4 + 2 * p
  pub second : (value_at reads 1).org < 4 + 2 * p
