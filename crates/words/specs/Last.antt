-- The last number below p that passes a test. Assumes nothing.
use Rattle.std.specs.Prelude.{Bool, cond, ℕ, zero, suc}

-- it and 1; 0 if there is none
unfoldable pub last_below : (ℕ → Bool) → ℕ → ℕ
last_below f zero = 0
last_below f (suc p) = cond (f p) (suc p) (last_below f p)
