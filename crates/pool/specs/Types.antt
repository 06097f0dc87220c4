-- 01, "The move", new registers: their types, written behind those in use. Assumes nothing.
use Rattle.std.specs.Prelude.{◌≡◌, List, ◌++◌, ℕ, ◌*◌, ◌≤◌, ◌<◌, eqb, get_or, length, take, drop}
use Rattle.pool.specs.Pool.{grow_if, typed, new_at, wrote_at}

-- ts, and behind it what T has there
abbrev pub over : List ℕ → List ℕ → List ℕ
over ts T = ts ++ drop (length ts) T

-- what stands after one was added, by the register d that was written and the one that was given
pub record TypeAdded (n d reg : ℕ) (xs ys : List ℕ) (r : ℕ) : Type 0 where
  pub size : length ys ≡ length xs
  pub step : (ts T : List ℕ) → xs ≡ over ts T → length ts ≡ n
      → (ys ≡ over (grow_if (eqb reg n) ts (get_or xs d 0)) T) × (r ≡ length (grow_if (eqb reg n) ts (get_or xs d 0)))

-- what is asked: the words of m positions, R registers in use, and room for all types
pub record TypesFit (R m : ℕ) (T w : List ℕ) : Type 0 where
  pub regs : R ≤ length T
  pub size : 10 * m ≤ length w
  pub wrote_ok : (p : ℕ) → p < m → new_at w p < 1048576 → wrote_at w p < R
  pub small : length T < 1048576
  pub fit : length (typed T w m (take R T)) ≤ length T
