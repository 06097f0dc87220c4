-- A word a register, changed at each register that an instruction writes. Assumes nothing.
use Rattle.std.specs.Prelude.{◌≡◌, Bool, cond, List, ℕ, ◌<◌, eqb, get_or, length, set}
use Rattle.words.specs.Lists.{mem}
use Rattle.model.specs.Picture.{Inst, writes, absent}

-- f at register w, if that is one
unfoldable pub put_in : (ℕ → ℕ) → ℕ → List ℕ → List ℕ
put_in f w words = cond (eqb w absent) words (set words w (f (get_or words w 0)))

unfoldable pub settle : (ℕ → ℕ) → Bool → ℕ → ℕ
settle f b v = cond b (f v) v

-- g says what comes of a word, as `post` does
pub record Makes (post : ℕ → ℕ → Type 0) (g : ℕ → ℕ) : Type 0 where
  pub made : (x y : ℕ) → post x y → y ≡ g x

-- f at each register that i writes
pub record Written (f : ℕ → ℕ) (i : Inst) (before after : List ℕ) : Type 0 where
  pub size : length after ≡ length before
  pub each : (r : ℕ) → r < length before → get_or after r 0 ≡ settle f (mem r (writes i)) (get_or before r 0)
