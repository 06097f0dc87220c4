-- A step for each number of a list. Assumes nothing.
use Rattle.std.specs.Prelude.{List, [], ◌∷◌, ℕ}

-- f with one number of the list after the other
unfoldable pub steps : (List ℕ → ℕ → List ℕ) → List ℕ → List ℕ → List ℕ
steps f ws [] = ws
steps f ws (r ∷ rs) = steps f (f ws r) rs
