-- 01, "The move": block bounds after it. A stretch of words goes down or up by the number of members. Assumes nothing.
use Rattle.std.specs.Prelude.{◌≡◌, List, map, ℕ, ◌+◌, ◌-◌, ◌*◌, ◌≤◌, ◌<◌, length, get_or, take, drop}

abbrev pub part : ℕ → ℕ → List ℕ → List ℕ
part a n w = take n (drop a w)

-- the words from lo to k are f of what they were
pub record Mapped (f : ℕ → ℕ) (lo : ℕ) (xs ys : List ℕ) (k : ℕ) : Type 0 where
  pub size : length ys ≡ length xs
  pub front : take lo ys ≡ take lo xs
  pub mid : part lo (k - lo) ys ≡ map f (part lo (k - lo) xs)
  pub back : drop k ys ≡ drop k xs

-- bounds after c instructions went from block x to block t
pub record Shifted (x t c : ℕ) (xs ys : List ℕ) : Type 0 where
  pub size : length ys ≡ length xs
  pub later : x < t → Mapped (λ w. w - c) (2 * x + 1) xs ys (2 * t + 1)
  pub earlier : t < x → Mapped (λ w. w + c) (2 * t + 1) xs ys (2 * x + 1)

pub record ShiftAsk (x t c : ℕ) (xs : List ℕ) : Type 0 where
  pub other : x ≡ t → ⊥
  pub x_in : 2 * x + 1 < length xs
  pub t_in : 2 * t + 1 < length xs
  pub enough : (k : ℕ) → 2 * x + 1 ≤ k → k < 2 * t + 1 → c ≤ get_or xs k 0
  pub small : (k : ℕ) → 2 * t + 1 ≤ k → k < 2 * x + 1 → get_or xs k 0 + c < 4294967296
