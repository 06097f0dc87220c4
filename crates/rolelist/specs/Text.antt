-- A text cut into lines, and a line into words. Assumes nothing.
use Rattle.std.specs.Prelude.{cond, List, [], ◌∷◌, ℕ, zero, suc, eqb}

-- what stands before the first b, and after it
unfoldable pub before : ℕ → List ℕ → List ℕ
before b [] = []
before b (x ∷ xs) = cond (eqb x b) [] (x ∷ before b xs)

unfoldable pub after : ℕ → List ℕ → List ℕ
after b [] = []
after b (x ∷ xs) = cond (eqb x b) xs (after b xs)

-- what is left behind the bs that stand at the head
unfoldable pub past : ℕ → List ℕ → List ℕ
past b [] = []
past b (x ∷ xs) = cond (eqb x b) (past b xs) (x ∷ xs)

-- line n of a text, from 0; byte 10 ends a line
unfoldable pub line : ℕ → List ℕ → List ℕ
line zero t = before 10 t
line (suc n) t = line n (after 10 t)

-- how many lines end
unfoldable pub lines : List ℕ → ℕ
lines [] = 0
lines (x ∷ xs) = cond (eqb x 10) (suc (lines xs)) (lines xs)

-- word k of a line, from 0; spaces stand between words. It is empty where the line has fewer
unfoldable pub word : ℕ → List ℕ → List ℕ
word zero l = before 32 (past 32 l)
word (suc k) l = word k (after 32 (past 32 l))
