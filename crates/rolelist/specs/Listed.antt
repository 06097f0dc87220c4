-- The whole list: which of its lines is the first that cannot stand there. Assumes nothing.
use Rattle.std.specs.Prelude.{Bool, cond, not, ◌&&◌, ◌||◌, List, ℕ, zero, suc, eqb, leb, ltb, length}
use Rattle.std.specs.Str.{bytes_eq}
use Rattle.words.specs.Lists.{any, upto}
use Rattle.rolelist.specs.Text.{line, lines, word}
use Rattle.rolelist.specs.Line.{is_kind, is_note}

-- how many of the first n lines are kinds
unfoldable pub kinds : ℕ → List ℕ → ℕ
kinds zero t = 0
kinds (suc n) t = cond (is_note (line n t)) (kinds n t) (suc (kinds n t))

-- an earlier line has the name of line n
unfoldable pub named : ℕ → List ℕ → Bool
named n t = any (λ m. not (is_note (line m t)) && bytes_eq (word 1 (line m t)) (word 1 (line n t))) (upto n)

-- line n is passed over, or is the line of the kind that comes next, whose name is new
unfoldable pub stands : ℕ → List ℕ → Bool
stands n t = is_note (line n t) || ltb (kinds n t) 101 && is_kind (kinds n t) (line n t) && not (named n t)

-- of n lines from m on the first that does not stand, or else the one behind them
unfoldable pub first_bad : ℕ → ℕ → List ℕ → ℕ
first_bad m zero t = m
first_bad m (suc n) t = cond (stands m t) (first_bad (suc m) n t) m

-- it ends with its last line, has all kinds, and is no longer than there is room for
unfoldable pub complete : List ℕ → Bool
complete t = eqb (length (line (lines t) t)) 0 && eqb (kinds (lines t) t) 101 && leb (length t) 32768

-- the line that stops the reading, counted from 1, or 0 where none does
unfoldable pub unread : List ℕ → ℕ
unread t = cond (ltb (first_bad 0 (lines t) t) (lines t) || not (complete t)) (suc (first_bad 0 (lines t) t)) 0
