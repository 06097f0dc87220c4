-- The only writer of each register, as a number in a word a register (01, "A round", the facts on registers): what the words become
-- when records are noted, one after the other. Assumes nothing.
use Rattle.std.specs.Prelude.{cond, List, [], ◌∷◌, ℕ, ◌+◌, eqb, get_or, set}
use Rattle.words.specs.Steps.{steps}
use Rattle.model.specs.Picture.{inst, writes}

-- the word of a register that more than one record writes
abbrev pub many : ℕ
many = 4294967295

-- v after a write by record p: 0 none, q + 1 record q alone
unfoldable pub noted : ℕ → ℕ → ℕ
noted p v = cond (eqb v 0) (p + 1) (cond (eqb v (p + 1)) v many)

-- record p writes register r: its word is changed, if it has one
unfoldable pub note : ℕ → List ℕ → ℕ → List ℕ
note p ws r = set ws r (noted p (get_or ws r 0))

-- the records at these positions, the last one first
unfoldable pub notes : List ℕ → List ℕ → List ℕ → List ℕ
notes recs ws [] = ws
notes recs ws (p ∷ ps) = steps (note p) (notes recs ws ps) (writes (inst recs p))
