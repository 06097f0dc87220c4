-- 01, "A round", the facts on registers: as flags, and from the only writer of a register as a number. Assumes nothing.
use Rattle.std.specs.Prelude.{◌≡◌, Bool, false, cond, List, map, ℕ, zero, suc, ◌+◌, ◌*◌, ◌/◌, ◌%◌, ◌≤◌, ◌<◌, eqb, get_or, length, Option, Some}
use Rattle.words.specs.Lists.{mem, filter, upto}
use Rattle.model.specs.Picture.{inst, writes}
use Rattle.model.specs.Analyse.{Known, unknown, known, from_writers, Facts, known_of, when_some, small, positive}
use Rattle.inst.specs.declared.constant.Constant.{Constant}
use Rattle.inst.specs.declared.constant.Constant.TheVariants.{Whole}
use Rattle.effects.specs.Origin.{num}
use Rattle.defuse.specs.Writers.{many}

-- read-only 1, frame 2, a length 4, above zero 8
unfoldable pub flags_of : Known → ℕ
flags_of k = num k.ro + 2 * num k.frame + 4 * num (when_some small k.konst) + 8 * num (when_some positive k.konst)

-- where a register with these flags points, as an origin's number
unfoldable pub origin_in : ℕ → ℕ
origin_in f = cond (eqb (f % 2) 1) 1 (cond (eqb (f / 2 % 2) 1) 3 0)

-- a constant that is a length
unfoldable pub is_length : Option Constant → Bool
is_length (Some (Whole z)) = small z
is_length c = false

-- of a constant
unfoldable pub flags_in : Option Constant → ℕ
flags_in (Some (Whole z)) = 4 * num (small z) + 8 * num (positive z)
flags_in c = 0

-- what is known of a register whose only writer is v
unfoldable pub sole_of : List ℕ → ℕ → Known
sole_of recs zero = unknown
sole_of recs (suc q) = cond (eqb (suc q) many) unknown (known (inst recs q))

-- as `facts` of the model gives it for n records
unfoldable pub known_from : List ℕ → ℕ → ℕ → Known
known_from recs n r = from_writers (filter (λ i. mem r (writes i)) (map (inst recs) (upto n)))

-- K words of flags, from n records
pub record Found (recs : List ℕ) (n K : ℕ) (words : List ℕ) : Type 0 where
  pub size : length words ≡ K
  pub each : (r : ℕ) → r < K → get_or words r 0 ≡ flags_of (known_from recs n r)

-- the flags in the words of the first R registers stand for the facts G
pub record Seen (G : Facts) (R : ℕ) (words : List ℕ) : Type 0 where
  pub size : length G ≤ R
  pub flags : (r : ℕ) → r < R → get_or words r 0 % 16 ≡ flags_of (known_of G r)
