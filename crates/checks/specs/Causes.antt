-- 01, "The call": `model`'s picture from what is lent, and causes 5 to 9 of the table by what each looks at. (`model`'s Refusal
-- and Pass state them of a picture; proofs/Chain of `acceptance` shows that these are the same.) Assumes nothing.
use Rattle.std.specs.Prelude.{Bool, ◌&&◌, ◌||◌, List, map, ℕ, eqb, ltb, leb, get_or, length, take}
use Rattle.words.specs.Lists.{upto, any}
use Rattle.model.specs.Kinds.{Cat}
use Rattle.model.specs.Picture.{Picture, Inst, inst, form, is_kind, slots, roles}
use Rattle.model.specs.Refusal.{bad_slots, half_part, bad_pairs}

-- bounds, records, locs, vias, types and registers in use, operands and those in use, case pairs, targets, replay
abbrev pub picture_of : List ℕ → List ℕ → List ℕ → List ℕ → List ℕ → ℕ → List ℕ → ℕ → List ℕ → List ℕ → List ℕ → Picture
picture_of bounds recs locs vias types regs ops opers pairs targets replay =
    record { bounds = bounds; recs = recs; locs = locs; vias = vias; types = types; regs = regs; ops = ops; opers = opers; pairs = pairs; targets = targets; replay = replay }

-- the first n instructions
unfoldable pub code : List ℕ → ℕ → List Inst
code recs n = map (inst recs) (upto n)

-- ---- one instruction

-- 5
unfoldable pub bad_regs : ℕ → Inst → Bool
bad_regs R i = bad_slots R (roles i) (slots i) || half_part i

-- 8
abbrev pub long_cat : Inst → Bool
long_cat i = is_kind Cat i && ltb 33 (get_or i 8 0)

-- the third gate asks for one
abbrev pub plain_cat : Inst → Bool
plain_cat i = is_kind Cat i && eqb (form i) 0

-- ---- the causes of lists and branches

-- 6: one of the records, or of the operands in use
unfoldable pub bad_lists : Bool → List ℕ → ℕ → ℕ → Bool
bad_lists lists ops opers regs = lists || any (leb regs) (take opers ops)

-- 7: one of the records, of the case targets or of the case pairs
unfoldable pub bad_targets : Bool → List ℕ → List ℕ → ℕ → Bool
bad_targets branches targets pairs blocks = branches || any (leb blocks) targets || bad_pairs (length targets) pairs

-- 9: of the types in use
unfoldable pub bad_types : List ℕ → ℕ → Bool
bad_types types regs = any (ltb 7) (take regs types)
