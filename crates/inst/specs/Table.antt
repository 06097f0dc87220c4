-- 01, "the roles of all 101 kinds become a fixed table": what `model`'s Kinds says of a kind at a form, in numbers, and in one word;
-- the fields of such a word; and what the printed table is to be. Assumes nothing.
use Rattle.std.specs.Prelude.{◌≡◌, Bool, true, false, cond, ◌&&◌, List, [], ◌∷◌, map, ℕ, ◌+◌, ◌*◌, ◌/◌, ◌%◌, ◌^◌, ◌<◌, eqb, leb, get_or}
use Rattle.model.specs.Kinds.{Kind, Br, CondBr, Case, Role, off, wr, rd, wr?, rd?, Arm, const, constF, addr_of, move, select, truth, bin, index, check, dopeLen, load, alloc, layout_of, signal, fills, store, cat, native, stops, deref, writes, other, row, kind_of, place, at_form}

-- ---- numbers

-- a role's: the lowest bit says that the slot is read, the next that it is written, the third that it may be absent
abbrev pub role_code : Role → ℕ
role_code off = 0
role_code rd = 1
role_code wr = 2
role_code rd? = 5
role_code wr? = 6

-- the lower two of these bits: what a role does
abbrev pub does : Role → ℕ
does off = 0
does rd = 1
does wr = 2
does rd? = 1
does wr? = 2

-- an arm's
abbrev pub arm_code : Arm → ℕ
arm_code const = 0
arm_code constF = 1
arm_code addr_of = 2
arm_code move = 3
arm_code select = 4
arm_code truth = 5
arm_code bin = 6
arm_code index = 7
arm_code check = 8
arm_code dopeLen = 9
arm_code load = 10
arm_code alloc = 11
arm_code layout_of = 12
arm_code signal = 13
arm_code fills = 14
arm_code store = 15
arm_code cat = 16
arm_code native = 17
arm_code stops = 18
arm_code deref = 19
arm_code writes = 20
arm_code other = 21

-- and back
abbrev pub arms : List Arm
arms =
    const ∷ constF ∷ addr_of ∷ move ∷ select ∷ truth ∷ bin ∷ index ∷ check ∷ dopeLen ∷ load ∷ alloc ∷ layout_of ∷ signal ∷
    fills ∷ store ∷ cat ∷ native ∷ stops ∷ deref ∷ writes ∷ other ∷ []

abbrev pub arm_at : ℕ → Arm
arm_at n = get_or arms n other

-- how the successors lie: 0 none, 1 as in a Br, 2 as in a CondBr, 3 as in a Case
abbrev pub shape_code : Kind → ℕ
shape_code k = cond (eqb (place k) (place Br)) 1 (cond (eqb (place k) (place CondBr)) 2 (cond (eqb (place k) (place Case)) 3 0))

abbrev pub bit : Bool → ℕ
bit true = 1
bit false = 0

-- ---- a kind at a form as one word: five slots of 4 bits, successors 2, list 1, allowed 1, arm 5, quiet 1

-- the five slots
abbrev pub pack : List Role → ℕ
pack os =
    role_code (get_or os 0 off) + 16 * role_code (get_or os 1 off) + 256 * role_code (get_or os 2 off) + 4096 * role_code (get_or os 3 off)
    + 65536 * role_code (get_or os 4 off)

-- is the form one that a record of the kind may have?
abbrev pub allowed_at : Kind → ℕ → Bool
allowed_at k f = leb (row k).least f && leb f (row k).most

unfoldable pub packed : Kind → ℕ → ℕ
packed k f =
    pack (map (at_form f) (row k).slots) + 1048576 * shape_code k + 4194304 * bit (row k).list + 8388608 * bit (allowed_at k f)
    + 16777216 * arm_code (row k).arm + 536870912 * bit (row k).quiet

-- its fields
abbrev pub uses : ℕ → ℕ
uses x = x % 1048576

abbrev pub shape : ℕ → ℕ
shape x = x / 1048576 % 4

abbrev pub has_list : ℕ → Bool
has_list x = eqb (x / 4194304 % 2) 1

abbrev pub allowed : ℕ → Bool
allowed x = eqb (x / 8388608 % 2) 1

abbrev pub arm : ℕ → ℕ
arm x = x / 16777216 % 32

abbrev pub quiet : ℕ → Bool
quiet x = eqb (x / 536870912 % 2) 1

-- of five slots what slot k does, and with it whether it may be absent
abbrev pub two_bits : ℕ → ℕ → ℕ
two_bits m k = m / 2 ^ (4 * k) % 4

abbrev pub three_bits : ℕ → ℕ → ℕ
three_bits m k = m / 2 ^ (4 * k) % 8

-- ---- the table

-- each kind has eight words, for forms 0 to 6 and for any other, and each is what the rule gives
abbrev pub Printed : List ℕ → Type 0
Printed words = (w f : ℕ) → w < 101 → f < 8 → get_or words (8 * w + f) 0 ≡ packed (kind_of w) f
