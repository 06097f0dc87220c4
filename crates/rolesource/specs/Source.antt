-- The table of roles as source text, printed from the list of kinds; or, where a line of the list cannot stand, its number. Assumes
-- nothing.
use Rattle.std.specs.Prelude.{Bool, true, false, cond, List, [], ◌∷◌, ◌++◌, map, ℕ, ◌+◌, ◌*◌, ◌/◌, ◌%◌, eqb, get_or, codes}
use Rattle.std.specs.Str.{bytes_eq}
use Rattle.std.specs.Fmt.{decimal}
use Rattle.words.specs.Lists.{concat, range, upto}
use Rattle.rolelist.specs.Text.{line, lines, word}
use Rattle.rolelist.specs.Line.{digit, slots_at, shape_of, arm_of, allowed, is_note}
use Rattle.rolelist.specs.Listed.{unread}

abbrev pub bit : Bool → ℕ
bit true = 1
bit false = 0

abbrev pub hex : ℕ → ℕ
hex n = get_or (codes "0123456789abcdef") (n % 16) 48

-- the digits of a word of the table, the highest first: the arm and whether the kind is quiet; successors, list and whether the form
-- is allowed; the slots from the last to the first
abbrev pub digits : ℕ → List ℕ → List ℕ
digits f l =
    (arm_of l / 16 + 2 * bit (bytes_eq (word 6 l) (codes "quiet"))) ∷ arm_of l ∷ (shape_of l % 4 + 4 * bit (bytes_eq (word 3 l) (codes "list")) + 8 * bit (allowed f l))
    ∷ map (λ s. digit (get_or (slots_at f l) s 45)) (4 ∷ 3 ∷ 2 ∷ 1 ∷ 0 ∷ [])

-- the word of the form f, a digit
unfoldable pub cell : ℕ → List ℕ → List ℕ
cell f l = codes " 0x" ++ map hex (digits f l) ++ codes ","

-- what is printed for a line: of a kind the line itself as a comment, then its words at forms 0 to 6 and at any other
unfoldable pub row : List ℕ → List ℕ
row l = cond (is_note l) [] (codes "    // " ++ l ++ codes "\n   " ++ concat (map (λ f. cell f l) (range 48 8)) ++ codes "\n")

-- what stands before the rows
abbrev pub heading : List ℕ
heading =
    codes "// The table of roles: of each kind eight words, for forms 0 to 6 and for any other. Printed by rolesource from its list of kinds,\n"
    ++ codes "// crates/rolesource/stdin, whose lines stand here as comments; `make roles` prints it anew. The digits of a word, from the right: one\n"
    ++ codes "// for each of five slots, the first slot first (0 nothing, 1 read, 2 written, 5 and 6 the same where it may be absent); how the\n"
    ++ codes "// successors lie (0 none, 1 as in a Br, 2 as in a CondBr, 3 as in a Case), and to that 4 for a list and 8 where the form is allowed;\n"
    ++ codes "// two for the arm of 000's `analyse`, and to these 20 where the kind stands in `writes_nothing`.\n"
    ++ codes "pub(crate) const ROWS: [u32; 808] = [\n"

abbrev pub table : List ℕ → List ℕ
table t = heading ++ concat (map (λ n. row (line n t)) (upto (lines t))) ++ codes "];\n"

-- what comes of a list: the table, or one line
unfoldable pub source : List ℕ → List ℕ
source t = cond (eqb (unread t) 0) (table t) (codes "unread " ++ decimal (unread t) ++ codes "\n")
