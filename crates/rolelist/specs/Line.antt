-- A line of the list of kinds, word by word: number, name, slots, list, successors, arm, quiet, forms, and then what forms change.
-- Words 2 and 8 on follow 001's `visit_mut`, 4 the kinds that end a block, 5 and 6 000's `analyse` and `writes_nothing`. Assumes
-- nothing.
use Rattle.std.specs.Prelude.{Bool, cond, ◌&&◌, ◌||◌, List, ℕ, zero, suc, ◌-◌, eqb, leb, ltb, get_or, length, drop, codes}
use Rattle.std.specs.Str.{bytes_eq}
use Rattle.std.specs.Fmt.{decimal}
use Rattle.words.specs.Lists.{all, any, range}
use Rattle.rolelist.specs.Text.{word}

-- ---- a slot's letter: not visited, read, written, read or absent, written or absent; and the digit that stands for it in the table

abbrev pub is_slot : ℕ → Bool
is_slot c = any (eqb c) (codes "-rwRW")

-- the lowest bit says that the slot is read, the next that it is written, the third that it may be absent
abbrev pub digit : ℕ → ℕ
digit c = cond (eqb c 114) 1 (cond (eqb c 119) 2 (cond (eqb c 82) 5 (cond (eqb c 87) 6 0)))

-- the slots of a kind in order, one letter each
abbrev pub are_slots : List ℕ → Bool
are_slots w = ltb 0 (length w) && leb (length w) 5 && all is_slot w

-- ---- words that are one of several: a word's place among the first n of a text, or n

unfoldable pub place_from : List ℕ → List ℕ → ℕ → ℕ → ℕ
place_from t w k zero = k
place_from t w k (suc n) = cond (bytes_eq w (word k t)) k (place_from t w (suc k) n)

abbrev pub place_in : List ℕ → ℕ → List ℕ → ℕ
place_in t n w = place_from t w 0 n

-- none, or as in a Br, a CondBr, a Case
abbrev pub successors : List ℕ
successors = codes "- goes parts cases"

-- the arms of `analyse`, in the order of their numbers
abbrev pub arms : List ℕ
arms = codes "const constF addr_of move select truth bin index check dopeLen load alloc layout_of signal fills store cat native stops deref writes other"

abbrev pub shape_of : List ℕ → ℕ
shape_of l = place_in successors 4 (word 4 l)

abbrev pub arm_of : List ℕ → ℕ
arm_of l = place_in arms 22 (word 5 l)

-- a word that is there, or a dash
abbrev pub is_or_dash : List ℕ → List ℕ → Bool
is_or_dash there w = bytes_eq w there || bytes_eq w (codes "-")

-- ---- forms

-- the least and the greatest, as in 0..4, up to 6
abbrev pub least : List ℕ → ℕ
least l = get_or (word 7 l) 0 0

abbrev pub most : List ℕ → ℕ
most l = get_or (word 7 l) 3 0

abbrev pub are_forms : List ℕ → Bool
are_forms w = eqb (length w) 4 && eqb (get_or w 1 0) 46 && eqb (get_or w 2 0) 46 && leb 48 (get_or w 0 0) && leb (get_or w 0 0) (get_or w 3 0) && leb (get_or w 3 0) 54

-- the form f, a digit, is one of them
abbrev pub allowed : ℕ → List ℕ → Bool
allowed f l = leb (least l) f && leb f (most l)

-- what a form changes, as in 1=wr-: all its slots anew. Word k says so of an allowed form, a later one than word k - 1
abbrev pub is_change : ℕ → List ℕ → Bool
is_change k l =
    eqb (get_or (word k l) 1 0) 61 && are_slots (drop 2 (word k l)) && allowed (get_or (word k l) 0 0) l
    && (eqb k 8 || ltb (get_or (word (k - 1) l) 0 0) (get_or (word k l) 0 0))

-- it says so, or is not there
abbrev pub may_stand : ℕ → List ℕ → Bool
may_stand k l = eqb (length (word k l)) 0 || is_change k l

-- words 8 to 14 say so, as many as there are, and there are no more
abbrev pub are_changes : List ℕ → Bool
are_changes l = all (λ k. may_stand k l) (range 8 7) && eqb (length (word 15 l)) 0

-- the slots at the form f, a digit: those that a change of f gives, or else those of the kind. n words from k on are looked at
unfoldable pub slots_from : ℕ → ℕ → ℕ → List ℕ → List ℕ
slots_from f k zero l = word 2 l
slots_from f k (suc n) l = cond (eqb (get_or (word k l) 0 0) f) (drop 2 (word k l)) (slots_from f (suc k) n l)

abbrev pub slots_at : ℕ → List ℕ → List ℕ
slots_at f l = slots_from f 8 7 l

-- ---- a whole line

abbrev pub is_name_letter : ℕ → Bool
is_name_letter c = leb 48 c && leb c 57 || leb 65 c && leb c 90 || leb 97 c && leb c 122

-- a name: letters and digits
abbrev pub is_name : List ℕ → Bool
is_name w = all is_name_letter w

-- a line that can stand where this number is due: at most 100 bytes, and each word what it has to be
unfoldable pub is_line : List ℕ → List ℕ → Bool
is_line number l =
    leb (length l) 100 && bytes_eq (word 0 l) number && is_name (word 1 l) && are_slots (word 2 l) && is_or_dash (codes "list") (word 3 l)
    && ltb (shape_of l) 4 && ltb (arm_of l) 22 && is_or_dash (codes "quiet") (word 6 l) && are_forms (word 7 l) && are_changes l

-- a line of kind k
abbrev pub is_kind : ℕ → List ℕ → Bool
is_kind k l = is_line (decimal k) l

-- a line that is passed over: it has no word, or its first one begins with #
abbrev pub is_note : List ℕ → Bool
is_note l = eqb (get_or (word 0 l) 0 35) 35
