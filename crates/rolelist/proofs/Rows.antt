-- A row for each clause of specs/Line: lines that can stand, and lines that one clause alone keeps out. Whole lists are tried by
-- running (tests/roles.py). Assumes nothing.
use mathlib.Core.Bool.{Bool, true, false}
use mathlib.Core.Path.{◌≡◌, refl}
use mathlib.Core.List.{List, [], ◌∷◌, ◌++◌, map}
use Prim.Native.Nat.{ℕ}
use lib.Chars.{codes}
use lib.ListN.{replicate}
use Rattle.rolelist.specs.Text.{before, after, past, word}
use Rattle.rolelist.specs.Line.{place_from, slots_from, slots_at, shape_of, arm_of, is_line, is_note}

-- the number that is due, and a line
record Row : Type 0 where
  number : List ℕ
  line : List ℕ

abbrev is : List ℕ → List ℕ → Row
is n l = record { number = n; line = l }

abbrev stands : Row → Bool
stands r = is_line r.number r.line

abbrev can : List Row
can =
    is (codes "0") (codes "0 Const w - - const quiet 0..0")
    -- more spaces, and a form that takes a slot away
    ∷ is (codes "28") (codes "  28   Bool wrr  - - truth quiet 0..1  1=wr-  ")
    -- all letters, five slots, a list, and a change of each form
    ∷ is (codes "7") (codes "7 Z9 -rwRW list cases other - 0..6 0=w 1=w 2=w 3=w 4=w 5=w 6=-----")
    -- the other successors, one slot that is not visited
    ∷ is (codes "52") (codes "52 Br - - goes writes - 6..6")
    ∷ is (codes "53") (codes "53 CondBr r - parts other quiet 1..4 1=- 4=W")
    -- 100 bytes
    ∷ is (codes "0") (codes "0 Const w - - const quiet 0..0" ++ replicate 70 32)
    ∷ []

all_can : map stands can ≡ replicate 6 true
unfolding before after past word place_from slots_from is_line
all_can = refl

abbrev cannot : List Row
cannot =
    -- 101 bytes
    is (codes "0") (codes "0 Const w - - const quiet 0..0" ++ replicate 71 32)
    -- the number
    ∷ is (codes "1") (codes "0 Const w - - const quiet 0..0")
    ∷ is (codes "1") (codes "01 ConstF w - - const quiet 0..0")
    ∷ is (codes "1") (codes "1: ConstF w - - const quiet 0..0")
    -- the name: the signs beside each range of letters
    ∷ is (codes "0") (codes "0 Const/ w - - const quiet 0..0")
    ∷ is (codes "0") (codes "0 Const: w - - const quiet 0..0")
    ∷ is (codes "0") (codes "0 Const@ w - - const quiet 0..0")
    ∷ is (codes "0") (codes "0 Const[ w - - const quiet 0..0")
    ∷ is (codes "0") (codes "0 Const` w - - const quiet 0..0")
    ∷ is (codes "0") (codes "0 Const{ w - - const quiet 0..0")
    -- slots: another letter, six, none
    ∷ is (codes "0") (codes "0 Const u - - const quiet 0..0")
    ∷ is (codes "0") (codes "0 Const wrrrrr - - const quiet 0..0")
    ∷ is (codes "0") (codes "0 Const - - const quiet 0..0")
    -- list, successors, arm, quiet
    ∷ is (codes "0") (codes "0 Const w List - const quiet 0..0")
    ∷ is (codes "0") (codes "0 Const w - go const quiet 0..0")
    ∷ is (codes "0") (codes "0 Const w - - cons quiet 0..0")
    ∷ is (codes "0") (codes "0 Const w - - const loud 0..0")
    -- forms: too short, too long, other signs, below 0, above 6, the wrong way round; none
    ∷ is (codes "0") (codes "0 Const w - - const quiet 0..")
    ∷ is (codes "0") (codes "0 Const w - - const quiet 0..0.")
    ∷ is (codes "0") (codes "0 Const w - - const quiet 0-.0")
    ∷ is (codes "0") (codes "0 Const w - - const quiet 0.-0")
    ∷ is (codes "0") (codes "0 Const w - - const quiet /..0")
    ∷ is (codes "0") (codes "0 Const w - - const quiet 0..7")
    ∷ is (codes "0") (codes "0 Const w - - const quiet 1..0")
    ∷ is (codes "0") (codes "0 Const w - - const quiet")
    -- changes: no slot, another sign, another letter, six slots, a form below and one above those allowed, one twice, one too early, and
    -- one more than there are forms
    ∷ is (codes "0") (codes "0 Const w - - const quiet 0..6 0=")
    ∷ is (codes "0") (codes "0 Const w - - const quiet 0..6 0:r")
    ∷ is (codes "0") (codes "0 Const w - - const quiet 0..6 0=u")
    ∷ is (codes "0") (codes "0 Const w - - const quiet 0..6 0=wrrrrr")
    ∷ is (codes "0") (codes "0 Const w - - const quiet 1..5 0=r")
    ∷ is (codes "0") (codes "0 Const w - - const quiet 1..5 6=r")
    ∷ is (codes "0") (codes "0 Const w - - const quiet 0..6 3=r 3=r")
    ∷ is (codes "0") (codes "0 Const w - - const quiet 0..6 3=r 2=r")
    ∷ is (codes "0") (codes "0 Const w - - const quiet 0..6 0=r 1=r 2=r 3=r 4=r 5=r 6=r 6=r")
    ∷ []

none_can : map stands cannot ≡ replicate 34 false
unfolding before after past word place_from slots_from is_line
none_can = refl

-- what is passed over, and what is not
notes : map is_note ([] ∷ codes "   " ∷ codes "# 0 Const" ∷ codes "  #" ∷ codes "0 # Const" ∷ []) ≡ true ∷ true ∷ true ∷ true ∷ false ∷ []
unfolding before past word
notes = refl

-- each word by its place among those that may stand there
abbrev with : List ℕ → List ℕ → List ℕ
with shape arm = codes "9 Load wr - " ++ shape ++ codes " " ++ arm ++ codes " quiet 0..0"

shapes : map (λ w. shape_of (with w (codes "load"))) (codes "-" ∷ codes "goes" ∷ codes "parts" ∷ codes "cases" ∷ codes "none" ∷ []) ≡ 0 ∷ 1 ∷ 2 ∷ 3 ∷ 4 ∷ []
unfolding before after past word place_from
shapes = refl

arms : map (λ w. arm_of (with (codes "-") w)) (codes "const" ∷ codes "constF" ∷ codes "store" ∷ codes "other" ∷ codes "Other" ∷ []) ≡ 0 ∷ 1 ∷ 15 ∷ 21 ∷ 22 ∷ []
unfolding before after past word place_from
arms = refl

-- the slots at forms 0 to 3 of a kind with two changes
abbrev changing : List ℕ
changing = codes "40 Check rrr - - check quiet 0..4 0=rr- 1=r--"

changed : map (λ f. slots_at f changing) (48 ∷ 49 ∷ 50 ∷ 55 ∷ []) ≡ codes "rr-" ∷ codes "r--" ∷ codes "rrr" ∷ codes "rrr" ∷ []
unfolding before after past word slots_from
changed = refl
