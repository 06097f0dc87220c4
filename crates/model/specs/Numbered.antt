-- 01, "The call": the causes of the table by name, their numbers, and what acceptance answers. 11 is no cause any more (request
-- 2026-11). Assumes nothing.
use Rattle.std.specs.Prelude.{List, [], ◌∷◌, ℕ, zero, suc, get_or, Result, Ok, Err}
use Rattle.model.specs.declared.Refusal.{Refusal}
use Rattle.model.specs.declared.Refusal.TheVariants as cause

-- the causes, in the table's order
abbrev pub refusals : List Refusal
refusals =
    cause.Large ∷ cause.Uneven ∷ cause.Blocks ∷ cause.Kind ∷ cause.Slot ∷ cause.List ∷ cause.Branch ∷ cause.Cat ∷ cause.Type ∷ cause.Work ∷ []

-- each one's number
abbrev pub number_of : Refusal → ℕ
number_of cause.Large = 1
number_of cause.Uneven = 2
number_of cause.Blocks = 3
number_of cause.Kind = 4
number_of cause.Slot = 5
number_of cause.List = 6
number_of cause.Branch = 7
number_of cause.Cat = 8
number_of cause.Type = 9
number_of cause.Work = 10

-- the cause of a number from 1 to 10
abbrev pub refusal_of : ℕ → Refusal
refusal_of zero = cause.Work
refusal_of (suc n) = get_or refusals n cause.Work

-- what acceptance answers to the lowest number whose cause is present, which is 0 where none is
abbrev pub verdict : ℕ → Result Unit Refusal
verdict zero = Ok tt
verdict (suc n) = Err (refusal_of (suc n))
