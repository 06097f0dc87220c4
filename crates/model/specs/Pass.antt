-- 01, "The call" and "A round": the rounds, the gates and the answer. Assumes nothing.
use Rattle.std.specs.Prelude.{Bool, true, false, not, ◌&&◌, ◌||◌, List, [], ◌∷◌, ℕ, zero, suc, ◌+◌, ◌*◌, eqb, ltb, leb, length, Option, None, Some}
use Rattle.words.specs.Lists.{upto, any, count}
use Rattle.model.specs.declared.Used.{Used}
use Rattle.model.specs.declared.Answer.{Answer}
use Rattle.model.specs.declared.Answer.TheVariants.{Done, Short, Refused}
use Rattle.model.specs.Kinds.{Cat}
use Rattle.model.specs.Picture.{Picture, is_kind, form, nblocks, size}
use Rattle.model.specs.Refusal.{refusal, all_code}
use Rattle.model.specs.Numbered.{number_of, refusal_of}
use Rattle.model.specs.Analyse.{Facts, facts}
use Rattle.model.specs.Move.{Plan, min_replay, try_block, apply}

-- ---- the answer's number and values

-- rounds done, and registers and operands then in use
abbrev pub used : ℕ → Picture → Used
used n P = record { rounds = n; registers = P.regs; operands = P.opers }

-- the paper's values for each case: those of Done and Short, or the refusal's number
abbrev pub values : Answer → List ℕ
values (Done u) = u.rounds ∷ u.registers ∷ u.operands ∷ []
values (Short u) = u.rounds ∷ u.registers ∷ u.operands ∷ []
values (Refused r) = number_of r ∷ []

-- the rounds of Done and Short; a refused picture had none
abbrev pub rounds : Answer → ℕ
rounds (Done u) = u.rounds
rounds (Short u) = u.rounds
rounds (Refused r) = 0

-- the number that the host is given: "the rounds for done, 100 more for short, 200 plus the number for a refusal"
abbrev pub number : Answer → ℕ
number (Done u) = u.rounds
number (Short u) = 100 + u.rounds
number (Refused r) = 200 + number_of r

-- ---- a round

-- "the first block, in number order, of more than 3 instructions for which a move exists"
abbrev pub first_plan : Picture → Facts → List ℕ → Option Plan
first_plan P G [] = None
first_plan P G (x ∷ xs) =
    elim (ltb min_replay (size P x)) [
      | false ↦ first_plan P G xs
      | true ↦ elim (try_block P G x) [ Some a ↦ Some a | None ↦ first_plan P G xs ]
    ]

abbrev pub round : Picture → Facts → Option Plan
round P G = first_plan P G (upto (nblocks P))

-- ---- the rounds

-- what the call gives: the answer; a line for each round: its number, from, into, moved, registers, operands; and the picture
pub record Outcome : Type 0 where
  pub answer : Answer
  pub lines : List (List ℕ)
  pub left : Picture

abbrev pub ends_in : Answer → Picture → Outcome
ends_in a P = record { answer = a; lines = []; left = P }

abbrev pub after_line : List ℕ → Outcome → Outcome
after_line l o = record { answer = o.answer; lines = l ∷ o.lines; left = o.left }

-- the room lent by P holds what Q has in use; else the answer is Short
abbrev pub fits : Picture → Picture → Bool
fits P Q = leb Q.regs (length P.types) && leb Q.opers (length P.ops)

-- at most k more rounds, after n
abbrev pub sink_all : ℕ → ℕ → Facts → Picture → Outcome
sink_all zero n G P = ends_in (Done (used n P)) P
sink_all (suc k) n G P =
    elim (round P G) [
      | None ↦ ends_in (Done (used n P)) P
      | Some a ↦
          let Q = apply P a in
          elim (fits P Q) [ true ↦ after_line (suc n ∷ a.x ∷ a.into ∷ count a.set ∷ Q.regs ∷ Q.opers ∷ []) (sink_all k (suc n) G Q) | false ↦ ends_in (Short (used n P)) P ]
    ]

-- "At most 8 rounds"
abbrev pub most_rounds : ℕ
most_rounds = 8

-- ---- the call

-- registers times blocks above which nothing is tried: 000's BUDGET
abbrev pub budget : ℕ
budget = 2097152

-- the three gates of `run`: no blocks; registers × blocks above the budget; no Cat with `logic` false
abbrev pub gated : Picture → Bool
gated P = eqb (nblocks P) 0 || ltb budget (P.regs * nblocks P) || not (any (λ i. is_kind Cat i && eqb (form i) 0) (all_code P))

-- the whole call, given the lengths of the two work slices and the records lent; refusals come before gates
abbrev pub sink : Picture → ℕ → ℕ → ℕ → Outcome
sink P w64 w32 nf =
    elim (refusal P w64 w32 nf) [
      | suc n ↦ ends_in (Refused (refusal_of (suc n))) P
      | zero ↦ elim (gated P) [ true ↦ ends_in (Done (used 0 P)) P | false ↦ sink_all most_rounds 0 (facts P) P ]
    ]
