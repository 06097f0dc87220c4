-- What the functions write at the head of the slice lent for it. Assumes nothing.
use Rattle.std.specs.Prelude.{◌≡◌, List, [], ◌∷◌, ℕ}
use Rattle.model.specs.declared.Answer.{Answer}
use Rattle.model.specs.declared.Answer.TheVariants.{Done, Short, Refused}
use Rattle.model.specs.Pass.{Outcome, number}
use Rattle.apply.specs.Apply.{Holds}

-- two words, or four, at its head if it has as many
abbrev pub with_two : List ℕ → ℕ → ℕ → List ℕ
with_two [] a b = []
with_two (x ∷ []) a b = x ∷ []
with_two (x ∷ y ∷ l) a b = a ∷ b ∷ l

abbrev pub with_four : List ℕ → ℕ → ℕ → ℕ → ℕ → List ℕ
with_four [] a b c d = []
with_four (x ∷ []) a b c d = x ∷ []
with_four (x ∷ y ∷ []) a b c d = x ∷ y ∷ []
with_four (x ∷ y ∷ z ∷ []) a b c d = x ∷ y ∷ z ∷ []
with_four (x ∷ y ∷ z ∷ w ∷ l) a b c d = a ∷ b ∷ c ∷ d ∷ l

-- the registers and operands in use that an answer gives; a refusal gives none
abbrev pub with_used : List ℕ → Answer → List ℕ
with_used out (Done u) = with_two out u.registers u.operands
with_used out (Short u) = with_two out u.registers u.operands
with_used out (Refused r) = out

-- the outcome o of the call: its number, the six slices, and the counts in use at the head of `out`
pub record Told (o : Outcome) (n : ℕ) (bounds recs locs vias types ops out out' : List ℕ) : Type 0 where
  pub number_is : n ≡ number o.answer
  pub holds : Holds o.left bounds recs locs vias types ops
  pub out_is : out' ≡ with_used out o.answer
