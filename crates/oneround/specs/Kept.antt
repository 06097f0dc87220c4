-- Demand 3 as a clause of the call (kept/specs/Walk says what it means): of the picture on entry and of the one on exit, and at
-- every stop between rounds. Assumes nothing.
use Rattle.std.specs.Prelude.{◌≡◌, List, ℕ, ◌+◌, ◌≤◌, length}
use Rattle.model.specs.Picture.{Picture}
use Rattle.model.specs.Refusal.{refusal, records}
use Rattle.model.specs.Analyse.{facts}
use Rattle.kept.specs.Walk.{after, Keeps}
use Rattle.chainwords.specs.Work.{Begun}
use Rattle.oneround.specs.declared.weigh.Step.{Step}
use Rattle.oneround.specs.declared.weigh.Step.TheVariants as step

-- L was lent, Q stands after n rounds
pub record Kept (L Q : Picture) (n : ℕ) : Type 0 where
  pub rounds_left : Q ≡ (after L n).now
  pub keeps : Keeps L Q (after L n).was
  pub between : (k : ℕ) → k ≤ n → Keeps L (after L k).now (after L k).was

-- ---- the same of one round, so that it holds wherever the rounds stop

-- rounds done, and registers and operands in use, after a round that came to r
abbrev pub rounds_then : Step → ℕ → ℕ
rounds_then (step.Goes l) n = n + 1
rounds_then step.Short n = n
rounds_then step.Ends n = n

abbrev pub registers_then : Step → ℕ → ℕ
registers_then (step.Goes l) n = l.registers
registers_then step.Short n = n
registers_then step.Ends n = n

abbrev pub operands_then : Step → ℕ → ℕ
operands_then (step.Goes l) n = l.operands
operands_then step.Short n = n
operands_then step.Ends n = n

-- P stood before the round, Q stands after it: whatever accepted picture L was lent, if P is what n rounds leave of it and the work
-- slices hold its facts, then Q is what n + 1 leave if the move was made, n otherwise, and demand 3 holds of it
pub record StepKept (P : Picture) (work64 work32 : List ℕ) (r : Step) (Q : Picture) : Type 0 where
  pub kept : (L : Picture) (n : ℕ) → refusal L (length work64) (length work32) records ≡ 0 → (after L n).now ≡ P → Begun P (facts L) work64 work32 → Kept L Q (rounds_then r n)
