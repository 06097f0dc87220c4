-- 01, "A round", "At most 8 rounds": the lines of the rounds, and what a round makes of where the call stands. Assumes nothing.
use Rattle.std.specs.Prelude.{◌≡◌, cond, List, [], ◌∷◌, ℕ, ◌+◌, ◌*◌, ◌<◌, ltb, length, replicate}
use Rattle.std.proofs.lemmas.List.Edits.{sets}
use Rattle.model.specs.declared.Answer.{Answer}
use Rattle.model.specs.declared.Answer.TheVariants as answer
use Rattle.model.specs.Pass.{most_rounds}
use Rattle.sizes.specs.declared.Sizes.{Sizes}
use Rattle.oneround.specs.declared.weigh.Line.{Line}
use Rattle.oneround.specs.declared.weigh.Step.{Step}
use Rattle.oneround.specs.declared.weigh.Step.TheVariants.{Ends, Goes, Short}
use Rattle.std.specs.declared.ops.ControlFlow.{ControlFlow}
use Rattle.std.specs.declared.ops.ControlFlow.TheVariants.{Continue, Break}
use Rattle.rounds.specs.declared.state.At.{At}
use Rattle.rounds.specs.declared.state.Ran.{Ran}

-- ---- lines

-- the words of the line of round n
abbrev pub line_words : ℕ → Line → List ℕ
line_words n l = n ∷ l.moved.from.0 ∷ l.moved.into.0 ∷ l.moved.moved ∷ l.registers ∷ l.operands ∷ []

-- behind the lines of i rounds, that of round i + 1; all else stays
abbrev pub with_line : ℕ → Line → List ℕ → List ℕ
with_line i l lines = sets lines (6 * i) (line_words (i + 1) l)

-- ---- before the first round

abbrev pub first_at : Sizes → At
first_at s = record { rounds = 0; sizes = s; lines = replicate 48 0 }

-- ---- one round on

-- there is room for the line of a round
pub record Advancing (m : At) : Type 0 where
  pub long : length m.lines ≡ 48
  pub few : m.rounds < most_rounds

-- after a move
abbrev pub next_at : At → Line → At
next_at m l = record {
  rounds = m.rounds + 1;
  sizes = record { blocks = m.sizes.blocks; insts = m.sizes.insts; regs = l.registers; lent = m.sizes.lent; opers = l.operands };
  lines = with_line m.rounds l m.lines;
}

-- after the move of the last round
abbrev pub last_ran : At → Line → Ran
last_ran m l = record { answer = answer.Done (record { rounds = m.rounds + 1; registers = l.registers; operands = l.operands }); lines = with_line m.rounds l m.lines }

abbrev pub gone : At → Line → ControlFlow Ran At
gone m l = cond (ltb (m.rounds + 1) most_rounds) (Continue (next_at m l)) (Break (last_ran m l))

-- at the end, with this answer
abbrev pub ended : At → Answer → Ran
ended m a = record { answer = a; lines = m.lines }

abbrev pub advanced : At → Step → ControlFlow Ran At
advanced m (Goes l) = gone m l
advanced m Short = Break (ended m (answer.Short (record { rounds = m.rounds; registers = m.sizes.regs; operands = m.sizes.opers })))
advanced m Ends = Break (ended m (answer.Done (record { rounds = m.rounds; registers = m.sizes.regs; operands = m.sizes.opers })))
