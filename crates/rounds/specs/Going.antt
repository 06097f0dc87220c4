-- 01, "The call" and "A round": where the call stands between its start and its end. P is the picture that was lent, with work slices of w64
-- and w32 words and nf records; Q is the one that stands. Assumes nothing.
use Rattle.std.specs.Prelude.{◌≡◌, List, ◌++◌, ℕ, ◌*◌, ◌-◌, ◌<◌, length, take, drop, replicate}
use Rattle.words.specs.Lists.{concat}
use Rattle.model.specs.declared.Answer.{Answer}
use Rattle.model.specs.Picture.{Picture}
use Rattle.model.specs.Refusal.{refusal, records}
use Rattle.model.specs.Analyse.{facts}
use Rattle.model.specs.Pass.{Outcome, sink_all, sink, most_rounds}
use Rattle.sizes.specs.declared.Sizes.{Sizes}
use Rattle.sizes.specs.Parts.{sizes_of}
use Rattle.chainwords.specs.Work.{Begun}
use Rattle.rounds.specs.declared.state.At.{At}
use Rattle.std.specs.declared.ops.ControlFlow.{ControlFlow}
use Rattle.std.specs.declared.ops.ControlFlow.TheVariants.{Continue, Break}
use Rattle.rounds.specs.State.{first_at}
use Rattle.rounds.specs.Ended.{Did, Work}

-- the outcome o is the lines so far, i of them, and then the outcome e; behind these lines stand zeros
pub record Leads (o : Outcome) (i : ℕ) (lines : List ℕ) (e : Outcome) : Type 0 where
  pub answer_same : o.answer ≡ e.answer
  pub left_same : o.left ≡ e.left
  pub lines_same : concat o.lines ≡ take (6 * i) lines ++ concat e.lines
  pub rest_zero : drop (6 * i) lines ≡ replicate (48 - 6 * i) 0

-- a round is to be tried: Q is accepted, the work slices hold what the call began with, and what the call gives is what the rounds left
-- give of Q
pub record Between (P : Picture) (w64 w32 nf : ℕ) (Q : Picture) (m : At) (work64 work32 : List ℕ) : Type 0 where
  pub lent : refusal P w64 w32 nf ≡ 0
  pub accepted : refusal Q (length work64) (length work32) records ≡ 0
  pub begun : Begun Q (facts P) work64 work32
  pub few : m.rounds < most_rounds
  pub long : length m.lines ≡ 48
  pub sizes_are : m.sizes ≡ sizes_of Q
  pub leads : Leads (sink P w64 w32 nf) m.rounds m.lines (sink_all (most_rounds - m.rounds) m.rounds (facts P) Q)

-- how many rounds may come
abbrev pub to_come : At → ℕ
to_come m = most_rounds - m.rounds

-- ---- the start of the call

-- no round is tried, and this is the answer; or the first one is to be tried
abbrev pub IsStarted : Picture → ℕ → ℕ → ℕ → ControlFlow Answer Sizes → List ℕ → List ℕ → Type 0
IsStarted P w64 w32 nf (Break a) work64 work32 = Did (sink P w64 w32 nf) a (replicate 48 0) P.bounds P.recs P.locs P.vias P.types P.ops
IsStarted P w64 w32 nf (Continue s) work64 work32 = (s ≡ sizes_of P) × Between P w64 w32 nf P (first_at s) work64 work32

pub record Started (P : Picture) (work64 work32 : List ℕ) (nf : ℕ) (r : ControlFlow Answer Sizes) (work64' work32' : List ℕ) : Type 0 where
  pub work : Work (refusal P (length work64) (length work32) nf) work64 work32 work64' work32'
  pub is : IsStarted P (length work64) (length work32) nf r work64' work32'
