-- 01, "One listing whole": the host's entry over numbers and bytes. Assumes nothing.
use Rattle.std.specs.Prelude.{◌≡◌, Bool, true, false, ◌&&◌, Option, Some, None, List, ◌++◌, ℕ, ◌*◌, ◌-◌, ◌≤◌, leb, length, replicate}
use Rattle.std.proofs.lemmas.List.Edits.{sets}
use Rattle.words.specs.Lists.{concat}
use Rattle.words.specs.Bytes.{words_of}
use Rattle.model.specs.declared.Answer.{Answer}
use Rattle.model.specs.declared.Answer.TheVariants.{Done, Short, Refused}
use Rattle.model.specs.Pass.{Outcome, rounds, number, sink}
use Rattle.model.specs.Picture.{Picture}
use Rattle.model.specs.Refusal.{records}
use Rattle.layout.specs.declared.Slices.{Slices}
use Rattle.layout.specs.Layout.{readable, picture_in, picture_bytes, pictured}
use Rattle.rounds.specs.declared.state.Ran.{Ran}
use Rattle.sink.specs.Sink.{registers, operands}

-- the program's work slices: 64-bit 4 × 64 × 8 + 2 × 512, 32-bit 8 × 512 + 16 × 64 + 8,000
abbrev pub work64 : ℕ
work64 = 3072

abbrev pub work32 : ℕ
work32 = 13120

-- the call on a picture, with as many records of facts as it takes; shut, since it would be computed at these numbers wherever it is named
unfoldable pub sunk_of : Picture → Outcome
sunk_of P = sink P work64 work32 records

-- the call on the picture in these bytes, with so many registers and operands lent, and as many records of facts as it takes
abbrev pub sunk : List ℕ → ℕ → ℕ → Outcome
sunk bs registers operands = sink (picture_in (words_of bs) registers operands) work64 work32 records

-- "It lends the picture, at least 53,024 result bytes and, as numbers, the registers and operands lent, up to 512 and 2,048"
abbrev pub within_bounds : List ℕ → ℕ → ℕ → ℕ → Bool
within_bounds bs n registers operands = readable bs && leb 53024 n && leb registers 512 && leb operands 2048

-- "It returns the rounds for done, 100 more for short, 200 plus the number for a refusal, 300 for anything unread or past these bounds"
abbrev pub returned : List ℕ → ℕ → ℕ → ℕ → ℕ
returned bs n registers operands = elim (within_bounds bs n registers operands) [ true ↦ number (sunk bs registers operands).answer | false ↦ 300 ]

-- "Done and short write the new picture at the result's head; nothing else is written"
abbrev pub put_by : Answer → List ℕ → List ℕ → List ℕ
put_by (Done u) bytes result = sets result 0 bytes
put_by (Short u) bytes result = sets result 0 bytes
put_by (Refused r) bytes result = result

abbrev pub put_left : Outcome → List ℕ → List ℕ
put_left o result = put_by o.answer (picture_bytes o.left) result

abbrev pub written : List ℕ → List ℕ → ℕ → ℕ → List ℕ
written bs result registers operands =
    elim (within_bounds bs (length result) registers operands) [ true ↦ put_left (sunk bs registers operands) result | false ↦ result ]

-- ---- the call in between

-- the answer of the outcome, and the lines of its rounds, six words each, then zeros
abbrev pub ran_by : Outcome → Ran
ran_by o = record { answer = o.answer; lines = concat o.lines ++ replicate (48 - 6 * rounds o.answer) 0 }

-- the call's answer and lines, if all is within the bounds
abbrev pub replied : List ℕ → ℕ → ℕ → ℕ → Option Ran
replied bs n registers operands = elim (within_bounds bs n registers operands) [ true ↦ Some (ran_by (sunk bs registers operands)) | false ↦ None ]

pub record RanAs (o : Outcome) (result : List ℕ) (ran : Ran) (result' : List ℕ) : Type 0 where
  pub ran_is : ran ≡ ran_by o
  pub result_is : result' ≡ put_left o result

-- the picture in these slices, with the registers and operands in use that the answer gives
abbrev pub left_by : Answer → Slices → Picture
left_by a s = pictured s (registers a) (operands a)

-- slices within the program's sizes, and n result bytes
pub record Roomy (bounds recs locs vias types ops pairs targets replay : List ℕ) (n : ℕ) : Type 0 where
  pub bounds_fit : length bounds ≤ 128
  pub recs_fit : length recs ≤ 8192
  pub locs_fit : length locs ≤ 512
  pub vias_fit : length vias ≤ 512
  pub types_fit : length types ≤ 512
  pub ops_fit : length ops ≤ 2048
  pub pairs_fit : length pairs ≤ 256
  pub targets_fit : length targets ≤ 1024
  pub replay_fit : length replay ≤ 64
  pub holds : 53024 ≤ n
