-- 01, "The call": the counts that an answer gives, the list of records at the end, and what the call's loop does. Assumes nothing.
use Rattle.std.specs.Prelude.{◌≡◌, List, ℕ, length}
use Rattle.facts.specs.declared.Fact.{Fact}
use Rattle.model.specs.declared.Answer.{Answer}
use Rattle.model.specs.declared.Answer.TheVariants.{Done, Short, Refused}
use Rattle.model.specs.Picture.{Picture}
use Rattle.model.specs.Pass.{sink}
use Rattle.rounds.specs.declared.state.At.{At}
use Rattle.rounds.specs.Ended.{Did}
use Rattle.rounds.specs.Going.{Between}

-- the registers and operands in use that the answer gives
abbrev pub registers : Answer → ℕ
registers (Done u) = u.registers
registers (Short u) = u.registers
registers (Refused r) = 0

abbrev pub operands : Answer → ℕ
operands (Done u) = u.operands
operands (Short u) = u.operands
operands (Refused r) = 0

-- the list of records keeps its length, and where the picture is refused, by cause n, its contents
pub record Lent (n : ℕ) (facts facts' : List Fact) : Type 0 where
  pub size : length facts' ≡ length facts
  pub kept : (n ≡ 0 → ⊥) → facts' ≡ facts

-- ---- from where the call stands to its end, with the list fs of records: each slice, the work slices and the list then

pub record Coming (Q : Picture) (m : At) (work64 work32 : List ℕ) (nf : ℕ) : Type 0 where
  pub P : Picture
  pub w64 : ℕ
  pub w32 : ℕ
  pub between : Between P w64 w32 nf Q m work64 work32

pub record Finished (Q : Picture) (m : At) (work64 work32 : List ℕ) (fs : List Fact) (answer : Answer) (lines bounds recs locs vias types ops work64' work32' : List ℕ) (fs' : List Fact) : Type 0 where
  pub did : (P : Picture) (w64 w32 : ℕ) → Between P w64 w32 (length fs) Q m work64 work32 → Did (sink P w64 w32 (length fs)) answer lines bounds recs locs vias types ops
  pub size64 : length work64' ≡ length work64
  pub size32 : length work32' ≡ length work32
  pub size : length fs' ≡ length fs
