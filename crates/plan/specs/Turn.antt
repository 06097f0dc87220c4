-- A turn: a sweep backward, then one forward, unless that backward is the last (01, "The legal set"). Assumes nothing.
use Rattle.std.specs.Prelude.{◌≡◌, Bool, true, false, not, ◌&&◌, List, replicate, ℕ, ◌-◌, eqb, leb, length}
use Rattle.facts.specs.declared.Fact.{Fact}
use Rattle.facts.specs.Marks.{bare}
use Rattle.legalset.specs.Chain.{View, view}
use Rattle.legalset.specs.Marks.{Passed}
use Rattle.legalset.specs.Rules.{pass_ok}
use Rattle.plan.specs.declared.turn.Asked.{Asked}
use Rattle.plan.specs.declared.turn.Last.{Last}
use Rattle.plan.specs.declared.turn.Last.TheVariants.{Dropped, Quiet, Done}
use Rattle.plan.specs.declared.turn.Sweeps.{Sweeps}
use Rattle.summary.specs.declared.notes.Lasts.{Lasts}
use Rattle.summary.specs.Passes.{blank, Around}
use Rattle.plan.specs.Sweep.{part, marks, from_first, from_last, VisitBack, VisitForth, Swept, Marked}

-- the last sweep dropped nothing; nor did the one before
abbrev pub is_quiet : Last → Bool
is_quiet Dropped = false
is_quiet Quiet = true
is_quiet Done = true

abbrev pub is_done : Last → Bool
is_done Dropped = false
is_done Quiet = false
is_done Done = true

-- after one more, that dropped nothing or did
abbrev pub after : Bool → Last → Last
after true Dropped = Quiet
after true Quiet = Done
after true Done = Done
after false l = Dropped

-- after a sweep that dropped k
abbrev pub went : Sweeps → ℕ → Sweeps
went c k = record { left = c.left - k; last = after (eqb k 0) c.last }

-- another one is to come, unless two dropped nothing, or too few are left
abbrev pub goes_on : Sweeps → ℕ → Bool
goes_on c least = not (is_done c.last) && leb least c.left

-- from the marks U, where the sweeps stood at c: one backward came to V, and that was the last; or one forward came to W
pub data Passes (C : View) (n m least : ℕ) (U : List ℕ) (c : Sweeps) : List ℕ → Sweeps → Type 0 where
  half : (V : List ℕ) (k : ℕ) → Passed (pass_ok C n false) 0 m U V k → goes_on (went c k) least ≡ false → Passes C n m least U c V (went c k)
  whole : (V W : List ℕ) (k l : ℕ) → Passed (pass_ok C n false) 0 m U V k → goes_on (went c k) least ≡ true → Passed (pass_ok C n true) 0 m V W l
      → Passes C n m least U c W (went (went c k) l)

-- a turn, from c to c'
pub record Turn (recs ops regs : List ℕ) (z : Asked) (work : List ℕ) (fs : List Fact) (c : Sweeps) (work' : List ℕ) (fs' : List Fact) (c' : Sweeps) : Type 0 where
  pub passes : Passes (view recs ops (bare fs) regs) z.span.n z.span.m z.least (marks z.span.n fs) c (marks z.span.n fs') c'
  pub around : Around z.span.s (length regs) work work'
  pub facts : Marked fs fs'

-- before a sweep backward the words of the R registers, from word s of the work on, are cleared
pub record Readied (R s : ℕ) (work work' : List ℕ) : Type 0 where
  pub words : part s R work' ≡ replicate R 0
  pub around : Around s R work work'

-- a turn, sweep by sweep, from c to c': one backward from cleared words and notes, and unless that was the last, one forward from what it
-- left
pub data Turned (recs ops regs : List ℕ) (z : Asked) (work : List ℕ) (fs : List Fact) (c : Sweeps) : List ℕ → List Fact → Sweeps → Type 0 where
  back_alone : (work₁ work₂ : List ℕ) (ls₂ : Lasts) (fs₂ : List Fact) (k : ℕ) → Readied (length regs) z.span.s work work₁
      → Swept (VisitBack recs ops regs z.span) (from_last z.span.n) work₁ blank fs z.span.n work₂ ls₂ fs₂ k → goes_on (went c k) z.least ≡ false → Turned recs ops regs z work fs c work₂ fs₂ (went c k)
  back_and_forth : (work₁ work₂ work₃ : List ℕ) (ls₂ ls₃ : Lasts) (fs₂ fs₃ : List Fact) (k l : ℕ) → Readied (length regs) z.span.s work work₁
      → Swept (VisitBack recs ops regs z.span) (from_last z.span.n) work₁ blank fs z.span.n work₂ ls₂ fs₂ k → goes_on (went c k) z.least ≡ true
      → Swept (VisitForth recs ops regs z.span) from_first work₂ ls₂ fs₂ z.span.m work₃ ls₃ fs₃ l → Turned recs ops regs z work fs c work₃ fs₃ (went (went c k) l)
