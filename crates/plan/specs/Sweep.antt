-- A sweep over a chain's facts: the start, which marks the positions to begin with, that backward and that forward (01, "The legal set").
-- Assumes nothing.
use Rattle.std.specs.Prelude.{◌≡◌, Bool, false, not, ◌&&◌, List, map, replicate, ℕ, ◌+◌, ◌-◌, ◌≤◌, ◌<◌, ltb, length, set, take, drop}
use Rattle.words.specs.Lists.{hit}
use Rattle.facts.specs.declared.Fact.{Fact}
use Rattle.facts.specs.Marks.{marked, fact_in, bare}
use Rattle.effects.specs.Origin.{num}
use Rattle.legalset.specs.Chain.{view, Safe, Brief}
use Rattle.legalset.specs.Marks.{in_set, members, Passed}
use Rattle.legalset.specs.Rules.{pass_ok}
use Rattle.plan.specs.declared.sweep.Span.{Span}
use Rattle.summary.specs.declared.notes.Lasts.{Lasts}
use Rattle.summary.specs.Passes.{blank, begin_test, Backed, Forwarded, Around, Summed, Going}

-- the words of the R registers, from word s of the work on
abbrev pub part : ℕ → ℕ → List ℕ → List ℕ
part s R work = take R (drop s work)

-- the marks of all facts: 1 for a member, 0 for none
unfoldable pub marks_of : List Fact → List ℕ
marks_of fs = map (λ f. num f.member) fs

-- those of the first n facts
abbrev pub marks : ℕ → List Fact → List ℕ
marks n fs = take n (marks_of fs)

-- what a sweep asks: a chain's facts, and in the work a row and the registers' words
pub record Sweepable (recs ops regs work : List ℕ) (fs : List Fact) (z : Span) : Type 0 where
  pub safe : Safe recs ops (bare fs) z.n (length regs)
  pub brief : Brief recs ops (bare fs) z.n
  pub row : z.o ≤ length work
  pub room : z.s + length regs ≤ length work
  pub long : z.n ≤ length fs

-- ---- turn by turn

-- turn i's position, where a sweep goes from the first forth, and from the last of n back
abbrev pub from_first : ℕ → ℕ
from_first i = i

abbrev pub from_last : ℕ → ℕ → ℕ
from_last n i = n - 1 - i

-- the start visits position p of fact f: it is marked if it begins in the set, and counted then; the work and the notes stay
pub record VisitStart (recs regs : List ℕ) (z : Span) (p : ℕ) (f : Fact) (work : List ℕ) (ls : Lasts) (k : ℕ) (work' : List ℕ) (ls' : Lasts) (keep : Bool) (k' : ℕ) : Type 0 where
  pub begun : keep ≡ (ltb p z.m && begin_test recs regs work f z.o p)
  pub counted : k' ≡ k + hit keep
  pub same : (work' ≡ work) × (ls' ≡ ls)

-- the sweep backward visits it: a step back over the words of the registers and the notes, and a member that is dropped is counted
pub record VisitBack (recs ops regs : List ℕ) (z : Span) (p : ℕ) (f : Fact) (work : List ℕ) (ls : Lasts) (k : ℕ) (work' : List ℕ) (ls' : Lasts) (keep : Bool) (k' : ℕ) : Type 0 where
  pub backed : Backed recs ops f p (part z.s (length regs) work) ls (part z.s (length regs) work') ls' keep
  pub counted : k' ≡ k + hit (f.member && not keep)
  pub around : Around z.s (length regs) work work'

-- the sweep forward visits it, likewise by a step forward
pub record VisitForth (recs ops regs : List ℕ) (z : Span) (p : ℕ) (f : Fact) (work : List ℕ) (ls : Lasts) (k : ℕ) (work' : List ℕ) (ls' : Lasts) (keep : Bool) (k' : ℕ) : Type 0 where
  pub forwarded : Forwarded recs ops regs f p (part z.s (length regs) work) ls (part z.s (length regs) work') ls' keep
  pub counted : k' ≡ k + hit (f.member && not keep)
  pub around : Around z.s (length regs) work work'

-- the first i turns of a sweep, from any work, notes and list: each visits the fact that stands at its position, and there alone the list
-- is written, with the mark that the visit answers; k is the count
pub data Swept (visit : ℕ → Fact → List ℕ → Lasts → ℕ → List ℕ → Lasts → Bool → ℕ → Type 0) (place : ℕ → ℕ) (work : List ℕ) (ls : Lasts) (fs : List Fact) : ℕ → List ℕ → Lasts → List Fact → ℕ → Type 0 where
  none : Swept visit place work ls fs 0 work ls fs 0
  more : (i k k' : ℕ) (work' work'' : List ℕ) (ls' ls'' : Lasts) (fs' : List Fact) (keep : Bool) → Swept visit place work ls fs i work' ls' fs' k
      → visit (place i) (fact_in fs' (place i)) work' ls' k work'' ls'' keep k'
      → Swept visit place work ls fs (i + 1) work'' ls'' (set fs' (place i) (marked (fact_in fs' (place i)) keep)) k'

-- ---- what comes of it

-- of the facts nothing is changed but the marks
pub record Marked (fs fs' : List Fact) : Type 0 where
  pub bare_same : bare fs' ≡ bare fs
  pub long : length fs' ≡ length fs

-- the start: each of the first i positions is marked, as it begins in the set or not, and k do
pub record Begun (recs regs bits : List ℕ) (z : Span) (fs : List Fact) (i : ℕ) (fs' : List Fact) (k : ℕ) : Type 0 where
  pub each : (p : ℕ) → p < i → in_set (marks z.n fs') p ≡ (ltb p z.m && begin_test recs regs bits (fact_in (bare fs) p) z.o p)
  pub count : k ≡ members (marks i fs')
  pub facts : Marked fs fs'

-- no register's word has anything, and nothing is noted
pub record Clear (R s : ℕ) (work : List ℕ) (ls : Lasts) : Type 0 where
  pub words : part s R work ≡ replicate R 0
  pub notes : ls ≡ blank

-- the sweep backward: the k members that broke rule 1 were dropped, and the words and the notes are the summary of those left
pub record Backward (recs ops regs : List ℕ) (z : Span) (work : List ℕ) (ls : Lasts) (fs : List Fact) (work' : List ℕ) (ls' : Lasts) (fs' : List Fact) (k : ℕ) : Type 0 where
  pub passed : Clear (length regs) z.s work ls → Passed (pass_ok (view recs ops (bare fs) regs) z.n false) 0 z.m (marks z.n fs) (marks z.n fs') k
  pub sum : Clear (length regs) z.s work ls → Summed recs (bare fs) z.n 0 (part z.s (length regs) work') ls' (marks z.n fs')
  pub around : Around z.s (length regs) work work'
  pub facts : Marked fs fs'

-- the sweep forward, by the summary of the set: the k members that broke one of rules 3 to 6 were dropped
pub record Forward (recs ops regs : List ℕ) (z : Span) (work : List ℕ) (ls : Lasts) (fs : List Fact) (work' : List ℕ) (ls' : Lasts) (fs' : List Fact) (k : ℕ) : Type 0 where
  pub going : Summed recs (bare fs) z.n 0 (part z.s (length regs) work) ls (marks z.n fs)
      → Going recs ops (bare fs) regs z.n z.m (part z.s (length regs) work) ls (marks z.n fs) (part z.s (length regs) work') ls' (marks z.n fs') k
  pub around : Around z.s (length regs) work work'
  pub facts : Marked fs fs'
