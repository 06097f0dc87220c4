-- The greatest legal set of a chain, by sweeps in turn (01, "The legal set"). Assumes nothing.
use Rattle.std.specs.Prelude.{◌≡◌, List, ℕ, ◌≤◌, length}
use Rattle.facts.specs.declared.Fact.{Fact}
use Rattle.facts.specs.Marks.{bare}
use Rattle.plan.specs.declared.turn.Asked.{Asked}
use Rattle.summary.specs.Passes.{Around, Ended, Greatest}
use Rattle.plan.specs.Sweep.{marks, Sweepable}

-- what it asks: that sweeps may be made, and each register's last writer in the chain
pub record Choosable (recs ops regs work : List ℕ) (fs : List Fact) (z : Asked) : Type 0 where
  pub sweeps : Sweepable recs ops regs work fs z.span
  pub in_x : z.span.m ≤ z.span.n
  pub ended : Ended recs (bare fs) z.span.n regs

-- the marks are the greatest legal set, of r members, or that has fewer than `least`; nothing else of the facts and of the work is changed
pub record Chose (recs ops regs : List ℕ) (z : Asked) (work : List ℕ) (fs : List Fact) (work' : List ℕ) (fs' : List Fact) (r : ℕ) : Type 0 where
  pub set : Greatest recs ops (bare fs) regs work z.span.o (marks z.span.n fs') z.span.m z.span.n z.least r
  pub around : Around z.span.s (length regs) work work'
  pub bare_same : bare fs' ≡ bare fs
  pub long : length fs' ≡ length fs
