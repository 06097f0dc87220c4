-- `analyse::along::analyse`: before a turn p positions are analysed, and the others are left. Assumes nothing.
use Rattle.std.proofs.Common.{◌≤◌, length, ◌≡◌}
use Rattle.chains.specs.Positions.{left}
use Rattle.facts.specs.Marks.{bare}
use Rattle.analyse.proofs.Chained.{Chained}
use Rattle.analyse.proofs.along.analyse.Given as goal

abbrev pub invariant-loop-g : goal.invariant-loop-g
invariant-loop-g l =
    record {
      order : l.p ≤ 800;
      size : length l.regs ≡ length l.fn.regs;
      facts_size : length l.facts ≡ length l.fn.facts;
      ran : Chained l.code.recs.now l.code.ops.now l.bounds l.fn.c l.count l.initial.regs (bare l.fn.facts) l.regs (bare l.facts) (left l.g-iterator) l.p;
    }
