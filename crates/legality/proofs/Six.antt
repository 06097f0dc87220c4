-- What `rules::rule1` to `rules::rule6` test of position p is `model`'s first to sixth test, for whatever run the words stand for, where
-- the words that sum up the kept positions are of the marks now. It holds at every position of the chain, member or not. Assumes nothing.
use mathlib.Core.Path.{◌≡◌, ◌∙◌}
use mathlib.Core.Bool.{Bool, true}
use mathlib.Core.List.{List}
use Prim.Native.Nat.{ℕ, ◌+◌, ◌<◌}
use lib.Dec.{leb}
use lib.ListN.{get_or, length}
use Rattle.words.specs.Lists.{all}
use Rattle.model.specs.Analyse.{Fact}
use Rattle.model.specs.Legal.{tests}
use Rattle.facts.specs.declared.Fact as F
use Rattle.facts.specs.Marks.{fact_in}
use Rattle.legalset.specs.Chain.{view, defs_of, reads_of, Safe, Told}
use Rattle.legalset.specs.Marks.{in_set}
use Rattle.legalset.specs.Rules.{own_ok}
use Rattle.legalset.proofs.Lawful.{rule1_is, rule2_is, rule3_is, rule4_is, rule5_is, rule6_is}
use Rattle.summary.specs.declared.notes.Lasts.{Lasts}
use Rattle.summary.specs.Passes.{Awaits, Ended, Row, Summed, result_test, read_test, memory_test, own_test, Shows}
use Rattle.summary.proofs.Backing.{back_is}
use Rattle.legality.proofs.Starting.{results_are}
use Rattle.legality.proofs.Chosen.{results_row}
use Rattle.summary.proofs.Forwarding.{reads_are, suspends_are, memory_are, own_is}

module _ {recs ops : List ℕ} {w : List F.Fact} {regs : List ℕ} {n p : ℕ} (s : Safe recs ops w n (length regs)) (h : p < n) {run : List Fact} (t : Told recs ops w regs n run) (needed : ℕ → Bool) (marks : List ℕ) where
  -- rule 1: st says what is awaited behind p
  pub rule1_tests : {st : List ℕ} → length st ≡ length regs → Awaits (defs_of recs w) (reads_of recs ops w) (in_set marks) n (p + 1) st
      → all (λ x. leb (get_or st x 0) 1023) (defs_of recs w p) ≡ get_or (tests run needed (in_set marks) p) 0 true
  rule1_tests e a = back_is marks s h e a ∙ rule1_is (view recs ops w regs) n run t.stands needed (in_set marks) p h

  -- rule 2: regs has each register's last writer, and the row stands for the needs
  pub rule2_tests : {bits : List ℕ} {o : ℕ} → Ended recs w n regs → Row bits o (length regs) needed → all (result_test regs bits o p) (defs_of recs w p) ≡ get_or (tests run needed (in_set marks) p) 1 true
  rule2_tests {bits} {o} d k = results_are bits o s h d ∙ results_row regs s h k ∙ rule2_is (view recs ops w regs) n run t.stands needed (in_set marks) p h

  -- rules 3 to 6: the summary of the marks, and the writers before p
  module _ {st : List ℕ} {lasts : Lasts} (e : length st ≡ length regs) (z : Summed recs w n p st lasts marks) where
    pub rule3_tests : all (read_test st p) (reads_of recs ops w p) ≡ get_or (tests run needed (in_set marks) p) 2 true
    rule3_tests = reads_are regs marks s h e z.stamps z.writes z.barrier z.suspension z.flags ∙ rule3_is (view recs ops w regs) n run t.stands needed (in_set marks) p h

    pub rule4_tests : leb lasts.suspension (p + 1) ≡ get_or (tests run needed (in_set marks) p) 3 true
    rule4_tests = suspends_are regs marks s h e z.stamps z.writes z.barrier z.suspension z.flags ∙ rule4_is (view recs ops w regs) n run t.stands needed (in_set marks) p h

    pub rule5_tests : {f : F.Fact} → Shows w p f → memory_test recs ops regs st lasts.writes f lasts.barrier p ≡ get_or (tests run needed (in_set marks) p) 4 true
    rule5_tests d = memory_are regs marks s h e z.stamps z.writes z.barrier z.suspension z.flags d ∙ rule5_is (view recs ops w regs) n run t.stands needed (in_set marks) p h

    pub rule6_tests : own_test lasts.writes (fact_in w p).wrote ≡ get_or (tests run needed (in_set marks) p) 5 true
    unfolding own_ok
    rule6_tests = own_is regs marks s h e z.stamps z.writes z.barrier z.suspension z.flags ∙ rule6_is (view recs ops w regs) n run t.stands needed (in_set marks) p h
