-- `checks::look::look` meets its contract: among the records passed none is of a bad kind, and the rest is found. Assumes
-- nothing.
use borrow.Author.Rules.{rules}
use native.Mathlib.Omega.{arith}
use Rattle.checks.proofs.Seen.{seen_none, seen_more, seen_past, seen_bad, seen_all}
use Rattle.checks.proofs.look.look.Goals as goal

pub loop-p-init : goal.loop-p-init
loop-p-init c = (search rules, seen_none _ _ _ _)

pub returns-then-bad_kind : goal.returns-then-bad_kind
returns-then-bad_kind c = seen_bad _ _ _ _ c.loop-p-test.true c.bad_kind.ensures c.if-bad_kind.true

pub loop-p-smaller : goal.loop-p-smaller
loop-p-smaller c = let z = c.skip-p.ensures.from in omega arith

pub loop-p-preserved : goal.loop-p-preserved
loop-p-preserved c = let a = c.args in
    (c.skip-p.ensures.upto, seen_past _ _ _ _ c.requires (seen_more _ _ _ _ _ c.loop-p.invariant.1 c.bad_kind.ensures c.if-bad_kind.false c.bad_regs_at-regs.ensures c.bad_list-lists.ensures c.bad_branch-branches.ensures (cc)) c.skip-p.ensures)

pub returns : goal.returns
returns c = seen_all _ _ _ _ c.loop-p.invariant.0 c.loop-p-test.false c.loop-p.invariant.1
