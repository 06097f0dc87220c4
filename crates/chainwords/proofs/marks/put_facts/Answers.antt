-- `chainwords::marks::put_facts` meets its contract. Assumes nothing.
use mathlib.Core.List.{List}
use mathlib.Core.Path.{◌≡◌, refl, sym, subst}
use Prim.Native.Nat.{ℕ, ◌+◌}
use native.Mathlib.Omega.{arith}
use Rattle.chainwords.specs.Puts.{Facts}
use Rattle.chainwords.proofs.Telling.{facts_none, facts_more}
use Rattle.chainwords.proofs.marks.put_facts.Goals as goal

pub loop-p-init : goal.loop-p-init
loop-p-init c = facts_none _ _

pub loop-p-preserved : goal.loop-p-preserved
loop-p-preserved c =
    let i = c.loop-p in
    subst (λ (ws : List ℕ). Facts c.args.facts.now c.args.work32.now ws (i.p + 1)) (sym c.put_fact.ensures) (facts_more i.invariant (omega arith) (omega arith) refl)

pub returns : goal.returns
returns c =
    let i = c.loop-p in
    let e : i.p ≡ c.args.n = omega (arith, i.auto.p-end) in
    subst (λ (k : ℕ). Facts c.args.facts.now c.args.work32.now i.work32 k) e i.invariant
