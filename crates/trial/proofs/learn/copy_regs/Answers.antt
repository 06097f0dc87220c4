-- `trial::learn::copy_regs` meets its contract. Assumes nothing.
use mathlib.Core.Path.{◌≡◌, subst}
use Prim.Native.Nat.{ℕ}
use native.Mathlib.Omega.{arith}
use Rattle.chainwords.specs.Puts.{Copied}
use Rattle.chainwords.proofs.Copying.{copied_none, copied_more}
use Rattle.trial.proofs.learn.copy_regs.Goals as goal

pub loop-i-init : goal.loop-i-init
loop-i-init c = copied_none _ _ _

pub loop-i-preserved : goal.loop-i-preserved
loop-i-preserved c = let p = c.requires in copied_more c.loop-i.invariant (omega (arith, p.there)) (omega (arith, p.room))

pub shape_of-work32 : goal.shape_of-work32
shape_of-work32 c = c.loop-i.invariant.size

pub returns : goal.returns
returns c = let e : c.loop-i.i ≡ c.args.r = omega arith in subst (λ (x : ℕ). Copied c.args.work64.now c.args.a x c.args.work32.now c.loop-i.work32) e c.loop-i.invariant
