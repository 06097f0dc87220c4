-- `chainwords::marks::put_lasts` meets its contract. Assumes nothing.
use mathlib.Core.Path.{◌≡◌, sym, subst}
use Prim.Native.Nat.{ℕ, ◌<◌}
use native.Mathlib.Omega.{arith}
use lib.ListN.{length}
use Rattle.inst.specs.Record.{Known}
use Rattle.regfacts.specs.Written.{Fits}
use Rattle.chainwords.specs.Puts.{Lasting}
use Rattle.chainwords.proofs.Putting.{lasting_none, number, lasting_more}
use Rattle.chainwords.proofs.marks.put_lasts.Goals as goal

pub loop-p-init : goal.loop-p-init
loop-p-init c = lasting_none _ _ _ _ _ _ _

pub last_use-requires : goal.last_use-requires
last_use-requires c =
    let a = c.args in
    let k = c.requires.0 in
    let p = c.loop-p.p in
    let h : p < a.n = omega (arith, c.requires.1, c.loop-p-test.true) in
    let e = sym (number c.loop-p.invariant p) in
    (subst (Known a.code.now.recs.now) e (k.known p h), subst (Fits a.code.now.recs.now (length a.asked.now.regs.now)) e (k.fits p h), h, k.few, k.row)

pub loop-p-preserved : goal.loop-p-preserved
loop-p-preserved c = let p = c.requires in lasting_more c.loop-p.invariant (omega (arith, p.0.few, p.1, c.loop-p-test.true)) p.0.room c.last_use.ensures

pub returns : goal.returns
returns c = let a = c.args in let e : c.loop-p.p ≡ a.m = omega (arith, c.loop-p.auto.p-end) in subst (λ (x : ℕ). Lasting a.code.now.recs.now a.lasts.now a.asked.now.regs.now a.asked.now.bits.now a.words.now c.loop-p.words a.asked.now.at a.n x) e c.loop-p.invariant
