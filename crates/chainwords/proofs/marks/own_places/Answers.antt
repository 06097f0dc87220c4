-- `chainwords::marks::own_places` meets its contract. Assumes nothing.
use native.Mathlib.Nat.{not-suc-le-zero}
use native.Mathlib.Omega.{arith}
use lib.ListN.{length-set}
use Rattle.chainwords.proofs.Copying.{own_more}
use Rattle.chainwords.proofs.marks.own_places.Goals as goal

pub loop-p-init : goal.loop-p-init
loop-p-init c = record { size = c.requires; own = λ q h. absurd (not-suc-le-zero h) }

pub loop-p-preserved : goal.loop-p-preserved
loop-p-preserved c = record { size = simp length-set c.loop-p.invariant.size; own = own_more c.loop-p.lasts c.loop-p.p (omega arith) c.loop-p.invariant.own }

pub returns : goal.returns
returns c = record { size = c.loop-p.invariant.size; each = λ p h. c.loop-p.invariant.own p (omega arith) }
