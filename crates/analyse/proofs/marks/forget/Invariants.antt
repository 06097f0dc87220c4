-- `analyse::marks::forget` meets its contract. Assumes nothing.
use lib.ListN.{length}
use Rattle.analyse.proofs.Marking.{Forgetting}
use Rattle.analyse.proofs.marks.forget.Given as goal

abbrev pub invariant-loop-w : goal.invariant-loop-w
invariant-loop-w l = Forgetting (length l.initial.w-items) l.w-index l.initial.w-items l.w-items
