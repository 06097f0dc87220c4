-- `chains::chain::find_chain` meets its contract. Assumes nothing.
use mathlib.Core.Path.{◌≡◌}
use Prim.Native.Nat.{◌+◌}
use Rattle.chains.proofs.Search.{Going}
use Rattle.chains.proofs.chain.find_chain.Given as goal

abbrev pub invariant-loop-i : goal.invariant-loop-i
invariant-loop-i l = Going l.bounds l.recs l.preds l.blocks l.initial.c l.c × (l.c.count ≡ l._i + 1)
