-- `checks::branches::bad_pairs` meets its contract. What is left of the pairs has the answer that the whole has. Assumes nothing.
use mathlib.Core.Path.{◌≡◌}
use Rattle.std.specs.Slice.Iter.{chunks_exact_rest, chunks_exact_size}
use Rattle.model.specs.Refusal.{bad_pairs}
use Rattle.checks.proofs.branches.bad_pairs.Given as goal

abbrev pub invariant-loop-pair : goal.invariant-loop-pair
invariant-loop-pair l = (bad_pairs l.n (chunks_exact_rest l.pair-iterator) ≡ bad_pairs l.n l.pairs) × (chunks_exact_size l.pair-iterator ≡ 2)
