-- `acceptance::blocks::gaps` meets its contract. What is left of the bounds has the answer that the whole has. Assumes nothing.
use mathlib.Core.Path.{◌≡◌}
use Prim.Native.Nat.{◌%◌}
use lib.ListN.{length}
use Rattle.std.specs.Slice.Iter.{chunks_exact_rest, chunks_exact_size}
use Rattle.model.specs.Refusal.{gaps}
use Rattle.acceptance.proofs.blocks.gaps.Given as goal

abbrev pub invariant-loop-pair : goal.invariant-loop-pair
invariant-loop-pair l = record {
  left : gaps l.at l.n (chunks_exact_rest l.pair-iterator) ≡ gaps 0 l.n l.bounds;
  odd : length (chunks_exact_rest l.pair-iterator) % 2 ≡ length l.bounds % 2;
  two : chunks_exact_size l.pair-iterator ≡ 2;
}
