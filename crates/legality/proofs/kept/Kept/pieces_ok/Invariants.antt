-- `legality::kept::Kept::pieces_ok` meets its contract. Assumes nothing.
use mathlib.Core.Path.{◌≡◌}
use Prim.Native.Nat.{ℕ, ◌<◌}
use lib.ListN.{length, get_or}
use Rattle.std.specs.Slice.Iter.{chunks_exact_rest, chunks_exact_size}
use Rattle.words.specs.Lists.{all}
use Rattle.legalset.specs.Chain.{picked}
use Rattle.summary.specs.Passes.{piece_test}
use Rattle.legality.proofs.kept.Kept.pieces_ok.Given as goal

abbrev pub invariant-loop-pair : goal.invariant-loop-pair
invariant-loop-pair l =
    record {
      low : (k : ℕ) → k < length (chunks_exact_rest l.pair-iterator) → get_or (chunks_exact_rest l.pair-iterator) k 0 < length l.self.st.now;
      same : all (piece_test l.self.regs.now l.self.st.now l.self.lasts.now.writes l.self.lasts.now.barrier l.p) (picked l.sc (chunks_exact_rest l.pair-iterator)) ≡ all (piece_test l.self.regs.now l.self.st.now l.self.lasts.now.writes l.self.lasts.now.barrier l.p) (picked l.scalars l.xs);
      two : chunks_exact_size l.pair-iterator ≡ 2;
    }
