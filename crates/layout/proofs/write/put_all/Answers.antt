-- `write::put_all` meets its contract: one more slice is written behind the others. Assumes nothing.
use Rattle.std.proofs.Common.{ℕ, List, [], Bor, refl, ◌∙◌, arith}
use Rattle.layout.proofs.Placing.{put_none, joined_next, joined_then}
use Rattle.words.specs.Bytes.{bytes_of}
use Rattle.layout.proofs.write.put_all.Goals as goal

-- what would stand past the last slice
abbrev none : Bor (List ℕ)
none = record { ref_ptr = (0, 0); now = [] }

pub loop-words-init : goal.loop-words-init
unfolding bytes_of
loop-words-init c = record { same = refl; placed = put_none _ 0 }

pub put_words-requires : goal.put_words-requires
put_words-requires c = let i = c.loop-words in omega (arith, joined_next c.args.slices.now i.words-index none c.loop-words-test.true i.invariant.placed, i.invariant.same, c.requires)

pub overflow_add-at : goal.overflow_add-at
overflow_add-at c = let i = c.loop-words in omega (arith, joined_next c.args.slices.now i.words-index none c.loop-words-test.true i.invariant.placed, c.requires)

pub loop-words-preserved : goal.loop-words-preserved
loop-words-preserved c =
    let i = c.loop-words in
    record {
      same = c.put_words.auto.bytes ∙ i.invariant.same;
      placed = joined_then c.args.slices.now i.words-index none c.loop-words-test.true i.invariant.placed c.put_words.ensures;
    }
