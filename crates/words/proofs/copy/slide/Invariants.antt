-- `copy::slide` meets its contract: the first i words are copied; the word read next is as it was. Assumes nothing.
use Rattle.std.proofs.Common.{◌≡◌, take, drop}
use Rattle.std.proofs.lemmas.List.Edits.{sets}
use Rattle.words.proofs.copy.slide.Given as goal

abbrev pub invariant-loop-i : goal.invariant-loop-i
invariant-loop-i l = l.xs ≡ sets l.initial.xs l.d (take l.i (drop l.s l.initial.xs))
