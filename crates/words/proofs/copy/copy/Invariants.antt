-- `copy::copy` meets its contract: the first i words are copied. Assumes nothing.
use Rattle.std.proofs.Common.{◌≡◌, take, drop}
use Rattle.std.proofs.lemmas.List.Edits.{sets}
use Rattle.words.proofs.copy.copy.Given as goal

abbrev pub invariant-loop-i : goal.invariant-loop-i
invariant-loop-i l = l.to ≡ sets l.initial.to l.d (take l.i (drop l.s l.from))
