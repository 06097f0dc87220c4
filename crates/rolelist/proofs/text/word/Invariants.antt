-- `text::word`: the word is so many words further on in what is left. Assumes nothing.
use Rattle.std.proofs.Common.{◌≡◌, ◌-◌}
use Rattle.rolelist.specs.Text.{word}
use Rattle.rolelist.proofs.text.word.Given as goal

abbrev pub invariant-loop-i : goal.invariant-loop-i
invariant-loop-i l = word (l.k - l._i) l.rest ≡ word l.k l.line
