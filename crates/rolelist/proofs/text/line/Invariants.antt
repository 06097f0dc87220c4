-- `text::line`: the line is so many lines further on in what is left. Assumes nothing.
use Rattle.std.proofs.Common.{◌≡◌, ◌-◌}
use Rattle.rolelist.specs.Text.{line}
use Rattle.rolelist.proofs.text.line.Given as goal

abbrev pub invariant-loop-i : goal.invariant-loop-i
invariant-loop-i l = line (l.n - l._i) l.rest ≡ line l.n l.text
