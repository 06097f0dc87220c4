-- `source::put_lines`: the lines before this one stand, and their rows are written. Assumes nothing.
use Rattle.std.proofs.Common.{◌≡◌, ◌++◌, ◌+◌, ◌-◌, ◌*◌, ◌≤◌, map}
use Rattle.arrayvec.specs.ArrayVec.{array_vec_len}
use Rattle.words.specs.Lists.{concat, upto}
use Rattle.rolelist.specs.Text.{line}
use Rattle.rolelist.specs.Listed.{kinds, first_bad}
use Rattle.rolesource.specs.Source.{row}
use Rattle.rolesource.proofs.source.put_lines.Given as goal

abbrev pub invariant-loop-m : goal.invariant-loop-m
invariant-loop-m l = record {
  good : first_bad 0 l.n l.list ≡ first_bad l.m (l.n - l.m) l.list;
  count : l.k ≡ kinds l.m l.list;
  text : l.out.items ≡ l.initial.out.items ++ concat (map (λ n. row (line n l.list)) (upto l.m));
  room : array_vec_len l.out ≤ 2000 + 208 * l.k;
}
