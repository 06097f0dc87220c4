-- `source::put_cells`: the words at the forms before this one are written. Assumes nothing.
use Rattle.std.proofs.Common.{◌≡◌, ◌++◌, ◌+◌, ◌-◌, ◌*◌, map}
use Rattle.arrayvec.specs.ArrayVec.{array_vec_len}
use Rattle.words.specs.Lists.{concat, range}
use Rattle.rolesource.specs.Source.{cell}
use Rattle.rolesource.proofs.source.put_cells.Given as goal

abbrev pub invariant-loop-f : goal.invariant-loop-f
invariant-loop-f l = record {
  text : l.out.items ≡ l.initial.out.items ++ concat (map (λ f. cell f l.line) (range 48 (l.f - 48)));
  len : array_vec_len l.out ≡ array_vec_len l.initial.out + 12 * (l.f - 48);
}
