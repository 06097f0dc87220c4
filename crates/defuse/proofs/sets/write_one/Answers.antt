-- `defuse::sets::write_one` meets its contract. Assumes nothing.
use native.Mathlib.Omega.{arith}
use mathlib.Core.Path.{◌≡◌, sym, ◌∙◌}
use Rattle.inst.proofs.Indices.{below}
use Rattle.defuse.specs.Writers.{note}
use Rattle.defuse.proofs.Runs.{none_held, one_written, one_held}
use Rattle.defuse.proofs.sets.write_one.Goals as goal

pub returns-in_default : goal.returns-in_default
returns-in_default c = record { bits = none_held _ _ c.in_default.is; writers = none_held _ _ c.in_default.is }

pub unset_in-requires : goal.unset_in-requires
unset_in-requires c = omega (arith, below c.in-Some.is c.requires.2, c.requires.0.fits, c.at.ensures)

pub set_in-requires : goal.set_in-requires
set_in-requires c = omega (arith, below c.in-Some.is c.requires.2, c.requires.1.fits, c.at-2.ensures, c.unset_in.auto.words)

pub returns : goal.returns
returns c =
    let e : c.at-2.result ≡ c.at.result = c.at-2.ensures ∙ sym c.at.ensures in
    record {
      bits = one_written _ _ _ _ c.in-Some.is c.at.ensures c.unset_in.ensures (rw e at c.set_in.ensures);
      writers = c.note.ensures ∙ one_held (note c.args.p) _ c.in-Some.is;
    }
