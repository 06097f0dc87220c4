-- `inst::written::change` meets its contract. Assumes nothing.
use mathlib.Core.Path.{ap, subst}
use Rattle.inst.specs.Index.{word_of, Among}
use Rattle.inst.proofs.Writing.{put_at, put_none}
use Rattle.inst.proofs.written.change.Goals as goal

pub returns-in_default : goal.returns-in_default
returns-in_default g c = λ f' m. put_none _ _ (ap word_of c.in_default.is)

pub returns : goal.returns
returns g c = λ f' m.
    let is = c.in-Some.is in
    put_at f' _ (ap word_of is) (subst (Among _) is c.requires.among).1 c.at-k.ensures (m.made _ _ c.f.ensures)
