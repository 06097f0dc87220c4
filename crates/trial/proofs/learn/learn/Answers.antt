-- `trial::learn::learn` meets its contract. Assumes nothing.
use mathlib.Core.Path.{refl}
use Rattle.trial.proofs.Learning as law
use Rattle.trial.proofs.learn.learn.Goals as goal

pub slice_bounds-analyse-end : goal.slice_bounds-analyse-end
slice_bounds-analyse-end c = law.inside c.requires {r = c.args.body.now.sizes.regs} c.at_regs-a.ensures.0 refl refl

pub analyse-n-requires : goal.analyse-n-requires
analyse-n-requires c = law.ready c.requires c.at_regs-a.ensures.0 refl refl

pub copy_regs-requires : goal.copy_regs-requires
copy_regs-requires c = law.copying c.requires c.at_regs-a.ensures.0 refl refl c.analyse-n.new.facts c.analyse-n.ensures

pub returns : goal.returns
returns c = law.learnt c.requires c.at_regs-a.ensures.0 refl refl c.analyse-n.new.facts c.analyse-n.ensures c.copy_regs.ensures
