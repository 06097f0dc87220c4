-- `trial::target::try_target` meets its contract. Assumes nothing.
use Rattle.trial.proofs.Planned as law
use Rattle.trial.proofs.target.try_target.Goals as goal

pub take_aim-a-requires : goal.take_aim-a-requires
take_aim-a-requires c = (law.aiming c.requires.0)

pub slice_bounds-legal_set-end : goal.slice_bounds-legal_set-end
slice_bounds-legal_set-end c = (law.end_fits c.requires.0 c.take_aim-a.ensures).1

pub legal_set-k-requires : goal.legal_set-k-requires
legal_set-k-requires c = (law.choosable c.requires.0 c.requires.1 c.take_aim-a.ensures)

pub put_facts-requires : goal.put_facts-requires
put_facts-requires c = law.putting c.requires.0 c.requires.1 c.take_aim-a.ensures c.legal_set-k.ensures c.taken-b.ensures

pub nth-requires : goal.nth-requires
nth-requires c = let few = c.requires.0.planning.chained.sound.few in (few, few.least)

pub put_uses-requires : goal.put_uses-requires
put_uses-requires c = (law.uses_asked c.requires.0 c.requires.1 c.take_aim-a.ensures c.legal_set-k.ensures c.taken-b.ensures c.put_facts.ensures)

pub returns : goal.returns
returns c = law.planned c.requires.0 c.requires.1 c.take_aim-a.ensures c.legal_set-k.ensures c.taken-b.ensures c.put_facts.ensures c.put_uses.ensures
