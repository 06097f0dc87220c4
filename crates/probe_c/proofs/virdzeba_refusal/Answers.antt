-- `virdzeba_refusal` meets its contract: it is `probe`'s own. Assumes nothing.
use Rattle.probe_c.proofs.virdzeba_refusal.Goals as goal

pub returns : goal.returns
returns c = c.virdzeba_refusal.ensures
