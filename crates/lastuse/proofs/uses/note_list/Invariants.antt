-- `lastuse::uses::note_list` meets its contract. Assumes nothing.
use lib.ListN.{take}
use Rattle.lastuse.specs.Uses.{Noticed}
use Rattle.lastuse.proofs.uses.note_list.Given as goal

abbrev pub invariant-loop-r : goal.invariant-loop-r
invariant-loop-r l = Noticed l.st (take l.r-index l.list) l.q l.initial.lasts l.lasts
