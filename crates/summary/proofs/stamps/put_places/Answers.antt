-- `summary::stamps::put_places` meets its contract. Assumes nothing.
use Rattle.inst.proofs.Gathered.{slots_below, list_below}
use Rattle.regfacts.proofs.Visiting.{read_low, written_low}
use Rattle.summary.proofs.Stamping.{stamped_both}
use Rattle.summary.proofs.Wording.{stamped_is}
use Rattle.summary.proofs.stamps.put_places.Goals as goal

pub visit-v-requires-clause-read : goal.visit-v-requires-clause-read
visit-v-requires-clause-read c = read_low c.requires

pub visit-v-requires-clause-written : goal.visit-v-requires-clause-written
visit-v-requires-clause-written c = written_low c.requires.fits

pub put_regs-requires : goal.put_regs-requires
put_regs-requires c = rw c.as_slice.ensures (slots_below _ _ c.visit-v.ensures.reads (read_low c.requires))

pub put_list-requires : goal.put_list-requires
put_list-requires c =
    rw (c.list.ensures, c.put_regs.ensures.size) (list_below _ _ c.visit-v.ensures.reads (read_low c.requires))

pub returns : goal.returns
returns c =
    stamped_is c.visit-v.ensures.reads (stamped_both c.args.d.beside (rw c.as_slice.ensures at c.put_regs.ensures) (rw c.list.ensures at c.put_list.ensures))
