-- `summary::stamps::put_def` meets its contract. Assumes nothing.
use Rattle.summary.proofs.Wording.{own_among, def_stamped}
use Rattle.summary.proofs.stamps.put_def.Goals as goal

pub put-requires : goal.put-requires
put-requires c = own_among c.args.f.def c.requires c.new.ensures

pub returns : goal.returns
returns c =
    def_stamped c.args.f c.args.st.now c.requires c.args.d.beside c.new.ensures c.put.ensures
