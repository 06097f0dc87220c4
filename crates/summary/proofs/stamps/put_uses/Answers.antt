-- `summary::stamps::put_uses` meets its contract. Assumes nothing.
use Rattle.summary.proofs.Wording.{own_among, own_among_on, uses_stamped}
use Rattle.summary.proofs.stamps.put_uses.Goals as goal

pub put-requires : goal.put-requires
put-requires c = own_among c.args.f.use0 c.requires c.new.ensures

pub put-requires-2 : goal.put-requires-2
put-requires-2 c =
    own_among_on c.args.f c.args.st.now c.requires c.args.d.beside c.new.ensures c.put.ensures c.new-2.ensures

pub returns : goal.returns
returns c =
    uses_stamped c.args.f c.args.st.now c.requires c.args.d.beside
    c.new.ensures c.put.ensures c.new-2.ensures c.put-2.ensures
