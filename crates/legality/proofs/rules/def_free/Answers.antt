-- `legality::rules::def_free` meets its contract. Assumes nothing.
use Prim.Native.Nat.{ℕ}
use lib.Dec.{leb}
use lib.ListN.{get_or, length}
use Rattle.summary.proofs.Wording.{own_among, def_tested}
use Rattle.legality.proofs.rules.def_free.Goals as goal

pub free-requires : goal.free-requires
free-requires c = own_among c.args.f.def c.requires c.new.ensures

pub returns : goal.returns
returns c =
    let a = c.args in
    def_tested a.f (length a.st.now) (λ (x : ℕ). leb (get_or a.st.now x 0) 1023) c.new.ensures c.free.ensures
