-- `search::find::first_look` meets its contract. Assumes nothing.
use mathlib.Core.Path.{refl}
use native.Mathlib.Omega.{arith}
use Rattle.search.proofs.Anew.{live_ask, seeking, opened}
use Rattle.search.proofs.find.first_look.Goals as goal

pub live_in-requires : goal.live_in-requires
live_in-requires c = live_ask c.requires _ refl

pub seek-requires : goal.seek-requires
seek-requires c = (seeking c.requires, omega arith)

pub returns : goal.returns
returns c =
    opened refl (record { size = c.live_in.auto.bits; live = c.live_in.ensures.by_index; behind = c.live_in.ensures.bits_unchanged }) c.seek.ensures
