-- `attempt::seek` meets its contract. Assumes nothing.
use mathlib.Core.Path.{refl}
use Rattle.search.proofs.Anew.{live_ask}
use Rattle.probe.proofs.Seeking.{looking, seen}
use Rattle.probe.proofs.attempt.seek.Goals as goal

pub live_in-requires : goal.live_in-requires
live_in-requires c = live_ask (looking c.requires c.begin.ensures) _ refl

pub returns : goal.returns
returns c =
    seen c.requires c.begin.ensures refl (record { size = c.live_in.auto.bits; live = c.live_in.ensures.by_index; behind = c.live_in.ensures.bits_unchanged }) c.look_from.ensures
