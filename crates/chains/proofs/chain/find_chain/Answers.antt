-- `chains::chain::find_chain` meets its contract. Assumes nothing.
use mathlib.Core.Path.{refl, sym, ◌∙◌}
use native.Mathlib.Omega.{arith}
use Rattle.chains.proofs.Search.{going_start, from_start, here, goes_below, going_not, going_more, more_blocks, parts_below, going_end, going_stops}
use Rattle.chains.proofs.chain.find_chain.Goals as goal

pub loop-i-init : goal.loop-i-init
loop-i-init c = (going_start _ _ _ _ c.start-c.ensures.0 c.start-c.ensures.1 c.requires.2, c.start-c.ensures.1)

pub last-requires : goal.last-requires
last-requires c = c.loop-i.invariant.0.sound.few

pub end_of-requires : goal.end_of-requires
end_of-requires c = c.requires.0.block _ (here c.requires.0 c.loop-i.invariant.0 (c.at.ensures ∙ c.last.ensures) _ refl)

pub next-requires : goal.next-requires
next-requires c = (c.loop-i.invariant.0.sound, goes_below c.requires.0 c.loop-i.invariant.0 (c.at.ensures ∙ c.last.ensures) (sym c.in-Goes.is ∙ c.end_of.ensures), c.requires.1)

pub returns-in_err-c-in-Goes : goal.returns-in_err-c-in-Goes
returns-in_err-c-in-Goes c = rw c.from_residual.ensures (going_not c.requires.0 c.loop-i.invariant.0 (c.at.ensures ∙ c.last.ensures) (sym c.in-Goes.is ∙ c.end_of.ensures) c.next.ensures (from_start _ c.start-c.ensures.0 c.start-c.ensures.1) c.in_err-c-in-Goes.was)

pub loop-i-preserved : goal.loop-i-preserved
loop-i-preserved c =
    let a = c.at.ensures ∙ c.last.ensures in
    let g = sym c.in-Goes.is ∙ c.end_of.ensures in (
      going_more c.requires.0 c.loop-i.invariant.0 a g c.next.ensures _ c.in_ok-c-in-Goes.was,
      omega (arith, more_blocks c.requires.0 c.loop-i.invariant.0 a g c.next.ensures _ c.in_ok-c-in-Goes.was, c.loop-i.invariant.1),
    )

pub ends-requires : goal.ends-requires
ends-requires c = let h = parts_below c.requires.0 c.loop-i.invariant.0 (c.at.ensures ∙ c.last.ensures) (sym c.in-Parts.is ∙ c.end_of.ensures) in (c.loop-i.invariant.0.sound, h.0, h.1)

pub returns-in-Parts : goal.returns-in-Parts
returns-in-Parts c = going_end c.requires.0 c.loop-i.invariant.0 (c.at.ensures ∙ c.last.ensures) (sym c.in-Parts.is ∙ c.end_of.ensures) (from_start _ c.start-c.ensures.0 c.start-c.ensures.1) c.ends.ensures.0 c.ends.ensures.1

pub returns-in-Stops : goal.returns-in-Stops
returns-in-Stops c = going_stops c.requires.0 c.loop-i.invariant.0 (c.at.ensures ∙ c.last.ensures) (from_start _ c.start-c.ensures.0 c.start-c.ensures.1) (sym c.in-Stops.is ∙ c.end_of.ensures)

pub returns : goal.returns
returns c = absurd (omega (arith, c.loop-i.invariant.1, c.loop-i.invariant.0.sound.few.most))
