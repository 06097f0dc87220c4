-- `legality::kept::Kept::pieces_ok` meets its contract. Assumes nothing.
use mathlib.Core.Path.{sym, ◌∙◌}
use native.Mathlib.Omega.{arith}
use Rattle.inst.proofs.Indices.{is_reg, not_reg}
use Rattle.legality.proofs.Testing.{next_low, first_low, pick_no, pick_on, pick_end}
use Rattle.legality.proofs.kept.Kept.pieces_ok.Goals as goal

pub returns-in_default : goal.returns-in_default
returns-in_default c =
    let i = c.loop-pair.invariant in
    let z = c.in-Some.ensures.steps in
    let none = not_reg _ _ (sym c.new.ensures ∙ c.in_default.is) in
    let there = first_low _ _ z.1.0 (z.1.1 ∙ i.two) i.low in
    absurd (omega (arith, none, there))

pub piece_ok-requires : goal.piece_ok-requires
piece_ok-requires c =
    let r = is_reg _ _ _ (sym c.new.ensures ∙ c.in-Some-new.is) in
    (omega (arith, r.0, r.1), c.requires.1)

pub returns-then-not-piece_ok : goal.returns-then-not-piece_ok
returns-then-not-piece_ok c =
    let i = c.loop-pair.invariant in
    let z = c.in-Some.ensures.steps in
    let r = is_reg _ _ _ (sym c.new.ensures ∙ c.in-Some-new.is) in
    pick_no _ _ z.1.0 (z.1.1 ∙ i.two) _ c.loop-pair.sc i.same r.0 c.piece_ok.ensures c.if-not-piece_ok.true

pub loop-pair-preserved : goal.loop-pair-preserved
loop-pair-preserved c =
    let i = c.loop-pair.invariant in
    let z = c.in-Some.ensures.steps in
    let r = is_reg _ _ _ (sym c.new.ensures ∙ c.in-Some-new.is) in
    record {
      low = next_low _ _ z.1.0 (z.1.1 ∙ i.two) i.low;
      same = pick_on _ _ z.1.0 (z.1.1 ∙ i.two) _ c.loop-pair.sc i.same r.0 c.piece_ok.ensures c.if-not-piece_ok.false;
      two = z.0 ∙ i.two;
    }

pub returns : goal.returns
returns c =
    let i = c.loop-pair.invariant in
    let z = c.in-None.ensures.steps in
    pick_end _ _ c.loop-pair.sc i.same (omega (arith, i.two, z.1.0))
