-- `pool::held::Pool::turn` meets its contract. Assumes nothing.
use mathlib.Core.Path.{sym, ap, ◌∙◌}
use Prim.Native.Nat.{ℕ}
use lib.ListN.{get_or}
use Rattle.inst.specs.Index.{word_of}
use Rattle.inst.proofs.Indices.{a_reg}
use Rattle.pool.proofs.Turns.{turn_none, turn_some}
use Rattle.pool.proofs.held.Pool.turn.Goals as goal

pub returns-in_err-d : goal.returns-in_err-d
returns-in_err-d c = rw c.from_residual.ensures (turn_none c.release.ensures (ap word_of c.in_err-d.was) c.requires.room.2)

pub returns : goal.returns
returns c =
    let told = c.requires.among in
    let is = c.in_ok-d.was in
    let at = c.at.ensures ∙ sym (ap word_of is) in
    turn_some c.release.ensures (a_reg is told.0).1 (ap (λ (k : ℕ). get_or c.args.types.now k 0) at) c.give.ensures
