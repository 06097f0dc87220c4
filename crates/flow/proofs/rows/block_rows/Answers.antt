-- `flow::rows::block_rows` meets its contract. Assumes nothing.
use mathlib.Core.Path.{refl, ap₂, ◌∙◌}
use Prim.Native.Nat.{ℕ, ◌-◌, ◌*◌, ◌≤◌}
use native.Mathlib.Omega.{arith}
use Rattle.words.specs.Lists.{range}
use Rattle.defuse.specs.Writers.{notes}
use Rattle.flow.proofs.Standing.{room_as, first_fits, wrote_fits}
use Rattle.flow.proofs.Renewed.{rows_made, only_made}
use Rattle.flow.proofs.rows.block_rows.Goals as goal

pub block_sets-requires : goal.block_sets-requires
block_sets-requires c =
    let a = c.args in
    let ok = c.requires.0 in
    let room = room_as c.width.ensures c.requires.2 in
    let u = first_fits room c.requires.3 in
    let d = wrote_fits room c.requires.3 in
    let inside = ok.inside a.b.0 c.requires.3 in
    let long = c.clear_at.auto.bits in
    let long_2 = c.clear_at-2.auto.bits in (
      record { fits = omega (arith, u, long, long_2, c.width.ensures, c.first.ensures) },
      record { fits = omega (arith, d, long, long_2, c.width.ensures, c.writes.ensures) },
      rw (c.start.ensures, c.past.ensures) (ok.order a.b.0 c.requires.3),
      omega (arith, inside, ok.short, c.past.ensures),
      omega (arith, inside, c.past.ensures),
      c.requires.1,
    )

pub returns : goal.returns
returns c =
    let a = c.args in
    let f = a.code.now in
    let w = c.width.result in
    let room = room_as c.width.ensures c.requires.2 in
    let fit : a.regs ≤ 64 * w = omega (arith, c.width.ensures) in
    let cleared = rw c.first.ensures at c.clear_at.ensures in
    let cleared_2 = rw c.writes.ensures at c.clear_at-2.ensures in
    let run = rw (c.first.ensures, c.writes.ensures) at c.block_sets.ensures.bits in
    record {
      rows = rows_made a.bounds.now f.recs.now f.ops.now w a.b.0 a.bits.now c.requires.0 c.requires.1 fit room c.requires.3
          cleared cleared_2 c.start.ensures c.past.ensures run c.width.ensures refl;
      only_rows = only_made a.bounds.now f.recs.now f.ops.now w a.b.0 a.bits.now c.requires.0 c.requires.1 fit room c.requires.3
          cleared cleared_2 c.start.ensures c.past.ensures run c.width.ensures refl;
      writers = c.block_sets.ensures.writers ∙ ap₂ (λ (y v : ℕ). notes f.recs.now a.writers.now (range y (v - y))) c.start.ensures c.past.ensures;
    }
