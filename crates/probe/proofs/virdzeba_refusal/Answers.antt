-- `virdzeba_refusal` meets its contract. Assumes nothing.
use mathlib.Core.Path.{sym}
use mathlib.Core.List.{[]}
use Rattle.checks.specs.Causes.{picture_of}
use Rattle.probe.proofs.Given.{none, its_number}
use Rattle.probe.proofs.virdzeba_refusal.Goals as goal

pub returns-in-Err : goal.returns-in-Err
returns-in-Err c =
    let a = c.args in
    its_number (picture_of a.bounds.now a.recs.now a.locs.now a.vias.now a.types.now a.registers a.ops.now a.operands a.pairs.now a.targets.now []) a.w64 a.w32 a.records c.accept.ensures c.in-Err.is c.number.ensures

pub returns-in-Ok : goal.returns-in-Ok
returns-in-Ok c =
    let a = c.args in
    sym (none (picture_of a.bounds.now a.recs.now a.locs.now a.vias.now a.types.now a.registers a.ops.now a.operands a.pairs.now a.targets.now []) a.w64 a.w32 a.records c.accept.ensures c.in-Ok.is)
