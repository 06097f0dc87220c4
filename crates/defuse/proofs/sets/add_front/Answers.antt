-- `defuse::sets::add_front` meets its contract. Assumes nothing.
use mathlib.Core.Path.{sym, ap, subst, ◌∙◌}
use native.Mathlib.Omega.{arith}
use Rattle.model.specs.Picture.{inst, list_of}
use Rattle.inst.specs.Record.{rest_reads}
use Rattle.inst.proofs.Rest.{reads_all}
use Rattle.words.specs.Steps.{steps}
use Rattle.inst.specs.Index.{Low}
use Rattle.inst.proofs.Gathered.{slots_low, list_low}
use Rattle.defuse.specs.Sets.{put}
use Rattle.defuse.proofs.Runs.{all_before}
use Rattle.defuse.proofs.sets.add_front.Goals as goal

pub write_slots-requires : goal.write_slots-requires
write_slots-requires c = let g = c.requires in let e = c.slots-slots.ensures in (g.0, g.1, rw (e.recs, e.place) g.6, rw e.place g.2)

pub read_slots-requires : goal.read_slots-requires
read_slots-requires c =
    let g = c.requires in
    let e = c.slots-slots.ensures in
    (record { fits = omega (arith, g.0.fits, c.write_slots.auto.bits) }, rw (e.recs, e.place) (slots_low c.args.code.now.ops.now _ g.5))

pub read_list-requires : goal.read_list-requires
read_list-requires c =
    let g = c.requires in
    let f = c.args.code.now in
    (record { fits = omega (arith, g.0.fits, c.write_slots.auto.bits, c.read_slots.auto.bits) }, subst (Low c.args.at.regs) (sym c.list.ensures) (list_low f.ops.now (inst f.recs.now c.args.p) g.5))

pub returns : goal.returns
returns c =
    let a = c.args in
    let f = a.code.now in
    let e = c.slots-slots.ensures in
    let i = inst f.recs.now a.p in
    let wrote = rw (e.recs, e.place) at c.write_slots.ensures in
    record {
      bits = all_before f.ops.now a.at.u a.at.d i (rest_reads i 0) (list_of f.ops.now i) _ (reads_all _ _)
          wrote.bits (rw (e.recs, e.place) at c.read_slots.ensures) (c.read_list.ensures ∙ ap (steps (put a.at.u) _) c.list.ensures);
      writers = wrote.writers;
    }
