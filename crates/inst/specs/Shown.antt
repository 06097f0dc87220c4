-- The instruction that a record shows. Assumes nothing.
use Rattle.model.specs.Picture.{Inst, inst}
use Rattle.inst.specs.declared.record.Record.{Record}

abbrev pub shown : Record → Inst
shown r = inst r.recs.now r.p
