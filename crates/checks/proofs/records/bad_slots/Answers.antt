-- `checks::records::bad_slots` meets its contract. Assumes nothing.
use borrow.Author.Rules.{rules}
use borrow.Author.Tests.{tests}
use mathlib.Core.Path.{refl, sym, ◌∙◌}
use Prim.Native.Nat.{◌+◌}
use lib.ListN.{get_or}
use Rattle.std.proofs.lemmas.Iterator.{YieldsList-from_range}
use Rattle.std.proofs.lemmas.Iterator.Search.{any_from_yields_List}
use Rattle.model.specs.Kinds.{off}
use Rattle.model.specs.Picture.{inst, roles}
use Rattle.model.specs.Refusal.{bad_slot}
use Rattle.checks.proofs.Slots.{five_slots}
use Rattle.checks.proofs.records.bad_slots.Goals as goal

pub returns : goal.returns
returns c =
    let a = c.args in
    let i = inst a.rec.recs.now a.rec.p in
    any_from_yields_List (λ s. bad_slot a.regs (get_or (roles i) s off) (get_or i (2 + s) 0)) _ _ c.any.result c.any.ensures.ran (YieldsList-from_range 0 5 5 refl refl) (λ x b q k. search (rules, tests))
    ∙ sym (five_slots a.rec.recs.now a.rec.p a.regs a.rec.within)
