-- `summary::reads::all_read` meets its contract. Assumes nothing.
use borrow.Author.Rules.{rules}
use mathlib.Core.Path.{refl}
use Rattle.std.specs.Prelude.{Some}
use Rattle.inst.specs.declared.index.Reg.{Reg}
use Rattle.inst.proofs.Gathered.{slots_below, list_below}
use Rattle.regfacts.proofs.Visiting.{read_low, written_low}
use Rattle.summary.proofs.Places.{held, held_tested}
use Rattle.words.proofs.Alls.{parts_no, parts_on}
use Rattle.summary.proofs.reads.all_read.Goals as goal

pub visit-v-requires-clause-read : goal.visit-v-requires-clause-read
visit-v-requires-clause-read g c = read_low c.requires.good

pub visit-v-requires-clause-written : goal.visit-v-requires-clause-written
visit-v-requires-clause-written g c = written_low c.requires.good.fits

pub all_regs-requires : goal.all_regs-requires
all_regs-requires g c =
    let low = slots_below _ _ c.visit-v.ensures.reads (read_low c.requires.good) in
    record { can = λ r i. let can = c.requires.can (Some r) (held _ low r (rw c.as_slice.ensures at i) refl).among in search rules }

pub all_listed-requires-clause-low : goal.all_listed-requires-clause-low
all_listed-requires-clause-low g c = rw c.list.ensures (list_below _ _ c.visit-v.ensures.reads (read_low c.requires.good))

pub returns-then-not-all_regs : goal.returns-then-not-all_regs
returns-then-not-all_regs g c = λ t h.
    let all_is = c.visit-v.ensures.reads in
    let low = slots_below _ _ all_is (read_low c.requires.good) in
    let same = rw c.as_slice.ensures at c.all_regs.ensures t (λ r b i p. held_tested _ low h r b i (search rules)) in
    parts_no t (λ (r : Reg). r.0) _ _ all_is same c.if-not-all_regs.true

pub returns : goal.returns
returns g c = λ t h.
    let all_is = c.visit-v.ensures.reads in
    let low = slots_below _ _ all_is (read_low c.requires.good) in
    let same = rw c.as_slice.ensures at c.all_regs.ensures t (λ r b i p. held_tested _ low h r b i (search rules)) in
    let rest = rw c.list.ensures at c.all_listed.ensures t (record { each = λ m b a p. h.each m b a (search rules) }) in
    parts_on t (λ (r : Reg). r.0) _ _ all_is same c.if-not-all_regs.false rest
