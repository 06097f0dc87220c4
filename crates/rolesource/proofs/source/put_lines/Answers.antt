-- `source::put_lines` meets its contract: one line more, until one cannot stand or none is left. Assumes nothing.
use Rattle.std.proofs.Common.{◌≡◌, ◌∙◌, refl, sym, ap, ℕ, Bool, cond, ◌+◌, ◌-◌, zero-add, append-nil, arith}
use Rattle.rolelist.specs.Text.{line}
use Rattle.rolelist.specs.Listed.{kinds, first_bad}
use Rattle.rolesource.specs.Source.{row}
use Rattle.rolelist.proofs.Listing.{ready, goes_on, kinds_more, stopped, ended, all_kinds}
use Rattle.rolesource.proofs.Printing.{made_more}
use Rattle.rolesource.proofs.source.put_lines.Goals as goal

pub loop-m-init : goal.loop-m-init
unfolding kinds
loop-m-init c =
    let n = c.lines-n.result in
    let whole : n ≡ n - 0 = omega arith in
    record {
      good = ap (λ (k : ℕ). first_bad 0 k c.args.list.now) whole;
      count = refl;
      text = sym (append-nil c.args.out.now.items);
      room = omega (arith, c.requires.1);
    }

pub returns-then-not-stands-clause-unread : goal.returns-then-not-stands-clause-unread
returns-then-not-stands-clause-unread c =
    stopped c.args.list.now c.loop-m.m c.lines-n.result c.lines-n.ensures.count c.loop-m-test.true (sym c.if-not-stands.true ∙ c.stands.ensures) c.loop-m.invariant.good

pub put_line-k-requires : goal.put_line-k-requires
put_line-k-requires c =
    let stands = sym c.if-not-stands.false ∙ c.stands.ensures in
    (λ e. ready c.args.list.now c.loop-m.m c.loop-m.k c.line.result.now c.loop-m.invariant.count c.line.ensures stands e, c.loop-m.invariant.room)

pub loop-m-preserved : goal.loop-m-preserved
loop-m-preserved c =
    let t = c.args.list.now in
    let m = c.loop-m.m in
    let i = c.loop-m.invariant in
    let stands = sym c.if-not-stands.false ∙ c.stands.ensures in
    record {
      good = goes_on t m c.lines-n.result c.loop-m-test.true stands i.good;
      count = kinds_more t m c.loop-m.k c.put_line-k.result c.line.result.now i.count c.line.ensures c.put_line-k.ensures.count;
      text = made_more (λ n. row (line n t)) 0 m (m + 1) _ _ _ (row c.line.result.now) refl (ap row c.line.ensures ∙ ap (λ (n : ℕ). row (line n t)) (sym (zero-add m))) i.text c.put_line-k.ensures.text;
      room = c.put_line-k.ensures.room;
    }

pub overflow_add-result-else-complete : goal.overflow_add-result-else-complete
overflow_add-result-else-complete c = omega (arith, c.lines-n.ensures.count, c.lines-n.ensures.few, c.requires.0)

pub returns-then-complete-clause-unread : goal.returns-then-complete-clause-unread
returns-then-complete-clause-unread c =
    let n = c.lines-n.result in
    ap (λ (b : Bool). cond b 0 (n + 1)) (sym c.if-complete.true)
    ∙ ended c.args.list.now c.loop-m.m n c.complete.result c.lines-n.ensures.count c.loop-m-test.false c.loop-m.auto.m-end c.complete.ensures c.loop-m.invariant.good

pub returns-then-complete-clause-room : goal.returns-then-complete-clause-room
returns-then-complete-clause-room c e =
    let all = all_kinds c.args.list.now c.loop-m.m c.lines-n.result c.loop-m.k c.lines-n.ensures.count c.loop-m-test.false c.loop-m.auto.m-end c.loop-m.invariant.count (sym c.if-complete.true ∙ c.complete.ensures) in
    omega (arith, all, c.loop-m.invariant.room)

pub returns-else-complete-clause-unread : goal.returns-else-complete-clause-unread
returns-else-complete-clause-unread c =
    let n = c.lines-n.result in
    ap (λ (b : Bool). cond b 0 (n + 1)) (sym c.if-complete.false)
    ∙ ended c.args.list.now c.loop-m.m n c.complete.result c.lines-n.ensures.count c.loop-m-test.false c.loop-m.auto.m-end c.complete.ensures c.loop-m.invariant.good
