-- `source::put_cells` meets its contract: one word more, until all are written. Assumes nothing.
use Rattle.std.proofs.Common.{◌≡◌, ◌∙◌, ap, ℕ, ◌+◌, ◌-◌, ◌++◌, map, arith}
use Rattle.words.specs.Lists.{concat, range}
use Rattle.rolesource.specs.Source.{cell}
use Rattle.rolesource.proofs.Printing.{made_more}
use Rattle.rolesource.proofs.source.put_cells.Goals as goal

pub loop-f-preserved : goal.loop-f-preserved
loop-f-preserved c =
    let f = c.loop-f.f in
    let l = c.args.line.now in
    let low = c.loop-f.auto.f in
    let at : f ≡ 48 + (f - 48) = omega (arith, low) in
    let next : f + 1 - 48 ≡ f - 48 + 1 = omega (arith, low) in
    record {
      text = made_more (λ f. cell f l) 48 (f - 48) (f + 1 - 48) _ _ _ (cell f l) next (ap (λ (k : ℕ). cell k l) at) c.loop-f.invariant.text c.put_cell.ensures.text;
      len = omega (arith, low, c.loop-f.invariant.len, c.put_cell.ensures.len);
    }

pub returns-clause-text : goal.returns-clause-text
returns-clause-text c =
    let f = c.loop-f.f in
    let l = c.args.line.now in
    let all : f - 48 ≡ 8 = omega (arith, c.loop-f.auto.f-end, c.loop-f-test.false) in
    c.loop-f.invariant.text ∙ ap (λ (n : ℕ). c.args.out.now.items ++ concat (map (λ f. cell f l) (range 48 n))) all
