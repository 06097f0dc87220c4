-- `analyse::judge::ask` meets its contract. Assumes nothing.
use mathlib.Core.Path.{refl, sym, ap, ◌∙◌}
use native.Mathlib.Omega.{arith}
use Rattle.regfacts.specs.Flags.{is_length}
use Rattle.analyse.proofs.Looked.{read_reg, made_reg}
use Rattle.analyse.proofs.judge.ask.Goals as goal

pub value_of-v0-requires : goal.value_of-v0-requires
value_of-v0-requires c = read_reg c.requires.0 _ c.new.ensures

pub value_of-v1-requires : goal.value_of-v1-requires
value_of-v1-requires c = read_reg c.requires.0 _ c.new-r1.ensures

pub value_of-v2-requires : goal.value_of-v2-requires
value_of-v2-requires c = read_reg c.requires.0 _ c.new-2.ensures

pub is_divisor-requires : goal.is_divisor-requires
is_divisor-requires c =
    read_reg c.requires.0 _ c.new-r1.ensures

pub invariant_of-result : goal.invariant_of-result
invariant_of-result c =
    let ranged = c.requires.0 in
    let in_use = c.requires.2 in
    record {
      low = record {
        place = ranged.few;
        first = (c.value_of-v0.ensures _ _ (made_reg ranged _ in_use.r0 c.new.ensures).0 ranged).0;
        second = (c.value_of-v1.ensures _ _ (made_reg ranged _ in_use.r1 c.new-r1.ensures).0 ranged).0;
      };
    }

pub returns : goal.returns
returns c =
    let ranged = c.requires.0 in
    let in_use = c.requires.2 in
    let m0 = made_reg ranged _ in_use.r0 c.new.ensures in
    let m1 = made_reg ranged _ in_use.r1 c.new-r1.ensures in
    let m2 = made_reg ranged _ in_use.r2 c.new-2.ensures in
    let v0 = c.value_of-v0.ensures _ _ m0.0 ranged in
    let v1 = c.value_of-v1.ensures _ _ m1.0 ranged in
    let v2 = c.value_of-v2.ensures _ _ m2.0 ranged in (
      refl,
      λ ops G past h e s.
          let k0 = v0.1 G past e s in
          let k1 = v1.1 G past e s in
          let k2 = v2.1 G past e s in
          let r0 = m0.1 ∙ h.r0 in
          let r1 = m1.1 ∙ h.r1 in
          let r2 = m2.1 ∙ h.r2 in
          record {
            form = sym c.form.ensures;
            list = sym c.list_len.ensures.0;
            small = sym (c.is_length.ensures ∙ ap is_length c.decode.ensures);
            p = sym e;
            o0 = rw r0 at k0.org;
            o1 = rw r1 at k1.org;
            o2 = rw r2 at k2.org;
            l0 = rw r0 at k0.len;
            l1 = rw r1 at k1.len;
            l2 = rw r2 at k2.len;
            divisor = rw r1 at (c.is_divisor.ensures G _ m1.0 (omega (arith, ranged.in_use, ranged.lent)) s.seen);
            layout = k0.layout;
            layout1 = k1.layout;
          },
    )
