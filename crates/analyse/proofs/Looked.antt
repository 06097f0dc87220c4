-- What is looked up of a register. Assumes nothing.
use Rattle.std.specs.Prelude.{Option, None, Some}
use mathlib.Core.Bool.{Bool, true, false, cond}
use mathlib.Core.List.{List}
use mathlib.Core.Path.{◌≡◌, refl, sym, ap, ◌∙◌, subst}
use Prim.Native.Nat.{ℕ, zero, suc, ◌+◌, ◌*◌, ◌-◌, ◌/◌, ◌%◌, ◌≤◌, ◌<◌}
use native.Mathlib.Omega.{arith}
use borrow.Author.Tests.{eq-eqb, ne_eqb}
use lib.Dec.{eqb}
use lib.ListN.{get_or, length, get_or-eq_default}
use Rattle.model.specs.Picture.{absent}
use Rattle.model.specs.Analyse.{Facts, Fact, Known, unknown, Unknown, Ro, Frame, no_fact, last_writer, org_of, len_of, when_some, known_of, small, positive, Read}
use Rattle.inst.specs.Index.{reg_of, word_of, Among}
use Rattle.inst.specs.declared.index.Reg.{Reg}
use Rattle.inst.proofs.Indices.{reg_made, among_made}
use Rattle.effects.specs.Origin.{org_at, num}
use Rattle.effects.proofs.Origins.{num_le}
use Rattle.effects.specs.declared.origin.Value.{Value}
use Rattle.regfacts.specs.Flags.{flags_of, origin_in, Seen}
use Rattle.analyse.specs.State.{place_at, left_in, Left, Marked, Ranges, Ranged, org_reg, len_reg, Reg?, Valued}
use Rattle.analyse.proofs.Layouts.{lay_low}

-- ---- bits

pub num_bit : (b : Bool) (n : ℕ) → n ≡ num b → eqb n 1 ≡ b
unfolding num
num_bit true n e = eq-eqb n 1 e
num_bit false n e = ne_eqb n 1 (λ q. omega arith)

module _ (k : Known) (f : ℕ) (e : f % 16 ≡ flags_of k) where
  parts : f % 16 ≡ num k.ro + 2 * num k.frame + 4 * num (when_some small k.konst) + 8 * num (when_some positive k.konst)
  unfolding flags_of
  parts = e

  pub ro_bit : eqb (f % 2) 1 ≡ k.ro
  ro_bit = num_bit k.ro (f % 2) (omega (arith, parts, num_le k.ro))

  pub frame_bit : eqb (f / 2 % 2) 1 ≡ k.frame
  frame_bit = num_bit k.frame (f / 2 % 2) (omega (arith, parts, num_le k.ro, num_le k.frame))

  pub small_bit : eqb (f / 4 % 2) 1 ≡ when_some small k.konst
  small_bit = num_bit (when_some small k.konst) (f / 4 % 2) (omega (arith, parts, num_le k.ro, num_le k.frame, num_le (when_some small k.konst)))

  pub positive_bit : eqb (f / 8 % 2) 1 ≡ when_some positive k.konst
  positive_bit = num_bit (when_some positive k.konst) (f / 8 % 2) (omega (arith, parts, num_le k.ro, num_le k.frame, num_le (when_some small k.konst), num_le (when_some positive k.konst)))

  pub origin_is : org_at (origin_in f) ≡ cond k.ro Ro (cond k.frame Frame Unknown)
  unfolding origin_in org_at
  origin_is = ap (λ (b : Bool). org_at (cond b 1 (cond (eqb (f / 2 % 2) 1) 3 0))) ro_bit ∙ ap (λ (b : Bool). org_at (cond k.ro 1 (cond b 3 0))) frame_bit ∙ go k.ro k.frame
    where
      go : (x y : Bool) → org_at (cond x 1 (cond y 3 0)) ≡ cond x Ro (cond y Frame Unknown)
      go true y = refl
      go false true = refl
      go false false = refl

pub origin_low : {o : ℕ} (f : ℕ) → o ≡ origin_in f → o < 4
unfolding origin_in
origin_low f e = subst (λ (x : ℕ). x < 4) (sym e) (go (eqb (f % 2) 1) (eqb (f / 2 % 2) 1))
  where
    go : (x y : Bool) → cond x 1 (cond y 3 0) < 4
    go true y = omega arith
    go false true = omega arith
    go false false = omega arith

-- ---- a register

abbrev read : List Fact → ℕ → Read
read past r = record { reg = r; writer = last_writer 0 past r }

org_none : (G : Facts) (past : List Fact) (r : ℕ) → r ≡ absent → org_at 0 ≡ org_reg G past r
unfolding org_reg org_at
org_none G past r e = sym (ap (λ (b : Bool). cond b Unknown (org_of G past (read past r))) (eq-eqb r absent e))

len_none : (G : Facts) (past : List Fact) (r : ℕ) → r ≡ absent → false ≡ len_reg G past r
unfolding len_reg
len_none G past r e = sym (ap (λ (b : Bool). cond b false (len_of G past (read past r))) (eq-eqb r absent e))

pub divisor_none : {G : Facts} {R : ℕ} {regs : List ℕ} → Seen G R regs → R ≤ 65536 → (r : ℕ) → r ≡ absent → false ≡ when_some positive (known_of G r).konst
divisor_none {G} s h r e = sym (ap (λ (k : Known). when_some positive k.konst) (get_or-eq_default G unknown (omega (arith, s.size, h, e))))

pub divisor_some : {G : Facts} {R : ℕ} {regs : List ℕ} → Seen G R regs → (r v : ℕ) → r < R → v ≡ get_or regs r 0 → eqb (v / 8 % 2) 1 ≡ when_some positive (known_of G r).konst
divisor_some {G} s r v h e = positive_bit (known_of G r) v (ap (λ (x : ℕ). x % 16) e ∙ s.flags r h)

module _ (G : Facts) (past : List Fact) (r : ℕ) (n : r ≡ absent → ⊥) where
  org_some : org_reg G past r ≡ org_of G past (read past r)
  unfolding org_reg
  org_some = ap (λ (b : Bool). cond b Unknown (org_of G past (read past r))) (ne_eqb r absent n)

  len_some : len_reg G past r ≡ len_of G past (read past r)
  unfolding len_reg
  len_some = ap (λ (b : Bool). cond b false (len_of G past (read past r))) (ne_eqb r absent n)

  org_by : (o : Option ℕ) → last_writer 0 past r ≡ o → org_reg G past r ≡ org_of G past (record { reg = r; writer = o })
  org_by o e = org_some ∙ ap (λ (x : Option ℕ). org_of G past (record { reg = r; writer = x })) e

  len_by : (o : Option ℕ) → last_writer 0 past r ≡ o → len_reg G past r ≡ len_of G past (record { reg = r; writer = o })
  len_by o e = len_some ∙ ap (λ (x : Option ℕ). len_of G past (record { reg = r; writer = x })) e

module _ {G : Facts} {past : List Fact} {R : ℕ} {regs : List ℕ} (s : Marked G past R regs) (r : ℕ) (n : r ≡ absent → ⊥) (h : r < R) (v : ℕ) (ev : v ≡ get_or regs r 0) where
  flags_at : v % 16 ≡ flags_of (known_of G r)
  flags_at = ap (λ (x : ℕ). x % 16) ev ∙ s.seen.flags r h

  writer_at : place_at (v / 16 % 1024) ≡ last_writer 0 past r
  writer_at = ap (λ (x : ℕ). place_at (x / 16 % 1024)) ev ∙ s.writer r h

  nobody : v < 16 → last_writer 0 past r ≡ None
  unfolding place_at
  nobody l = let z : v / 16 % 1024 ≡ 0 = omega arith in sym writer_at ∙ ap place_at z

  -- by the flags
  pub valued_flags : (o : ℕ) → o ≡ origin_in v → v < 16 → Valued G past r (record { org = o; len = eqb (v / 4 % 2) 1; layout = false })
  valued_flags o e l = record {
    org = ap org_at e ∙ origin_is (known_of G r) v flags_at ∙ sym (org_by G past r n None (nobody l));
    len = small_bit (known_of G r) v flags_at ∙ sym (len_by G past r n None (nobody l));
    layout = lay_low past o (origin_low v e);
  }

  -- by what the last writer left
  pub valued_left : {x : Value} → x ≡ left_in v → (d : ℕ) → v / 16 % 1024 ≡ suc d → Valued G past r x
  unfolding place_at
  valued_left {x} e d ed =
      let l : Left past x (get_or past d no_fact) = subst (λ (z : Value). Left past z (get_or past d no_fact)) (sym (e ∙ ap left_in ev)) (s.left r h d (sym (ap (λ (z : ℕ). z / 16 % 1024) ev) ∙ ed)) in
      let w : last_writer 0 past r ≡ Some d = sym writer_at ∙ ap place_at ed in
      record { org = l.org ∙ sym (org_by G past r n (Some d) w); len = l.len ∙ sym (len_by G past r n (Some d) w); layout = l.layout }

pub valued_none : (G : Facts) (past : List Fact) (r : ℕ) → r ≡ absent → Valued G past r (record { org = 0; len = false; layout = false })
valued_none G past r e = record { org = org_none G past r e; len = len_none G past r e; layout = lay_low past 0 (omega arith) }

-- a word with a writer
pub a_writer : {n : ℕ} (v : ℕ) {w : ℕ} → v ≡ w → Ranges n w → 16 ≤ v → v / 16 % 1024 ≡ suc (v / 16 % 1024 - 1)
a_writer v {w} e g h = go (v / 16 % 1024) refl
  where
    go : (d : ℕ) → v / 16 % 1024 ≡ d → d ≡ suc (d - 1)
    go zero q = let z = g.none (sym (ap (λ (x : ℕ). x / 16 % 1024) e) ∙ q) in absurd (omega (arith, z, e, h))
    go (suc d) q = omega arith

pub left_org : {n v w : ℕ} {x : Value} → v ≡ w → Ranges n w → x ≡ left_in v → x.org < 4 + 2 * n
unfolding left_in
left_org {n} {v} {w} {x} e g q = subst (λ (z : ℕ). z < 4 + 2 * n) (sym (ap (λ (z : Value). z.org) q ∙ ap (λ (z : ℕ). z / 16384 % 2048) e)) g.org

-- ---- a word of what is read, made a register

module _ {R n : ℕ} {regs : List ℕ} (g : Ranged R n regs) (r : ℕ) {m : Option Reg} where
  pub made_reg : Reg? R r → m ≡ reg_of r R → Among R m × (word_of m ≡ r)
  made_reg h e = reg_made r R (omega (arith, g.in_use, g.lent)) h e

  pub read_reg : m ≡ reg_of r R → Among (length regs) m
  read_reg e = among_made r R e refl (length regs) (omega (arith, g.in_use, g.lent)) g.in_use
