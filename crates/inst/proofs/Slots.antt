-- One slot by its place: what was looked up says which register it reads or writes. Assumes nothing.
use mathlib.Core.Bool.{Bool, cond}
use mathlib.Core.List.{List}
use mathlib.Core.Path.{◌≡◌, sym, ap, ◌∙◌}
use Prim.Native.Nat.{ℕ, ◌+◌, ◌/◌, ◌%◌, ◌≤◌, ◌<◌}
use native.Mathlib.Omega.{arith}
use lib.Dec.{eqb}
use lib.ListN.{get_or}
use borrow.Author.Tests.{eq-eqb, ne_eqb}
use Rattle.model.specs.Kinds.{Role, off, reading, writing}
use Rattle.model.specs.Picture.{inst, absent, roles}
use Rattle.inst.specs.Table.{does, two_bits}
use Rattle.inst.specs.Record.{word, Used, read_at, write_at}
use Rattle.inst.proofs.Resolved.{does_slot, does_small, reading_is, writing_is}

-- a test of a role that is a number's
module _ (f : Role → Bool) (n : ℕ) (is : (o : Role) → f o ≡ eqb (does o) n) (o : Role) (d v : ℕ) (e : d ≡ does o) where
  chosen_yes : d ≡ n → v ≡ cond (f o) v absent
  chosen_yes h = sym (ap (λ (b : Bool). cond b v absent) (is o ∙ eq-eqb (does o) n (sym e ∙ h)))

  chosen_no : (d ≡ n → ⊥) → absent ≡ cond (f o) v absent
  chosen_no h = sym (ap (λ (b : Bool). cond b v absent) (is o ∙ ne_eqb (does o) n (λ q. h (e ∙ q))))

module _ (recs : List ℕ) (p u s : ℕ) (g : Used recs p u) (l : s < 5) where
  abbrev o : Role
  o = get_or (roles (inst recs p)) s off

  pub does_is : two_bits u s ≡ does o
  does_is = ap (λ (x : ℕ). two_bits x s) g.uses ∙ does_slot (inst recs p) s l

  -- of its two bits the lower says that it is read, the upper that it is written
  module _ (d : ℕ) (e : d ≡ two_bits u s) where
    few : d ≤ 2
    few = rw (e ∙ does_is) (does_small o)

    pub read_yes : {v : ℕ} → d % 2 ≡ 1 → v ≡ word recs p (2 + s) → v ≡ read_at (inst recs p) s
    unfolding read_at
    read_yes h q = q ∙ chosen_yes reading 1 reading_is o d (word recs p (2 + s)) (e ∙ does_is) (omega (arith, few))

    pub read_no : (d % 2 ≡ 1 → ⊥) → absent ≡ read_at (inst recs p) s
    unfolding read_at
    read_no h = chosen_no reading 1 reading_is o d (word recs p (2 + s)) (e ∙ does_is) (λ z. h (omega arith))

    pub write_yes : {v : ℕ} → d / 2 ≡ 1 → v ≡ word recs p (2 + s) → v ≡ write_at (inst recs p) s
    unfolding write_at
    write_yes h q = q ∙ chosen_yes writing 2 writing_is o d (word recs p (2 + s)) (e ∙ does_is) (omega (arith, few))

    pub write_no : (d / 2 ≡ 1 → ⊥) → absent ≡ write_at (inst recs p) s
    unfolding write_at
    write_no h = chosen_no writing 2 writing_is o d (word recs p (2 + s)) (e ∙ does_is) (λ z. h (omega arith))
