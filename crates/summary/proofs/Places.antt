-- What stands in a place, a slot or an element of a list, made a register; and a test of it. Assumes nothing.
use Rattle.std.specs.Prelude.{Option, Some}
use mathlib.Core.Path.{◌≡◌, refl, sym, ap, ◌∙◌}
use mathlib.Core.Logic.{◌⊎◌, inr}
use mathlib.Core.Bool.{Bool, true, false, ◌&&◌, ◌||◌, cond}
use mathlib.Core.List.{List, [], ◌∷◌, ◌++◌, map}
use Prim.Native.Nat.{ℕ, ◌+◌, ◌≤◌, ◌<◌}
use native.Mathlib.Omega.{arith}
use borrow.Author.Tests.{ne_eqb}
use lib.Dec.{eqb}
use Rattle.words.specs.Lists.{In, all}
use Rattle.words.proofs.Members.{map_in}
use Rattle.model.specs.Picture.{inst, absent}
use Rattle.inst.specs.Index.{reg_of, word_of, Among, Low}
use Rattle.inst.specs.declared.index.Reg.{Reg}
use Rattle.inst.specs.Record.{write_at, present, rest_writes}
use Rattle.inst.proofs.Indices.{reg_made}
use Rattle.inst.proofs.Rest.{writes_step}
use Rattle.regfacts.specs.Written.{Fits}
use Rattle.summary.specs.Passes.{Tests}

-- m is the register n of count, or none
pub record AsReg (count n : ℕ) (m : Option Reg) : Type 0 where
  pub among : Among count m
  pub word : word_of m ≡ n

as_reg : {R n : ℕ} → R ≤ 65536 → (n ≡ absent) ⊎ (n < R) → {m : Option Reg} → m ≡ reg_of n R → AsReg R n m
as_reg {R} {n} few l q = let made = reg_made n R (omega (arith, few)) l q in record { among = made.0; word = made.1 }

-- ---- a slot

pub slot_made : {recs : List ℕ} {R g s : ℕ} → Fits recs R g → s < 5 → {m : Option Reg} → m ≡ reg_of (write_at (inst recs g) s) R → AsReg R (write_at (inst recs g) s) m
slot_made {s = s} f h q = as_reg f.room (f.slot s h) q

-- a word that is a register, or none, and then more
pub present_tested : (f : ℕ → Bool) (w : ℕ) (ys : List ℕ) → all f (present w ++ ys) ≡ ((eqb w absent || f w) && all f ys)
unfolding present
present_tested f w ys = go (eqb w absent)
  where
    go : (b : Bool) → all f (cond b [] (w ∷ []) ++ ys) ≡ ((b || f w) && all f ys)
    go true = refl
    go false = refl

-- what slot s writes, and then what those after it do
pub slot_tested : {recs : List ℕ} {R g : ℕ} (f : ℕ → Bool) → Fits recs R g → (s : ℕ) → s < 5 → (c : Bool) {b : Bool} → b ≡ (eqb (write_at (inst recs g) s) absent || f (write_at (inst recs g) s)) → b ≡ c
    → all f (rest_writes (inst recs g) s) ≡ (c && all f (rest_writes (inst recs g) (s + 1)))
slot_tested {recs} {R} {g} f h s l c {b} e n =
    ap (all f) (writes_step recs g h.whole.within s l) ∙ present_tested f (write_at (inst recs g) s) (rest_writes (inst recs g) (s + 1))
    ∙ ap (λ (x : Bool). x && all f (rest_writes (inst recs g) (s + 1))) (sym e ∙ n)

-- ---- one of R registers, where R is the length of what is at hand

module _ {R n : ℕ} {xs : List ℕ} (low : Low R xs) (i : In n xs) where
  pub in_made : {count : ℕ} → count ≡ R → {m : Option Reg} → m ≡ reg_of n count → AsReg count n m
  in_made e q = let h = low.each n i in as_reg (omega (arith, low.few, e)) (inr (omega (arith, h, e))) q

  -- a test that none passes
  pub in_tested : {t : ℕ → Bool} {post : Option Reg → Bool → Type 0} {m : Option Reg} {b : Bool} → Tests R post t → AsReg R n m → post m b → b ≡ t n
  in_tested {t} {m = m} {b = b} k a p =
      let h = low.each n i in
      k.each m b a.among p ∙ ap (λ (r : ℕ). eqb r absent || t r) a.word ∙ ap (λ (y : Bool). y || t n) (ne_eqb n absent (λ e. absurd (omega (arith, e, h, low.few))))

-- it is one of those held
module _ {R : ℕ} (regs : List Reg) (low : Low R (map (λ (r : Reg). r.0) regs)) where
  pub held : (r : Reg) → In r regs → {count : ℕ} → count ≡ R → AsReg count r.0 (Some r)
  held r i {count} e =
      let h = low.each r.0 (map_in (λ (r : Reg). r.0) r regs i) in
      record { among = (omega (arith, h, e), omega (arith, h, low.few)); word = refl }

  pub held_tested : {t : ℕ → Bool} {post : Option Reg → Bool → Type 0} → Tests R post t → (r : Reg) (b : Bool) → In r regs → post (Some r) b → b ≡ t r.0
  held_tested k r b i p = in_tested low (map_in (λ (r : Reg). r.0) r regs i) k (held r i refl) p
