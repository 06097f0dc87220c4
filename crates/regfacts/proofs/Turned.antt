-- The facts on registers as flags: a constant's, a record's, and of every register. Assumes nothing.
use Rattle.std.specs.Prelude.{Option, None, Some}
use Rattle.std.specs.Ordering.{is_le}
use Rattle.std.specs.declared.cmp.Ordering.TheVariants.{Less, Equal, Greater}
use mathlib.Core.Bool.{Bool, true, false, cond, not, ◌||◌, ◌&&◌, and-true}
use mathlib.Core.List.{List}
use mathlib.Core.Logic.{◌⊎◌, inl, inr, ⊎_elim}
use mathlib.Core.Path.{◌≡◌, refl, sym, ap, ◌∙◌}
use Prim.Native.Nat.{ℕ, zero, suc, ◌+◌, ◌*◌, ◌-◌, ◌≤◌, ◌<◌}
use native.Mathlib.Decide.{ℕ_discrete}
use native.Mathlib.Nat.{not-suc-le-zero}
use native.Mathlib.Omega.{arith}
use borrow.Author.Tests.{ne_eqb, eqb-false, leb-true, leb-false, ltb-true, le-leb, lt-leb}
use lib.Dec.{eqb, leb, ltb}
use lib.Ieee.{binary64, nan_bits}
use lib.IntN.{ℤ, pos, negsuc}
use lib.Signed.{lt_z}
use lib.ListN.{get_or, length, replicate, set, length-set}
use lib.Seq.{get_or-set_same, get_or-set_other}
use Rattle.words.specs.Lists.{upto}
use Rattle.model.specs.Kinds.{Const, ConstF}
use Rattle.model.specs.Picture.{Inst, inst, is_kind}
use Rattle.model.specs.Analyse.{Org, Unknown, Ro, Frame, same_org, whole, unknown, known, small, positive, when_some}
use Rattle.inst.specs.Constant.{bits_of, constant_of}
use Rattle.inst.specs.Record.{Within}
use Rattle.inst.proofs.Constants.{constant_by}
use Rattle.words.proofs.Bools.{and_no}
use Rattle.effects.specs.Origin.{org_at, num}
use Rattle.effects.proofs.Origins.{same_at}
use Rattle.defuse.specs.Writers.{many, notes}
use Rattle.regfacts.specs.Flags.{flags_of, flags_in, sole_of, known_from, Found}
use Rattle.regfacts.proofs.Writers.{sole_writer, sole_small}

-- ---- a constant

-- what a range asks of one bound
at_most : (a b : ℕ) → is_le (cond (ltb a b) Less (cond (ltb b a) Greater Equal)) ≡ leb a b
at_most a b = go (ltb a b) (ltb b a) (leb a b) refl refl refl
  where
    go : (x y z : Bool) → ltb a b ≡ x → ltb b a ≡ y → leb a b ≡ z → is_le (cond x Less (cond y Greater Equal)) ≡ z
    go true y true p q r = refl
    go true y false p q r = let h = ltb-true a b p in let k = leb-false a b r in absurd (omega (arith, h, k))
    go false true true p q r = let h = ltb-true b a q in let k = leb-true a b r in absurd (omega (arith, h, k))
    go false true false p q r = refl
    go false false true p q r = refl
    go false false false p q r = let h = leb-false (suc b) a q in let k = leb-false a b r in absurd (omega (arith, h, k))

abbrev lies : ℤ → ℤ → Bool
lies a b = is_le (cond (lt_z a b) Less (cond (lt_z b a) Greater Equal))

pub small_is : (z : ℤ) → lies (negsuc 1099511627775) z && lies z (pos 1099511627776) ≡ small z
small_is (pos n) = at_most n 1099511627776
small_is (negsuc n) = and-true (lies (negsuc 1099511627775) (negsuc n)) ∙ at_most n 1099511627775 ∙ go (leb n 1099511627775) refl
  where
    go : (b : Bool) → leb n 1099511627775 ≡ b → b ≡ leb (suc n) 1099511627776
    go true e = let h = leb-true n 1099511627775 e in sym (le-leb (suc n) 1099511627776 (omega (arith, h)))
    go false e = let h = leb-false n 1099511627775 e in sym (lt-leb (suc n) 1099511627776 (omega (arith, h)))

-- ---- a record

-- an address by the origin that it has
addresses : (o f : ℕ) → org_at o ≡ cond (eqb f 2 || eqb f 4) Ro (cond (eqb f 0) Frame Unknown) → (eqb o 1 ≡ (eqb f 2 || eqb f 4)) × (eqb o 3 ≡ eqb f 0)
unfolding org_at
addresses o f e =
    (sym (same_at o 1) ∙ ap (λ (x : Org). same_org x Ro) e ∙ is_ro (eqb f 2 || eqb f 4) (eqb f 0), sym (same_at o 3) ∙ ap (λ (x : Org). same_org x Frame) e ∙ is_frame (eqb f 2 || eqb f 4) (eqb f 0) ∙ apart f)
  where
    is_ro : (a b : Bool) → same_org (cond a Ro (cond b Frame Unknown)) Ro ≡ a
    is_ro true b = refl
    is_ro false true = refl
    is_ro false false = refl

    is_frame : (a b : Bool) → same_org (cond a Ro (cond b Frame Unknown)) Frame ≡ (not a && b)
    is_frame true b = refl
    is_frame false true = refl
    is_frame false false = refl

    apart : (f : ℕ) → (not (eqb f 2 || eqb f 4) && eqb f 0) ≡ eqb f 0
    apart zero = refl
    apart (suc f) = and_no (not (eqb (suc f) 2 || eqb (suc f) 4)) (ne_eqb (suc f) 0 (λ q. omega arith)) ∙ sym (ne_eqb (suc f) 0 (λ q. omega arith))

abbrev packed : Bool → Bool → Bool → Inst → ℕ
packed a f c i =
    let k : Option ℤ = elim c [ true ↦ Some (whole i) | false ↦ None ] in
    num (a && (eqb (get_or i 1 0) 2 || eqb (get_or i 1 0) 4)) + 2 * num (a && eqb (get_or i 1 0) 0) + 4 * num (when_some small k) + 8 * num (when_some positive k)

flags_by : (i : Inst) (a c : Bool) → eqb (get_or i 0 0) 3 ≡ a → eqb (get_or i 0 0) 0 ≡ c → flags_of (known i) ≡ packed a a c i
unfolding flags_of
flags_by i a c ea ec =
    ap (λ (x : Bool). packed x x (eqb (get_or i 0 0) 0) i) ea ∙ ap (λ (x : Bool). packed a a x i) ec

module _ (i : Inst) where
  pub address_flags : {k f a b : ℕ} (o : ℕ) → k ≡ get_or i 0 0 → k ≡ 3 → f ≡ get_or i 1 0 → org_at o ≡ cond (eqb f 2 || eqb f 4) Ro (cond (eqb f 0) Frame Unknown) → a ≡ num (eqb o 1) → b ≡ num (eqb o 3) → a + 2 * b ≡ flags_of (known i)
  unfolding num
  address_flags {k} {f} {a} {b} o ek e ef eo ea eb =
      let h = flags_by i true false (ap (λ (n : ℕ). eqb n 3) (sym ek ∙ e)) (ap (λ (n : ℕ). eqb n 0) (sym ek ∙ e)) in
      let ga : a ≡ num (eqb (get_or i 1 0) 2 || eqb (get_or i 1 0) 4) = ea ∙ ap num (addresses o f eo).0 ∙ ap (λ (n : ℕ). num (eqb n 2 || eqb n 4)) ef in
      let gb : b ≡ num (eqb (get_or i 1 0) 0) = eb ∙ ap num (addresses o f eo).1 ∙ ap (λ (n : ℕ). num (eqb n 0)) ef in
      omega (arith, h, ga, gb)

  constant_by_kind : (c : Bool) → is_kind Const i ≡ c → packed false false c i ≡ flags_in (constant_of i)
  unfolding num flags_in
  constant_by_kind true e =
      let z : packed false false true i ≡ 4 * num (small (whole i)) + 8 * num (positive (whole i)) = omega arith in
      z ∙ ap flags_in (sym (constant_by i true (is_kind ConstF i) (nan_bits binary64 (bits_of i)) e refl refl))
  constant_by_kind false e = go (is_kind ConstF i) (nan_bits binary64 (bits_of i)) refl refl
    where
      go : (b n : Bool) → is_kind ConstF i ≡ b → nan_bits binary64 (bits_of i) ≡ n → 0 ≡ flags_in (constant_of i)
      go true true eb en = ap flags_in (sym (constant_by i false true true e eb en))
      go true false eb en = ap flags_in (sym (constant_by i false true false e eb en))
      go false n eb en = ap flags_in (sym (constant_by i false false n e eb en))

  pub constant_flags : {k : ℕ} → k ≡ get_or i 0 0 → (k ≡ 3 → ⊥) → flags_in (constant_of i) ≡ flags_of (known i)
  constant_flags {k} ek n =
      sym (flags_by i false (is_kind Const i) (ne_eqb (get_or i 0 0) 3 (λ q. n (ek ∙ q))) refl ∙ constant_by_kind (is_kind Const i) refl)

-- ---- a register, by its writer's word

pub sole_none : (recs : List ℕ) (v : ℕ) → (eqb v 0 || eqb v many) ≡ true → 0 ≡ flags_of (sole_of recs v)
unfolding sole_of flags_of num
sole_none recs zero e = refl
sole_none recs (suc v) e = ap (λ (b : Bool). flags_of (cond b unknown (known (inst recs v)))) (sym (simp (ne_eqb (suc v) 0 (λ q. omega arith)) at e))

pub sole_some : (recs : List ℕ) (v : ℕ) → (eqb v 0 || eqb v many) ≡ false → (1 ≤ v) × (v ≡ many → ⊥) × (known (inst recs (v - 1)) ≡ sole_of recs v)
unfolding sole_of
sole_some recs zero e = absurd (mathlib.Core.Bool.true≢false e)
sole_some recs (suc v) e =
    let f : eqb (suc v) many ≡ false = simp (ne_eqb (suc v) 0 (λ q. omega arith)) at e in
    let m : suc v - 1 ≡ v = omega arith in
    (omega arith, eqb-false (suc v) many f, ap (λ (x : ℕ). known (inst recs x)) m ∙ ap (λ (b : Bool). cond b unknown (known (inst recs v))) (sym f))

pub sole_within : (recs : List ℕ) (v : ℕ) {q : ℕ} → (eqb v 0 || eqb v many) ≡ false → (v ≡ many) ⊎ (16 * v ≤ length recs) → q ≡ v - 1 → Within recs q
sole_within recs v e (inl z) f = absurd ((sole_some recs v e).1 z)
sole_within recs v e (inr z) f = let a = (sole_some recs v e).0 in record { whole = omega arith }

-- ---- all of them

-- below r the words are facts, from there on the writers of old
pub record Turning (recs old : List ℕ) (n r : ℕ) (words : List ℕ) : Type 0 where
  pub size : length words ≡ length old
  pub done : (k : ℕ) → k < r → get_or words k 0 ≡ flags_of (known_from recs n k)
  pub todo : (k : ℕ) → r ≤ k → get_or words k 0 ≡ get_or old k 0

pub turning_none : (recs old : List ℕ) (n : ℕ) → Turning recs old n 0 old
turning_none recs old n = record { size = refl; done = λ k h. absurd (not-suc-le-zero h); todo = λ k h. refl }

module _ {recs old : List ℕ} {n r : ℕ} {xs : List ℕ} where
  pub turning_end : Turning recs old n r xs → length old ≤ r → Found recs n (length old) xs
  turning_end t h = record { size = t.size; each = λ k l. t.done k (omega arith) }

  module _ (few : n ≤ 32768) (noted_all : old ≡ notes recs (replicate (length old) 0) (upto n)) (t : Turning recs old n r xs) (h : r < length old) where
    pub turning_more : {v : ℕ} → v ≡ flags_of (sole_of recs (get_or xs r 0)) → Turning recs old n (r + 1) (set xs r v)
    turning_more {v} e = record {
      size = length-set xs r v ∙ t.size;
      done = λ k l. go k l (ℕ_discrete k r);
      todo = λ k l. get_or-set_other xs r k v 0 (λ q. omega arith) ∙ t.todo k (omega arith);
    }
      where
        go : (k : ℕ) → k < r + 1 → Dec (k ≡ r) → get_or (set xs r v) k 0 ≡ flags_of (known_from recs n k)
        go k l (yes q) =
            ap (λ (x : ℕ). get_or (set xs r v) x 0) q ∙ get_or-set_same xs r v 0 (omega (arith, t.size)) ∙ e
            ∙ ap (λ (x : ℕ). flags_of (sole_of recs x)) (t.todo r (omega arith))
            ∙ ap flags_of (sole_writer recs few noted_all r h) ∙ ap (λ (x : ℕ). flags_of (known_from recs n x)) (sym q)
        go k l (no q) = get_or-set_other xs r k v 0 q ∙ t.done k (omega arith)

    pub turning_fits : 16 * n ≤ length recs → (get_or xs r 0 ≡ many) ⊎ (16 * get_or xs r 0 ≤ length recs)
    turning_fits long =
        let e = t.todo r (omega arith) in
        ⊎_elim (λ (q : get_or old r 0 ≡ many). inl (e ∙ q)) (λ (q : get_or old r 0 ≤ n). inr (omega (arith, e))) (sole_small recs few noted_all r h)
