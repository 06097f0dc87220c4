-- The five slots of a record, one by one. Assumes nothing.
use mathlib.Core.Path.{◌≡◌, refl, sym, ap, ◌∙◌}
use mathlib.Core.Bool.{Bool, true, false, not, ◌&&◌, ◌||◌, true≢false}
use mathlib.Core.List.{List, [], ◌∷◌}
use Prim.Native.Nat.{ℕ, zero, suc, ◌+◌, ◌<◌}
use native.Mathlib.Nat.{not-suc-le-zero, le_of_suc-le-suc}
use native.Mathlib.Omega.{arith}
use lib.Dec.{eqb, leb}
use lib.ListN.{length, get_or, drop, drop_of_length-le}
use Rattle.words.proofs.Bools.{or_left, or_right}
use Rattle.model.specs.Kinds.{Role, off, wr, rd, wr?, rd?}
use Rattle.model.specs.Picture.{Inst, inst, absent, kind, form, roles, slots}
use Rattle.model.specs.Refusal.{bad_slot, bad_slots}
use Rattle.inst.specs.Table.{packed, uses, three_bits, does}
use Rattle.inst.specs.Record.{Within, uses_of, bad_at}
use Rattle.inst.proofs.Resolved.{uses_resolved, does_slot, code_slot, bad_is}
use Rattle.inst.proofs.Words.{slots_long, slot_is}
use Rattle.checks.specs.Plain.{odd_at, odd_slot}

module _ (R : ℕ) where
  no_role : (rs : List ℕ) (s : ℕ) → s < length rs → bad_slots R [] (drop s rs) ≡ (bad_slot R off (get_or rs s 0) || bad_slots R [] (drop (suc s) rs))
  no_role [] s h = absurd (not-suc-le-zero h)
  no_role (r ∷ rs) zero h = refl
  no_role (r ∷ rs) (suc s) h = no_role rs s (le_of_suc-le-suc h)

  step : (os : List Role) (rs : List ℕ) (s : ℕ) → s < length rs
      → bad_slots R (drop s os) (drop s rs) ≡ (bad_slot R (get_or os s off) (get_or rs s 0) || bad_slots R (drop (suc s) os) (drop (suc s) rs))
  step [] rs zero h = no_role rs zero h
  step [] rs (suc s) h = no_role rs (suc s) h
  step (o ∷ os) [] s h = absurd (not-suc-le-zero h)
  step (o ∷ os) (r ∷ rs) zero h = refl
  step (o ∷ os) (r ∷ rs) (suc s) h = step os rs s (le_of_suc-le-suc h)

  over : (os : List Role) → bad_slots R os [] ≡ false
  over [] = refl
  over (o ∷ os) = refl

-- what the slots do, by the row
pub uses_are : (i : Inst) {x u : ℕ} → x ≡ packed (kind i) (form i) → u ≡ uses x → u ≡ uses_of i
uses_are i ex e = e ∙ ap uses ex ∙ uses_resolved i

-- slot s by its role
pub asked : (i : Inst) (R s : ℕ) → s < 5 → (a r : ℕ) → a ≡ three_bits (uses_of i) s → r ≡ get_or i (2 + s) 0 → bad_at R a r ≡ bad_slot R (get_or (roles i) s off) (get_or i (2 + s) 0)
asked i R s h a r e q = rw (e, q, code_slot i s h) (sym (bad_is R (get_or i (2 + s) 0) (get_or (roles i) s off)))

-- a slot that is not odd, b saying that it is absent and l that it is no register: where nothing is done with it, and else
unused : (b l : Bool) → (b && not true || not b && true || not b && l) ≡ false → not b ≡ false
unused true l h = refl
unused false l h = h

used : (b l : Bool) → (b && not false || not b && false || not b && l) ≡ false → l ≡ false
used true l h = absurd (true≢false h)
used false l h = h

there : (b l : Bool) → (b && not false || not b && false || not b && l) ≡ false → b ≡ false
there true l h = h
there false l h = refl

-- a bad slot is odd
odd_first : (R r : ℕ) (o : Role) → odd_at R (does o) r ≡ false → bad_slot R o r ≡ false
odd_first R r off h = unused (eqb r absent) (leb R r) h
odd_first R r wr h = used (eqb r absent) (leb R r) h
odd_first R r rd h = used (eqb r absent) (leb R r) h
odd_first R r wr? h = ap (λ (b : Bool). b && not (eqb r absent)) (used (eqb r absent) (leb R r) h)
odd_first R r rd? h = ap (λ (b : Bool). b && not (eqb r absent)) (used (eqb r absent) (leb R r) h)

module _ (recs : List ℕ) (p R : ℕ) (w : Within recs p) where
  abbrev i : Inst
  i = inst recs p

  abbrev bad : ℕ → Bool
  bad s = bad_slot R (get_or (roles i) s off) (get_or i (2 + s) 0)

  abbrev rest : ℕ → Bool
  rest s = bad_slots R (drop s (roles i)) (drop s (slots i))

  next : (s : ℕ) → s < 5 → rest s ≡ (bad s || rest (suc s))
  next s h =
      step R (roles i) (slots i) s (rw (slots_long recs p w) h)
      ∙ ap (λ (x : ℕ). bad_slot R (get_or (roles i) s off) x || rest (suc s)) (slot_is i s h)

  end : rest 5 ≡ false
  end = ap (bad_slots R (drop 5 (roles i))) (drop_of_length-le (slots i) {i = 5} (rw (slots_long recs p w) (omega arith))) ∙ over R (drop 5 (roles i))

  -- as an iterator's `any` over the five has it
  pub five_slots : bad_slots R (roles i) (slots i) ≡ (bad 0 || (bad 1 || (bad 2 || (bad 3 || (bad 4 || false)))))
  five_slots =
      next 0 (omega arith) ∙ ap (λ (b : Bool). bad 0 || b)
      (next 1 (omega arith) ∙ ap (λ (b : Bool). bad 1 || b)
      (next 2 (omega arith) ∙ ap (λ (b : Bool). bad 2 || b)
      (next 3 (omega arith) ∙ ap (λ (b : Bool). bad 3 || b)
      (next 4 (omega arith) ∙ ap (λ (b : Bool). bad 4 || b) end))))

  -- where none is odd, none is bad
  module _ (u : ℕ) (e : u ≡ uses_of i) where
    not_odd : (s : ℕ) → s < 5 → odd_slot R u i s ≡ false → bad s ≡ false
    not_odd s h q = odd_first R (get_or i (2 + s) 0) (get_or (roles i) s off) (rw (e, does_slot i s h) at q)

    also : {b c : Bool} (s : ℕ) → s < 5 → (b ≡ false → c ≡ false) → (odd_slot R u i s || b) ≡ false → (bad s || c) ≡ false
    also {b} {c} s h more q = ap (λ (x : Bool). x || c) (not_odd s h (or_left (odd_slot R u i s) b q)) ∙ more (or_right (odd_slot R u i s) b q)

    last : odd_slot R u i 4 ≡ false → odd_slot R u i 3 ≡ false → (bad 3 || (bad 4 || false)) ≡ false
    last o q = ap (λ (x : Bool). x || (bad 4 || false)) (not_odd 3 (omega arith) q) ∙ ap (λ (x : Bool). x || false) (not_odd 4 (omega arith) o)

    pub none_odd : (odd_slot R u i 0 || (odd_slot R u i 1 || (odd_slot R u i 2 || odd_slot R u i 3))) ≡ false → odd_slot R u i 4 ≡ false
        → bad_slots R (roles i) (slots i) ≡ false
    none_odd q o = five_slots ∙ also 0 (omega arith) (also 1 (omega arith) (also 2 (omega arith) (last o))) q

    -- a register that is read stands there
    pub read_stands : (s : ℕ) → s < 5 → does (get_or (roles i) s off) ≡ 1 → odd_slot R u i s ≡ false → eqb (get_or i (2 + s) 0) absent ≡ false
    read_stands s h d q = there (eqb (get_or i (2 + s) 0) absent) (leb R (get_or i (2 + s) 0)) (rw (e, does_slot i s h, d) at q)
