-- What slots s to 4 read or write, one slot after the other, and the list after them. Assumes nothing.
use mathlib.Core.Bool.{Bool, true, false, cond, not, ◌&&◌}
use mathlib.Core.List.{List, [], ◌∷◌, ◌++◌, map}
use mathlib.Core.Path.{◌≡◌, refl, sym, ap, ◌∙◌}
use Prim.Native.Nat.{ℕ, zero, suc, ◌+◌, ◌≤◌, ◌<◌}
use native.Mathlib.Nat.{not-suc-le-zero, le_of_suc-le-suc}
use native.Mathlib.Numerals.{add-one}
use native.Mathlib.Omega.{arith}
use lib.Dec.{eqb}
use lib.ListN.{get_or, length, drop, drop_of_length-le}
use Rattle.words.specs.Lists.{upto, concat}
use Rattle.model.specs.Kinds.{Role, off, reading, writing}
use Rattle.model.specs.Picture.{Inst, inst, absent, roles, slots, chosen, reads, writes, list_of}
use Rattle.inst.specs.Record.{Within, read_at, write_at, present, rest_reads, rest_writes}
use Rattle.inst.proofs.Words.{slots_long, slot_is}

module _ (f : Role → Bool) (z : f off ≡ false) where
  abbrev at : List Role → List ℕ → ℕ → ℕ
  at os rs s = cond (f (get_or os s off)) (get_or rs s 0) absent

  none : (r : ℕ) → present (cond (f off) r absent) ≡ []
  unfolding present
  none r = ap (λ (b : Bool). present (cond b r absent)) z

  one : (b c : Bool) (r : ℕ) (more : List ℕ) → eqb r absent ≡ c → cond (b && not c) (r ∷ more) more ≡ present (cond b r absent) ++ more
  unfolding present
  one true true r more e = sym (ap (λ (x : Bool). cond x [] (r ∷ []) ++ more) e)
  one true false r more e = sym (ap (λ (x : Bool). cond x [] (r ∷ []) ++ more) e)
  one false c r more e = refl

  step : (os : List Role) (rs : List ℕ) (s : ℕ) → s < length rs → chosen f (drop s os) (drop s rs) ≡ present (at os rs s) ++ chosen f (drop (suc s) os) (drop (suc s) rs)
  step [] rs zero h = sym (ap (λ (l : List ℕ). l ++ []) (none (get_or rs 0 0)))
  step [] rs (suc s) h = sym (ap (λ (l : List ℕ). l ++ []) (none (get_or rs (suc s) 0)))
  step (o ∷ os) [] s h = absurd (not-suc-le-zero h)
  step (o ∷ os) (r ∷ rs) zero h = one (f o) (eqb r absent) r (chosen f os rs) refl
  step (o ∷ os) (r ∷ rs) (suc s) h = step os rs s (le_of_suc-le-suc h)

  over : (os : List Role) → chosen f os [] ≡ []
  over [] = refl
  over (o ∷ os) = refl

  -- of a whole record
  module _ (recs : List ℕ) (p : ℕ) (w : Within recs p) where
    abbrev i : Inst
    i = inst recs p

    rest_step : (s : ℕ) → s < 5 → chosen f (drop s (roles i)) (drop s (slots i)) ≡ present (cond (f (get_or (roles i) s off)) (get_or i (2 + s) 0) absent) ++ chosen f (drop (s + 1) (roles i)) (drop (s + 1) (slots i))
    rest_step s h =
        step (roles i) (slots i) s (rw (slots_long recs p w) h)
        ∙ ap (λ (x : ℕ). present (cond (f (get_or (roles i) s off)) x absent) ++ chosen f (drop (suc s) (roles i)) (drop (suc s) (slots i))) (slot_is i s h)
        ∙ ap (λ (x : ℕ). present (cond (f (get_or (roles i) s off)) (get_or i (2 + s) 0) absent) ++ chosen f (drop x (roles i)) (drop x (slots i))) (sym (add-one s))

    rest_end : (s : ℕ) → 5 ≤ s → chosen f (drop s (roles i)) (drop s (slots i)) ≡ []
    rest_end s h = ap (chosen f (drop s (roles i))) (drop_of_length-le (slots i) {i = s} (rw (slots_long recs p w) h)) ∙ over (drop s (roles i))

pub reads_all : (ops : List ℕ) (i : Inst) → rest_reads i 0 ++ list_of ops i ≡ reads ops i
unfolding rest_reads
reads_all ops i = refl

pub writes_all : (i : Inst) → rest_writes i 0 ≡ writes i
unfolding rest_writes
writes_all i = refl

module _ (recs : List ℕ) (p : ℕ) (w : Within recs p) where
  abbrev j : Inst
  j = inst recs p

  pub reads_step : (s : ℕ) → s < 5 → rest_reads j s ≡ present (read_at j s) ++ rest_reads j (s + 1)
  unfolding rest_reads read_at
  reads_step s h = rest_step reading refl recs p w s h

  pub writes_step : (s : ℕ) → s < 5 → rest_writes j s ≡ present (write_at j s) ++ rest_writes j (s + 1)
  unfolding rest_writes write_at
  writes_step s h = rest_step writing refl recs p w s h

  -- the same with the register in hand
  pub reads_next : {r : ℕ} (s : ℕ) → s < 5 → r ≡ read_at j s → rest_reads j s ≡ present r ++ rest_reads j (s + 1)
  reads_next s h e = reads_step s h ∙ ap (λ (x : ℕ). present x ++ rest_reads j (s + 1)) (sym e)

  pub writes_next : {r : ℕ} (s : ℕ) → s < 5 → r ≡ write_at j s → rest_writes j s ≡ present r ++ rest_writes j (s + 1)
  writes_next s h e = writes_step s h ∙ ap (λ (x : ℕ). present x ++ rest_writes j (s + 1)) (sym e)

  pub reads_end : (s : ℕ) → 5 ≤ s → rest_reads j s ≡ []
  unfolding rest_reads
  reads_end s h = rest_end reading refl recs p w s h

  pub writes_end : (s : ℕ) → 5 ≤ s → rest_writes j s ≡ []
  unfolding rest_writes
  writes_end s h = rest_end writing refl recs p w s h

-- five steps to the end
five : (g : ℕ → ℕ) (f : ℕ → List ℕ) → ((s : ℕ) → s < 5 → f s ≡ present (g s) ++ f (s + 1)) → f 5 ≡ [] → concat (map (λ s. present (g s)) (upto 5)) ≡ f 0
five g f on end =
    sym (on 0 (omega arith) ∙ ap (λ (l : List ℕ). present (g 0) ++ l)
    (on 1 (omega arith) ∙ ap (λ (l : List ℕ). present (g 1) ++ l)
    (on 2 (omega arith) ∙ ap (λ (l : List ℕ). present (g 2) ++ l)
    (on 3 (omega arith) ∙ ap (λ (l : List ℕ). present (g 3) ++ l)
    (on 4 (omega arith) ∙ ap (λ (l : List ℕ). present (g 4) ++ l) end)))))

module _ (recs : List ℕ) (p : ℕ) (w : Within recs p) where
  -- the present reads by place are what `model` says it reads in its slots, and so the writes
  pub reads_by_place : concat (map (λ s. present (read_at (inst recs p) s)) (upto 5)) ≡ chosen reading (roles (inst recs p)) (slots (inst recs p))
  unfolding rest_reads
  reads_by_place = five (read_at (inst recs p)) (rest_reads (inst recs p)) (reads_step recs p w) (reads_end recs p w 5 (omega arith))

  pub writes_by_place : concat (map (λ s. present (write_at (inst recs p) s)) (upto 5)) ≡ writes (inst recs p)
  unfolding rest_writes
  writes_by_place = five (write_at (inst recs p)) (rest_writes (inst recs p)) (writes_step recs p w) (writes_end recs p w 5 (omega arith))
