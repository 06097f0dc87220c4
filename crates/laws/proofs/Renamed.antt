-- Slots renamed as `apply` does it: the registers read and written are those of before, renamed; absent slots stay absent; and if
-- registers below R become registers below R', slots that were fit stay so. Assumes nothing.
use mathlib.Core.Path.{◌≡◌, refl, sym, ap, ap₂, ◌∙◌}
use mathlib.Core.Bool.{Bool, true, false, not, ◌&&◌, ◌||◌, cond}
use mathlib.Core.List.{List, [], ◌∷◌, map}
use Prim.Native.Nat.{ℕ, zero, suc, ◌≤◌, ◌<◌}
use native.Mathlib.Omega.{arith}
use lib.Dec.{eqb, leb}
use lib.ListN.{get_or, length}
use borrow.Author.Tests.{leb-false, lt-leb}
use Rattle.words.proofs.Bools.{clash, or_left, or_right}
use Rattle.model.specs.Kinds.{Role, off, wr, rd, wr?, rd?, reading, writing}
use Rattle.model.specs.Picture.{absent, chosen}
use Rattle.model.specs.Refusal.{bad_slot, bad_slots}
use Rattle.model.specs.Move.{renamed}

-- no register is renamed to `absent`
abbrev pub Present : (ℕ → ℕ) → Type 0
Present f = (r : ℕ) → eqb r absent ≡ false → eqb (f r) absent ≡ false

module _ (f g : ℕ → ℕ) (u : Present f) (v : Present g) where
  abbrev word : Bool → Role → ℕ → ℕ
  word c o r = cond c r (cond (reading o) (f r) (cond (writing o) (g r) r))

  read_step : (r : ℕ) (c : Bool) → eqb r absent ≡ c → (o : Role) (xs ys : List ℕ) → xs ≡ map f ys
      → cond (reading o && not (eqb (word c o r) absent)) (word c o r ∷ xs) xs ≡ map f (cond (reading o && not c) (r ∷ ys) ys)
  read_step r c e off xs ys h = h
  read_step r c e wr xs ys h = h
  read_step r c e wr? xs ys h = h
  read_step r true e rd xs ys h = rw e h
  read_step r true e rd? xs ys h = rw e h
  read_step r false e rd xs ys h = rw (u r e) (ap (λ (l : List ℕ). f r ∷ l) h)
  read_step r false e rd? xs ys h = rw (u r e) (ap (λ (l : List ℕ). f r ∷ l) h)

  write_step : (r : ℕ) (c : Bool) → eqb r absent ≡ c → (o : Role) (xs ys : List ℕ) → xs ≡ map g ys
      → cond (writing o && not (eqb (word c o r) absent)) (word c o r ∷ xs) xs ≡ map g (cond (writing o && not c) (r ∷ ys) ys)
  write_step r c e off xs ys h = h
  write_step r c e rd xs ys h = h
  write_step r c e rd? xs ys h = h
  write_step r true e wr xs ys h = rw e h
  write_step r true e wr? xs ys h = rw e h
  write_step r false e wr xs ys h = rw (v r e) (ap (λ (l : List ℕ). g r ∷ l) h)
  write_step r false e wr? xs ys h = rw (v r e) (ap (λ (l : List ℕ). g r ∷ l) h)

  -- the registers that are read, and written, are those of before, renamed
  pub reads_renamed : (os : List Role) (rs : List ℕ) → chosen reading os (renamed f g os rs) ≡ map f (chosen reading os rs)
  reads_renamed [] rs = refl
  reads_renamed (o ∷ os) [] = refl
  reads_renamed (o ∷ os) (r ∷ rs) = read_step r (eqb r absent) refl o (chosen reading os (renamed f g os rs)) (chosen reading os rs) (reads_renamed os rs)

  pub writes_renamed : (os : List Role) (rs : List ℕ) → chosen writing os (renamed f g os rs) ≡ map g (chosen writing os rs)
  writes_renamed [] rs = refl
  writes_renamed (o ∷ os) [] = refl
  writes_renamed (o ∷ os) (r ∷ rs) = write_step r (eqb r absent) refl o (chosen writing os (renamed f g os rs)) (chosen writing os rs) (writes_renamed os rs)

pub length_renamed : (f g : ℕ → ℕ) (os : List Role) (rs : List ℕ) → length (renamed f g os rs) ≡ length rs
length_renamed f g os [] = refl
length_renamed f g [] (r ∷ rs) = ap suc (length_renamed f g [] rs)
length_renamed f g (o ∷ os) (r ∷ rs) = ap suc (length_renamed f g os rs)

-- ---- absent slots

module _ (f g : ℕ → ℕ) (u : Present f) (v : Present g) where
  pub word_absent : (o : Role) (r : ℕ) → eqb (cond (eqb r absent) r (cond (reading o) (f r) (cond (writing o) (g r) r))) absent ≡ eqb r absent
  word_absent o r = go (eqb r absent) refl (reading o) (writing o)
    where
      go : (c : Bool) → eqb r absent ≡ c → (a b : Bool) → eqb (cond c r (cond a (f r) (cond b (g r) r))) absent ≡ eqb r absent
      go true e a b = refl
      go false e true b = u r e ∙ sym e
      go false e false true = v r e ∙ sym e
      go false e false false = refl

  pub slot_absent : (os : List Role) (rs : List ℕ) (k : ℕ) → eqb (get_or (renamed f g os rs) k 0) absent ≡ eqb (get_or rs k 0) absent
  slot_absent os [] k = refl
  slot_absent [] (r ∷ rs) zero = refl
  slot_absent [] (r ∷ rs) (suc k) = slot_absent [] rs k
  slot_absent (o ∷ os) (r ∷ rs) zero = word_absent o r
  slot_absent (o ∷ os) (r ∷ rs) (suc k) = slot_absent os rs k

-- ---- slots stay fit

pub optional_there : (a b : Bool) → (a && not b) ≡ false → b ≡ false → a ≡ false
optional_there true b e f = clash (ap not f) e
optional_there false b e f = refl

optional_more : (a a' b : Bool) → (a ≡ false → a' ≡ false) → (a && b) ≡ false → (a' && b) ≡ false
optional_more true true b h e = e
optional_more true false b h e = refl
optional_more false a' b h e = ap (λ (x : Bool). x && b) (h refl)

-- where more registers are in use
pub slot_more : (R R' : ℕ) → R ≤ R' → (o : Role) (r : ℕ) → bad_slot R o r ≡ false → bad_slot R' o r ≡ false
slot_more R R' h off r e = e
slot_more R R' h wr r e = let l = leb-false R r e in lt-leb R' r (omega arith)
slot_more R R' h rd r e = let l = leb-false R r e in lt-leb R' r (omega arith)
slot_more R R' h wr? r e = optional_more (leb R r) (leb R' r) (not (eqb r absent)) (λ q. let l = leb-false R r q in lt-leb R' r (omega arith)) e
slot_more R R' h rd? r e = optional_more (leb R r) (leb R' r) (not (eqb r absent)) (λ q. let l = leb-false R r q in lt-leb R' r (omega arith)) e

pub slots_more : (R R' : ℕ) → R ≤ R' → (os : List Role) (rs : List ℕ) → bad_slots R os rs ≡ false → bad_slots R' os rs ≡ false
slots_more R R' h os [] e = refl
slots_more R R' h [] (r ∷ rs) e = ap₂ ◌||◌ (or_left (bad_slot R off r) (bad_slots R [] rs) e) (slots_more R R' h [] rs (or_right (bad_slot R off r) (bad_slots R [] rs) e))
slots_more R R' h (o ∷ os) (r ∷ rs) e = ap₂ ◌||◌ (slot_more R R' h o r (or_left (bad_slot R o r) (bad_slots R os rs) e)) (slots_more R R' h os rs (or_right (bad_slot R o r) (bad_slots R os rs) e))

-- where they are renamed
module _ (f g : ℕ → ℕ) (R R' : ℕ) (more : R ≤ R') (low_f : (r : ℕ) → r < R → f r < R') (low_g : (r : ℕ) → r < R → g r < R') where
  slot_fit : (o : Role) (r : ℕ) (c : Bool) → eqb r absent ≡ c → bad_slot R o r ≡ false → bad_slot R' o (cond c r (cond (reading o) (f r) (cond (writing o) (g r) r))) ≡ false
  slot_fit o r true e b = slot_more R R' more o r b
  slot_fit off r false e b = clash (ap not e) b
  slot_fit wr r false e b = lt-leb R' (g r) (low_g r (leb-false R r b))
  slot_fit rd r false e b = lt-leb R' (f r) (low_f r (leb-false R r b))
  slot_fit wr? r false e b = ap (λ (x : Bool). x && not (eqb (g r) absent)) (lt-leb R' (g r) (low_g r (leb-false R r (optional_there (leb R r) (eqb r absent) b e))))
  slot_fit rd? r false e b = ap (λ (x : Bool). x && not (eqb (f r) absent)) (lt-leb R' (f r) (low_f r (leb-false R r (optional_there (leb R r) (eqb r absent) b e))))

  pub slots_fit_renamed : (os : List Role) (rs : List ℕ) → bad_slots R os rs ≡ false → bad_slots R' os (renamed f g os rs) ≡ false
  slots_fit_renamed os [] e = refl
  slots_fit_renamed [] (r ∷ rs) e = ap₂ ◌||◌ (or_left (bad_slot R off r) (bad_slots R [] rs) e) (slots_fit_renamed [] rs (or_right (bad_slot R off r) (bad_slots R [] rs) e))
  slots_fit_renamed (o ∷ os) (r ∷ rs) e =
      ap₂ ◌||◌ (slot_fit o r (eqb r absent) refl (or_left (bad_slot R o r) (bad_slots R os rs) e)) (slots_fit_renamed os rs (or_right (bad_slot R o r) (bad_slots R os rs) e))
