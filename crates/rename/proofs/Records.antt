-- A record whose slots and list start were stored anew is the record that the model makes. Assumes nothing.
use mathlib.Core.Path.{◌≡◌, refl, sym, ap, ap₂, ◌∙◌, subst}
use mathlib.Core.Bool.{Bool, true, false, cond}
use mathlib.Core.List.{List, [], ◌∷◌, ◌++◌}
use Prim.Native.Nat.{ℕ, zero, suc, ◌+◌, ◌-◌, ◌*◌, ◌≤◌, ◌<◌}
use native.Mathlib.Nat.{not-suc-le-zero, le_of_suc-le-suc}
use native.Mathlib.Omega.{arith}
use borrow.Author.Tests.{ltb-true, ltb-false}
use lib.Dec.{eqb, ltb}
use lib.ListN.{length, get_or, set, take, drop, length-set, length-drop, length-append, get_or-append}
use lib.Seq.{get_or-set_same, get_or-set_other, get_or-take, get_or-drop, ext_get_or, length-take-le, get_or-append-add}
use Rattle.model.specs.Kinds as K
use Rattle.model.specs.Picture.{Inst, inst, absent, slots, roles}
use Rattle.model.specs.Move.{Job, renamed, made}
use Rattle.inst.proofs.Words.{word_is}
use Rattle.rename.specs.Names.{slotted, Slotted, job, named, reg_or}
use Rattle.laws.proofs.Renamed.{length_renamed}
use Rattle.inst.specs.Table.{does, two_bits}
use Rattle.inst.specs.Record.{Used}
use Rattle.inst.proofs.Resolved.{does_slot, reading_is, writing_is}

-- ---- the words of a made record

abbrev pub one : (ℕ → ℕ) → (ℕ → ℕ) → K.Role → ℕ → ℕ
one rd wr o r = cond (eqb r absent) r (cond (K.reading o) (rd r) (cond (K.writing o) (wr r) r))

same_one : (rd wr : ℕ → ℕ) (r : ℕ) → r ≡ one rd wr K.off r
same_one rd wr r = go (eqb r absent)
  where
    go : (b : Bool) → r ≡ cond b r r
    go true = refl
    go false = refl

renamed_at : (rd wr : ℕ → ℕ) (os : List K.Role) (rs : List ℕ) (s : ℕ) → s < length rs → get_or (renamed rd wr os rs) s 0 ≡ one rd wr (get_or os s K.off) (get_or rs s 0)
renamed_at rd wr os [] s h = absurd (not-suc-le-zero h)
renamed_at rd wr [] (r ∷ rs) zero h = same_one rd wr r
renamed_at rd wr [] (r ∷ rs) (suc s) h = renamed_at rd wr [] rs s (le_of_suc-le-suc h)
renamed_at rd wr (o ∷ os) (r ∷ rs) zero h = refl
renamed_at rd wr (o ∷ os) (r ∷ rs) (suc s) h = renamed_at rd wr os rs s (le_of_suc-le-suc h)

module _ (j : Job) (start : ℕ) (e : length j.old ≡ 16) where
  abbrev i : Inst
  i = j.old

  abbrev new : List ℕ
  new = renamed j.rd j.wr (roles i) (slots i)

  five_slots : length (slots i) ≡ 5
  five_slots = length-take-le 5 (drop 2 i) (simp length-drop (omega arith))

  five : length new ≡ 5
  five = length_renamed j.rd j.wr (roles i) (slots i) ∙ five_slots

  two : length (take 2 i) ≡ 2
  two = length-take-le 2 i (omega arith)

  seven : length (take 2 i ++ new) ≡ 7
  seven = length-append (take 2 i) new ∙ omega (arith, two, five)

  made_length : length (made j start) ≡ 16
  made_length = length-append (take 2 i ++ new) (start ∷ drop 8 i) ∙ (let q : length (start ∷ drop 8 i) ≡ 9 = ap suc (length-drop 8 i) ∙ omega arith in omega (arith, seven))

  pub made_head : (k : ℕ) → k < 2 → get_or (made j start) k 0 ≡ get_or i k 0
  made_head k h =
      get_or-append (take 2 i ++ new) (start ∷ drop 8 i) 0 k (omega (arith, seven)) ∙ get_or-append (take 2 i) new 0 k (omega (arith, two)) ∙ get_or-take 2 i k 0 h

  pub made_slot : (s : ℕ) → s < 5 → get_or (made j start) (2 + s) 0 ≡ one j.rd j.wr (get_or (roles i) s K.off) (get_or i (2 + s) 0)
  made_slot s h =
      get_or-append (take 2 i ++ new) (start ∷ drop 8 i) 0 (2 + s) (omega (arith, seven))
      ∙ ap (λ (n : ℕ). get_or (take 2 i ++ new) (n + s) 0) (sym two) ∙ get_or-append-add (take 2 i) new s 0
      ∙ renamed_at j.rd j.wr (roles i) (slots i) s (omega (arith, five_slots))
      ∙ ap (one j.rd j.wr (get_or (roles i) s K.off)) (get_or-take 5 (drop 2 i) s 0 h ∙ get_or-drop 2 i s 0)

  made_tail : (t : ℕ) → get_or (made j start) (7 + t) 0 ≡ get_or (start ∷ drop 8 i) t 0
  made_tail t = ap (λ (n : ℕ). get_or (take 2 i ++ new ++ start ∷ drop 8 i) (n + t) 0) (sym seven) ∙ get_or-append-add (take 2 i ++ new) (start ∷ drop 8 i) t 0

-- ---- a record by its words

pub inst_length : (zs : List ℕ) (p : ℕ) → 16 * p + 16 ≤ length zs → length (inst zs p) ≡ 16
inst_length zs p h = length-take-le 16 (drop (16 * p) zs) (simp length-drop (omega arith))

-- two stretches of words are the same
pub inst_same : (xs ys : List ℕ) (q : ℕ) → length ys ≡ length xs → 16 * q + 16 ≤ length xs → ((k : ℕ) → k < 16 → get_or ys (16 * q + k) 0 ≡ get_or xs (16 * q + k) 0) → inst ys q ≡ inst xs q
inst_same xs ys q e h f =
    let a = inst_length xs q h in
    let b = inst_length ys q (omega arith) in
    ext_get_or 0 (inst ys q) (inst xs q) (b ∙ sym a) (λ k l. let m : k < 16 = omega arith in sym (word_is ys q k m) ∙ f k m ∙ word_is xs q k m)

module _ (p start : ℕ) {nw uses : ℕ} {ws xs ys : List ℕ} (h : Slotted p uses ws nw xs ys 5) (known : Used xs p uses) where
  abbrev old : Inst
  old = inst xs p

  abbrev zs : List ℕ
  zs = set ys (16 * p + 7) start

  old_length : length old ≡ 16
  old_length = inst_length xs p known.within.whole

  zs_length : length zs ≡ length xs
  zs_length = length-set ys (16 * p + 7) start ∙ h.size

  word : (k : ℕ) → k < 16 → get_or old k 0 ≡ get_or xs (16 * p + k) 0
  word k h = sym (word_is xs p k h)

  len : 16 * p + 16 ≤ length xs
  len = known.within.whole

  slot_is : (s : ℕ) → s < 5 → slotted (two_bits uses s) ws nw (get_or xs (16 * p + 2 + s) 0) ≡ one (named ws) (reg_or nw) (get_or (roles old) s K.off) (get_or old (2 + s) 0)
  unfolding slotted
  slot_is s l =
      let w : ℕ = get_or xs (16 * p + 2 + s) 0 in
      let o : K.Role = get_or (roles old) s K.off in
      let ew : w ≡ get_or old (2 + s) 0 = ap (λ (n : ℕ). get_or xs n 0) {x = 16 * p + 2 + s} {y = 16 * p + (2 + s)} (omega arith) ∙ sym (word (2 + s) (omega arith)) in
      let d_is : two_bits uses s ≡ does o = ap (λ (u : ℕ). two_bits u s) known.uses ∙ does_slot old s l in
      ap (λ (d : ℕ). cond (eqb w absent) w (cond (eqb d 1) (named ws w) (cond (eqb d 2) (reg_or nw w) w))) d_is
      ∙ ap₂ (λ (a b : Bool). cond (eqb w absent) w (cond a (named ws w) (cond b (reg_or nw w) w))) (sym (reading_is o)) (sym (writing_is o))
      ∙ ap (one (named ws) (reg_or nw) o) ew

  abbrev j : Job
  j = job old ws nw

  at_word : (k : ℕ) → k < 16 → get_or zs (16 * p + k) 0 ≡ get_or (made j start) k 0
  at_word k l = head (ltb k 2) refl
    where
      tail : (t : ℕ) → 7 + t < 16 → get_or zs (16 * p + (7 + t)) 0 ≡ get_or (start ∷ drop 8 old) t 0
      tail zero m = ap (λ (n : ℕ). get_or zs n 0) {x = 16 * p + (7 + 0)} {y = 16 * p + 7} (omega arith) ∙ get_or-set_same ys (16 * p + 7) start 0 (let z = h.size in let q = len in omega arith)
      tail (suc t) m =
          get_or-set_other ys (16 * p + 7) (16 * p + (7 + suc t)) start 0 (λ e. omega arith) ∙ h.later (16 * p + (7 + suc t)) (omega arith)
          ∙ ap (λ (n : ℕ). get_or xs n 0) {x = 16 * p + (7 + suc t)} {y = 16 * p + (8 + t)} (omega arith) ∙ sym (word (8 + t) (omega arith)) ∙ sym (get_or-drop 8 old t 0)

      slot : (b : Bool) → 2 ≤ k → ltb k 7 ≡ b → get_or zs (16 * p + k) 0 ≡ get_or (made j start) k 0
      slot true g e =
          let lt = ltb-true k 7 e in
          subst (λ (n : ℕ). get_or zs (16 * p + n) 0 ≡ get_or (made j start) n 0) {x = 2 + (k - 2)} {y = k} (omega arith)
          (get_or-set_other ys (16 * p + 7) (16 * p + (2 + (k - 2))) start 0 (λ q. omega arith)
          ∙ ap (λ (n : ℕ). get_or ys n 0) {x = 16 * p + (2 + (k - 2))} {y = 16 * p + 2 + (k - 2)} (omega arith)
          ∙ h.done (k - 2) (omega arith) ∙ slot_is (k - 2) (omega arith) ∙ sym (made_slot j start old_length (k - 2) (omega arith)))
      slot false g e =
          let le = ltb-false k 7 e in
          subst (λ (n : ℕ). get_or zs (16 * p + n) 0 ≡ get_or (made j start) n 0) {x = 7 + (k - 7)} {y = k} (omega arith)
          (tail (k - 7) (omega arith) ∙ sym (made_tail j start old_length (k - 7)))

      head : (b : Bool) → ltb k 2 ≡ b → get_or zs (16 * p + k) 0 ≡ get_or (made j start) k 0
      head true e =
          let lt = ltb-true k 2 e in
          get_or-set_other ys (16 * p + 7) (16 * p + k) start 0 (λ q. omega arith) ∙ h.front (16 * p + k) (omega arith) ∙ sym (word k l) ∙ sym (made_head j start old_length k lt)
      head false e = slot (ltb k 7) (ltb-false k 2 e) refl

  -- the record after
  pub made_here : inst (set ys (16 * p + 7) start) p ≡ made (job (inst xs p) ws nw) start
  made_here =
      let a = inst_length zs p (omega (arith, zs_length, len)) in
      ext_get_or 0 (inst zs p) (made j start) (a ∙ sym (made_length j start old_length)) (λ k l. let m : k < 16 = omega arith in sym (word_is zs p k m) ∙ at_word k m)

  -- all other words
  pub made_front : (k : ℕ) → k < 16 * p → get_or (set ys (16 * p + 7) start) k 0 ≡ get_or xs k 0
  made_front k l = get_or-set_other ys (16 * p + 7) k start 0 (λ q. omega arith) ∙ h.front k (omega arith)

  pub made_back : (k : ℕ) → 16 * p + 16 ≤ k → get_or (set ys (16 * p + 7) start) k 0 ≡ get_or xs k 0
  made_back k l = get_or-set_other ys (16 * p + 7) k start 0 (λ q. omega arith) ∙ h.later k (omega arith)
