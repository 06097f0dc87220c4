-- The records that `apply` makes: each is its old one but for renamed registers and perhaps a new list, which stands among the
-- operands after. Assumes nothing.
use mathlib.Core.Path.{◌≡◌, refl, sym, ap, ap₂, ◌∙◌, subst}
use mathlib.Core.Bool.{Bool, true, false, not, cond}
use mathlib.Core.List.{List, [], ◌∷◌, ◌++◌, map, append_assoc}
use Prim.Native.Nat.{ℕ, zero, suc, ◌+◌, ◌-◌, ◌≤◌, ◌<◌}
use native.Mathlib.Nat.{add-zero}
use native.Mathlib.Omega.{arith}
use lib.Dec.{eqb}
use lib.ListN.{get_or, length, take, drop, length-map, length-append, length-drop}
use lib.Seq.{take_at, get_or_at, get_or-append-add, get_or-drop, get_or-take, length-take-le, drop-append_seam, drop-append-add, drop-drop}
use Rattle.words.specs.Lists.{same}
use Rattle.words.proofs.Bools.{not_false_T, clash}
use Rattle.words.proofs.Lists.{same_eq, map_append}
use Rattle.words.proofs.Parts.{part_first}
use Rattle.words.proofs.Each.{Each}
use Rattle.model.specs.Kinds.{Role, reading, writing, row, kind_of, at_form}
use Rattle.model.specs.Picture.{Picture, Inst, absent, roles, slots, list_of, reads, writes, chosen, end_of}
use Rattle.model.specs.Move.{renamed, Job, made, made_all, changes, new_list, appended}
use Rattle.laws.proofs.Accepted.{Admitted}
use Rattle.laws.proofs.Admitted.{end_by, list_in}
use Rattle.laws.proofs.Renamed.{Present, reads_renamed, writes_renamed, length_renamed, slot_absent}

-- ---- the words of a record with new slots and a new list start

abbrev pub body : List ℕ → List ℕ → ℕ → List ℕ
body i rs start = take 2 i ++ rs ++ start ∷ drop 8 i

pub record Body (i rs : List ℕ) (start : ℕ) : Type 0 where
  pub kind_word : get_or (body i rs start) 0 0 ≡ get_or i 0 0
  pub form_word : get_or (body i rs start) 1 0 ≡ get_or i 1 0
  pub slot_words : take 5 (drop 2 (body i rs start)) ≡ rs
  pub list_start : get_or (body i rs start) 7 0 ≡ start
  pub list_length : get_or (body i rs start) 8 0 ≡ get_or i 8 0
  pub head_words : take 2 (body i rs start) ≡ take 2 i
  pub rest_words : drop 8 (body i rs start) ≡ drop 8 i

body_is : (i rs : List ℕ) (start : ℕ) → length rs ≡ 5 → length i ≡ 16 → Body i rs start
body_is [] rs start five e = absurd (nil e)
  where
    nil : zero ≡ 16 → ⊥
    nil e = omega arith
body_is (a ∷ []) rs start five e = absurd (nil e)
  where
    nil : suc zero ≡ 16 → ⊥
    nil e = omega arith
body_is (a ∷ b ∷ i) rs start five e =
    record {
      kind_word = refl;
      form_word = refl;
      slot_words = take_at rs (start ∷ drop 6 i) 5 five;
      list_start = get_or_at rs start (drop 6 i) 0 5 five;
      list_length = ap (λ (n : ℕ). get_or (rs ++ start ∷ drop 6 i) n 0) one ∙ get_or-append-add rs (start ∷ drop 6 i) 1 0 ∙ get_or-drop 6 i 0 0;
      head_words = refl;
      rest_words = ap (λ (n : ℕ). drop n (rs ++ start ∷ drop 6 i)) one ∙ drop-append-add rs (start ∷ drop 6 i) 1;
    }
  where
    one : 6 ≡ length rs + 1
    one = omega arith

-- ---- the record made for a job

module _ (j : Job) (start : ℕ) (e : length j.old ≡ 16) (u : Present j.rd) (v : Present j.wr) where
  five : length (renamed j.rd j.wr (roles j.old) (slots j.old)) ≡ 5
  five = length_renamed j.rd j.wr (roles j.old) (slots j.old) ∙ length-take-le 5 (drop 2 j.old) (subst (λ (n : ℕ). 5 ≤ n) (sym (length-drop 2 j.old ∙ ap (λ (n : ℕ). n - 2) e)) (omega arith))

  pub made_body : Body j.old (renamed j.rd j.wr (roles j.old) (slots j.old)) start
  made_body = body_is j.old _ start five e

  pub same_roles : roles (made j start) ≡ roles j.old
  same_roles = ap₂ (λ (k f : ℕ). map (at_form f) (row (kind_of k)).slots) made_body.kind_word made_body.form_word

  pub made_writes : writes (made j start) ≡ map j.wr (writes j.old)
  made_writes = ap₂ (λ (os : List Role) (rs : List ℕ). chosen writing os rs) same_roles made_body.slot_words ∙ writes_renamed j.rd j.wr u v (roles j.old) (slots j.old)

  pub made-slots_read : chosen reading (roles (made j start)) (slots (made j start)) ≡ map j.rd (chosen reading (roles j.old) (slots j.old))
  made-slots_read = ap₂ (λ (os : List Role) (rs : List ℕ). chosen reading os rs) same_roles made_body.slot_words ∙ reads_renamed j.rd j.wr u v (roles j.old) (slots j.old)

  pub made_list : (ops' : List ℕ) → list_of ops' (made j start) ≡ take (get_or j.old 8 0) (drop start ops')
  made_list ops' = ap₂ (λ (n s : ℕ). take n (drop s ops')) made_body.list_length made_body.list_start

  -- a word of the payload, the list's length too
  pub made_word : (k : ℕ) → get_or (made j start) (8 + k) 0 ≡ get_or j.old (8 + k) 0
  made_word k = sym (get_or-drop 8 (made j start) k 0) ∙ ap (λ (l : List ℕ). get_or l k 0) made_body.rest_words ∙ get_or-drop 8 j.old k 0

  -- it ends a block as the old one does
  pub made_end : end_of (made j start) ≡ end_of j.old
  made_end = ap₂ (λ (k : ℕ) (p : ℕ × ℕ). end_by k p.0 p.1) made_body.kind_word (λ z. (made_word 1 z, made_word 2 z))

  -- a slot is absent where the old one is
  pub made_absent : (k : ℕ) → k < 5 → eqb (get_or (made j start) (2 + k) 0) absent ≡ eqb (get_or j.old (2 + k) 0) absent
  made_absent k h =
      ap (λ (w : ℕ). eqb w absent) (sym (get_or-take 5 (drop 2 (made j start)) k 0 h ∙ get_or-drop 2 (made j start) k 0) ∙ ap (λ (l : List ℕ). get_or l k 0) made_body.slot_words)
      ∙ slot_absent j.rd j.wr u v (roles j.old) (slots j.old) k
      ∙ ap (λ (w : ℕ). eqb w absent) (get_or-take 5 (drop 2 j.old) k 0 h ∙ get_or-drop 2 j.old k 0)

-- ---- all of them

-- a job over an admitted record, that renames registers to registers, and those below R to such
pub record Sound (P : Picture) (R : ℕ) (j : Job) : Type 0 where
  pub whole : length j.old ≡ 16
  pub admitted : Admitted P j.old
  pub rd_present : Present j.rd
  pub wr_present : Present j.wr
  pub rd_low : (r : ℕ) → r < R → j.rd r < R
  pub wr_low : (r : ℕ) → r < R → j.wr r < R

-- m is the record made for j: its list is the old one renamed, and lies within the first O' operands after
pub record MadeFor (ops ops' : List ℕ) (O' : ℕ) (m : Inst) (j : Job) : Type 0 where
  pub start : ℕ
  pub is : m ≡ made j start
  pub its_list : list_of ops' m ≡ new_list ops j
  pub fits : start + get_or j.old 8 0 ≤ O'
  pub still : get_or j.old 8 0 ≡ 0 → start ≡ get_or j.old 7 0

abbrev pub Pairs : (Inst → Job → Type 0) → List Inst → List Job → Type 0
Pairs R [] [] = Unit {0}
Pairs R [] (j ∷ js) = ⊥
Pairs R (m ∷ ms) [] = ⊥
Pairs R (m ∷ ms) (j ∷ js) = R m j × Pairs R ms js

module _ (P : Picture) (R : ℕ) (ops' : List ℕ) (O' : ℕ) (room : P.opers ≤ length P.ops) (first : take P.opers ops' ≡ take P.opers P.ops) (more : P.opers ≤ O') where
  abbrev ops : List ℕ
  ops = P.ops

  pub made_for : (n : ℕ) (js : List Job) (rest : List ℕ) → Each (Sound P R) js → drop n ops' ≡ appended ops js ++ rest → n + length (appended ops js) ≤ O'
      → Pairs (MadeFor ops ops' O') (made_all ops n js) js
  made_for n [] rest w e l = tt
  made_for n (j ∷ js) rest w e l = go (changes ops j) refl (λ m f h. made_for m js rest w.1 f h) e l
    where
      new : List ℕ
      new = new_list ops j

      size : ℕ
      size = get_or j.old 8 0

      from : ℕ
      from = get_or j.old 7 0

      within : from + size ≤ P.opers
      within = list_in P j.old w.0.admitted

      len : length new ≡ size
      len = length-map (list_of ops j.old) j.rd ∙ length-take-le size (drop from ops) (let h = within in simp length-drop (omega arith))

      tail : List ℕ
      tail = appended ops js

      piece : Bool → List ℕ
      piece b = elim b as (λ c. List ℕ) [ true ↦ new | false ↦ [] ]

      -- an empty list does not change
      empty_still : size ≡ 0 → changes ops j ≡ false
      empty_still e = ap (λ (n : ℕ). not (same (map j.rd (take n (drop from ops))) (take n (drop from ops)))) e

      its : (start : ℕ) → list_of ops' (made j start) ≡ take size (drop start ops')
      its start = made_list j start w.0.whole w.0.rd_present w.0.wr_present ops'

      go : (b : Bool) → changes ops j ≡ b
          → ((m : ℕ) → drop m ops' ≡ tail ++ rest → m + length tail ≤ O' → Pairs (MadeFor ops ops' O') (made_all ops m js) js)
          → drop n ops' ≡ (piece b ++ tail) ++ rest
          → n + length (piece b ++ tail) ≤ O'
          → Pairs (MadeFor ops ops' O') (made j (cond b n from) ∷ made_all ops (n + length (piece b)) js) (j ∷ js)
      go true c ih e l =
          let here : drop n ops' ≡ new ++ (tail ++ rest) = e ∙ append_assoc new tail rest in
          let long = length-append new tail in (
            record {
              start = n;
              is = refl;
              its_list = its n ∙ ap (take size) here ∙ take_at new (tail ++ rest) size len;
              fits = let q = len in omega arith;
              still = λ z. clash c (empty_still z);
            },
            ih (n + length new) (sym (drop-drop (length new) n ops') ∙ ap (drop (length new)) here ∙ drop-append_seam new (tail ++ rest)) (omega arith),
          )
      go false c ih e l = (
        record {
          start = from;
          is = refl;
          its_list = its from ∙ sym (part_first from size P.opers ops' within) ∙ ap (λ (l : List ℕ). take size (drop from l)) first ∙ part_first from size P.opers ops within
              ∙ sym (same_eq new (list_of ops j.old) (not_false_T (same new (list_of ops j.old)) c));
          fits = let h = within in omega arith;
          still = λ z. refl;
        },
        ih (n + 0) (ap (λ (k : ℕ). drop k ops') (add-zero n) ∙ e) (subst (λ (k : ℕ). k + length tail ≤ O') (sym (add-zero n)) l),
      )

-- what the record reads
pub made_reads : (ops ops' : List ℕ) (O' : ℕ) (m : Inst) (j : Job) → length j.old ≡ 16 → Present j.rd → Present j.wr → MadeFor ops ops' O' m j → reads ops' m ≡ map j.rd (reads ops j.old)
made_reads ops ops' O' m j e u v a =
    ap₂ (λ (s l : List ℕ). s ++ l) (ap (λ (i : Inst). chosen reading (roles i) (slots i)) a.is ∙ made-slots_read j a.start e u v) a.its_list
    ∙ sym (map_append j.rd (chosen reading (roles j.old) (slots j.old)) (list_of ops j.old))
