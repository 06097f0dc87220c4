-- One record made anew. Assumes nothing.
use mathlib.Core.Path.{◌≡◌, refl, sym, ap, ap₂, ◌∙◌}
use mathlib.Core.Bool.{Bool, true, false, not, cond}
use mathlib.Core.List.{List, [], map}
use Prim.Native.Nat.{ℕ, ◌+◌, ◌-◌, ◌*◌, ◌≤◌}
use native.Mathlib.Nat.{add-zero, sub_self, add-sub_cancel_left}
use native.Mathlib.Omega.{arith}
use lib.ListN.{length, get_or, set, take, drop, length-set, length-map, length-drop}
use lib.Seq.{length-take-le, set-get_or}
use Rattle.words.specs.Lists.{same}
use Rattle.model.specs.Picture.{inst, list_of}
use Rattle.model.specs.Move.{Job, made, new_list, changes, more_of}
use Rattle.inst.proofs.Words.{word_is}
use Rattle.rename.specs.Names.{named, part, list_changes, Appended, Slotted, Fit, Remade, job}
use Rattle.rename.proofs.Operands.{any_changes}
use Rattle.rename.proofs.Records.{made_here, made_front, made_back}

-- the n operands from s on, as they are lent
pub of_part : (ws : List ℕ) (s n : ℕ) (ops : List ℕ) {b : Bool} → b ≡ list_changes ws (take (s + n - s) (drop s ops)) → list_changes ws (part s n ops) ≡ b
of_part ws s n ops e = ap (λ (k : ℕ). list_changes ws (take k (drop s ops))) (sym (add-sub_cancel_left s n)) ∙ sym e

module _ {p uses u o nw s n : ℕ} {ws xs ys ops : List ℕ} (f : Fit p uses u o ws nw xs ops) (h : Slotted p uses ws nw xs ys 5) (es : s ≡ get_or (inst xs p) 7 0) (en : n ≡ get_or (inst xs p) 8 0) where
  abbrev j : Job
  j = job (inst xs p) ws nw

  list_is : part s n ops ≡ list_of ops (inst xs p)
  list_is = ap₂ (λ (a b : ℕ). take b (drop a ops)) es en

  changes_is : list_changes ws (part s n ops) ≡ changes ops j
  changes_is = any_changes ws (part s n ops) ∙ ap (λ (l : List ℕ). not (same (map (named ws) l) l)) list_is

  list_within : s + n ≤ u
  list_within = let l = f.list_ok in let a = word_is xs p 7 (omega arith) in let b = word_is xs p 8 (omega arith) in omega arith

  new_is : map (named ws) (part s n ops) ≡ new_list ops j
  new_is = ap (map (named ws)) list_is

  new_length : length (new_list ops j) ≡ n
  new_length = ap length (sym new_is) ∙ length-map (part s n ops) (named ws) ∙ length-take-le n (drop s ops) (let w = list_within in let a = f.used in let b = f.lent in simp length-drop (omega arith))

  pub remade_same : list_changes ws (part s n ops) ≡ false → Remade p o ws nw xs ys ops ops o
  remade_same e =
      let q : changes ops j ≡ false = sym changes_is ∙ e in
      let start : ℕ = get_or (inst xs p) 7 0 in
      let seven : get_or ys (16 * p + 7) 0 ≡ start = h.later (16 * p + 7) (omega arith) ∙ word_is xs p 7 (omega arith) in
      let same_list : set ys (16 * p + 7) start ≡ ys = ap (set ys (16 * p + 7)) (sym seven) ∙ set-get_or ys (16 * p + 7) 0 in
      let more : more_of ops j ≡ [] = ap (λ (b : Bool). elim b as (λ z. List ℕ) [ true ↦ new_list ops j | false ↦ [] ]) q in
      record {
        size = h.size;
        here = ap (λ (l : List ℕ). inst l p) (sym same_list) ∙ made_here p start h f.known ∙ ap (λ (b : Bool). made j (cond b o start)) (sym q);
        front = λ k l. h.front k (omega arith);
        back = λ k l. h.later k (omega arith);
        ops_size = refl;
        count = sym (ap (λ (l : List ℕ). o + length l) more ∙ add-zero o);
        ops_front = refl;
        ops_more = ap (λ (k : ℕ). part o k ops) (sub_self o) ∙ sym more;
        ops_back = refl;
      }

  pub remade_changed : {start : ℕ} {ops' : List ℕ} → list_changes ws (part s n ops) ≡ true → Appended s o ws ops ops' n → start ≡ o → Remade p o ws nw xs (set ys (16 * p + 7) start) ops ops' (o + n)
  remade_changed {start} {ops'} e a eo =
      let q : changes ops j ≡ true = sym changes_is ∙ e in
      let more : more_of ops j ≡ new_list ops j = ap (λ (b : Bool). elim b as (λ z. List ℕ) [ true ↦ new_list ops j | false ↦ [] ]) q in
      record {
        size = length-set ys (16 * p + 7) start ∙ h.size;
        here = made_here p start h f.known ∙ ap (made j) eo ∙ ap (λ (b : Bool). made j (cond b o (get_or (inst xs p) 7 0))) (sym q);
        front = made_front p start h f.known;
        back = made_back p start h f.known;
        ops_size = a.size;
        count = sym (ap (λ (l : List ℕ). o + length l) more ∙ ap (λ (k : ℕ). o + k) new_length);
        ops_front = a.front;
        ops_more = ap (λ (k : ℕ). part o k ops') (add-sub_cancel_left o n) ∙ a.more ∙ new_is ∙ sym more;
        ops_back = a.back;
      }

  pub room_is : list_changes ws (part s n ops) ≡ true → o + n ≤ length ops
  room_is e = let r = f.room (sym changes_is ∙ e) in let b = word_is xs p 8 (omega arith) in omega arith

  pub within : s + n ≤ u
  within = list_within
