-- Two runs, one after the other, are one: the members, then the target's own code. Assumes nothing.
use mathlib.Core.Path.{◌≡◌, refl, sym, ap, ap₂, ◌∙◌}
use mathlib.Core.Bool.{Bool, true, false, not, ◌||◌, cond}
use mathlib.Core.List.{List, [], ◌∷◌, ◌++◌, map}
use Prim.Native.Nat.{ℕ, ◌+◌, ◌-◌, ◌*◌, ◌≤◌}
use native.Mathlib.Nat.{add_assoc}
use native.Mathlib.Omega.{arith}
use lib.ListN.{length, get_or, take, drop, length-append}
use lib.Seq.{take-take, take-add, drop-drop}
use Rattle.words.specs.Lists.{mem, same}
use Rattle.model.specs.Picture.{Inst, inst, list_of}
use Rattle.model.specs.Move.{Job, made, made_all, appended, changes, more_of}
use Rattle.rename.specs.Names.{part}
use Rattle.rename.specs.Runs.{Run}
use Rattle.rename.proofs.Records.{inst_same}
use Rattle.rename.proofs.Sequence.{parts_same, appended_append, made_all-append, map_agree}
use Rattle.words.proofs.Bools.{or_left, or_right}
use Rattle.words.proofs.Lists.{map_append}
use Rattle.words.proofs.Alls.{mem_append}

-- the old lists lie within the first u operands
abbrev pub Lists : ℕ → List Job → Type 0
Lists u [] = Unit {0}
Lists u (j ∷ js) = (get_or j.old 7 0 + get_or j.old 8 0 ≤ u) × Lists u js

module _ (u : ℕ) (ops ops₁ : List ℕ) (front : take u ops₁ ≡ take u ops) where
  list_same : (j : Job) → get_or j.old 7 0 + get_or j.old 8 0 ≤ u → list_of ops₁ j.old ≡ list_of ops j.old
  list_same j h = parts_same (get_or j.old 7 0) (get_or j.old 8 0) u ops ops₁ h front

  changes_same : (j : Job) → get_or j.old 7 0 + get_or j.old 8 0 ≤ u → changes ops₁ j ≡ changes ops j
  changes_same j h = ap (λ (l : List ℕ). not (same (map j.rd l) l)) (list_same j h)

  more_same : (j : Job) → get_or j.old 7 0 + get_or j.old 8 0 ≤ u → more_of ops₁ j ≡ more_of ops j
  more_same j h = ap₂ (λ (b : Bool) (l : List ℕ). elim b as (λ z. List ℕ) [ true ↦ map j.rd l | false ↦ [] ]) (changes_same j h) (list_same j h)

  pub appended_same : (js : List Job) → Lists u js → appended ops₁ js ≡ appended ops js
  appended_same [] w = refl
  appended_same (j ∷ js) w = ap₂ (λ (a b : List ℕ). a ++ b) (more_same j w.0) (appended_same js w.1)

  made_all-same : (n : ℕ) (js : List Job) → Lists u js → made_all ops₁ n js ≡ made_all ops n js
  made_all-same n [] w = refl
  made_all-same n (j ∷ js) w =
      ap₂ (λ (b : Bool) (l : List ℕ). made j (cond b n (get_or j.old 7 0)) ∷ made_all ops₁ (n + length l) js) (changes_same j w.0) (more_same j w.0)
      ∙ ap (λ (l : List Inst). made j (cond (changes ops j) n (get_or j.old 7 0)) ∷ l) (made_all-same (n + length (more_of ops j)) js w.1)

module _ {o₀ o r : ℕ} {ps qs : List ℕ} {js ks : List Job} {xs ys zs ops ops₁ ops₂ : List ℕ} (h : Run o₀ ps js xs ys ops ops₁ o) (m : Run o qs ks ys zs ops₁ ops₂ r)
    (apart : (q : ℕ) → mem q ps ≡ true → mem q qs ≡ false) (within : Lists o₀ ks) where
  more_is : appended ops₁ ks ≡ appended ops ks
  more_is = appended_same o₀ ops ops₁ h.ops_front ks within

  r_is : r ≡ o + length (appended ops ks)
  r_is = m.count ∙ ap (λ (l : List ℕ). o + length l) more_is

  still : (q : ℕ) → mem q ps ≡ true → inst zs q ≡ inst ys q
  still q e = inst_same ys zs q m.size (let w = h.within q e in let s = h.size in omega arith) (λ k l. m.others q k (apart q e) l)

  inside : (q : ℕ) (b : Bool) → mem q ps ≡ b → (b || mem q qs) ≡ true → 16 * q + 16 ≤ length xs
  inside q true e f = h.within q e
  inside q false e f = let w = m.within q f in let s = h.size in omega arith

  pub run_append : Run o₀ (ps ++ qs) (js ++ ks) xs zs ops ops₂ r
  run_append =
      let hc = h.count in
      let ri = r_is in
      let pieces : part o₀ (r - o₀) ops₂ ≡ part o₀ (o - o₀) ops₂ ++ part o (r - o) ops₂ =
      ap (λ (k : ℕ). part o₀ k ops₂) {x = r - o₀} {y = o - o₀ + (r - o)} (omega arith) ∙ take-add (o - o₀) (r - o) (drop o₀ ops₂)
      ∙ ap (λ (l : List ℕ). part o₀ (o - o₀) ops₂ ++ take (r - o) l) (drop-drop (o - o₀) o₀ ops₂ ∙ ap (λ (k : ℕ). drop k ops₂) {x = o₀ + (o - o₀)} {y = o} (omega arith)) in
      record {
        size = m.size ∙ h.size;
        within = λ q e. inside q (mem q ps) refl (sym (mem_append q ps qs) ∙ e);
        made_are =
            map_append (inst zs) ps qs
            ∙ ap₂ (λ (a b : List Inst). a ++ b) (map_agree (inst zs) (inst ys) ps still ∙ h.made_are) (m.made_are ∙ made_all-same o₀ ops ops₁ h.ops_front o ks within ∙ ap (λ (n : ℕ). made_all ops n ks) h.count)
            ∙ sym (made_all-append ops o₀ js ks);
        others = λ q k e l. let f = sym (mem_append q ps qs) ∙ e in m.others q k (or_right (mem q ps) (mem q qs) f) l ∙ h.others q k (or_left (mem q ps) (mem q qs) f) l;
        ops_size = m.ops_size ∙ h.ops_size;
        count = r_is ∙ ap (λ (k : ℕ). k + length (appended ops ks)) h.count ∙ add_assoc o₀ (length (appended ops js)) (length (appended ops ks)) ∙ ap (λ (k : ℕ). o₀ + k) (sym (ap length (appended_append ops js ks) ∙ length-append (appended ops js) (appended ops ks)));
        ops_front = sym (take-take o₀ o ops₂ (omega arith)) ∙ ap (take o₀) m.ops_front ∙ take-take o₀ o ops₁ (omega arith) ∙ h.ops_front;
        ops_more =
            pieces ∙ ap₂ (λ (a b : List ℕ). a ++ b) (parts_same o₀ (o - o₀) o ops₁ ops₂ (omega arith) m.ops_front ∙ h.ops_more) (m.ops_more ∙ more_is) ∙ sym (appended_append ops js ks);
        ops_back =
            m.ops_back ∙ ap (λ (k : ℕ). drop k ops₁) {x = r} {y = o + (r - o)} (omega arith) ∙ sym (drop-drop (r - o) o ops₁) ∙ ap (drop (r - o)) h.ops_back
            ∙ drop-drop (r - o) o ops ∙ ap (λ (k : ℕ). drop k ops) {x = o + (r - o)} {y = r} (omega arith);
      }
