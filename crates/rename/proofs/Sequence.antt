-- One more record made anew. Assumes nothing.
use mathlib.Core.Path.{◌≡◌, refl, sym, ap, ap₂, ◌∙◌, subst}
use mathlib.Core.Bool.{Bool, true, false, not, ◌||◌, cond, or-false}
use mathlib.Core.List.{List, [], ◌∷◌, ◌++◌, map, append-nil}
use Prim.Native.Nat.{ℕ, ◌+◌, ◌-◌, ◌*◌, ◌≤◌, ◌<◌}
use native.Mathlib.Nat.{add-zero, add_assoc, sub_self}
use native.Mathlib.Omega.{arith}
use borrow.Author.Tests.{eqb-true, eqb-false, ne_eqb}
use lib.Dec.{eqb}
use lib.ListN.{length, get_or, take, drop, length-append}
use lib.Seq.{take-take, take-add, drop-drop}
use Rattle.words.specs.Lists.{mem, same, concat}
use Rattle.words.proofs.Alls.{mem_append}
use Rattle.model.specs.Picture.{Inst, inst, list_of}
use Rattle.model.specs.Move.{Job, made, made_all, appended, changes, new_list, more_of}
use Rattle.words.proofs.Lists.{map_append, concat_append}
use Rattle.words.proofs.Members.{map_on, in_mem}
use Rattle.words.proofs.Parts.{part_first}
use Rattle.words.proofs.Bools.{or_left, or_right}
use Rattle.rename.specs.Names.{part, job, named, Remade}
use Rattle.rename.specs.Runs.{Run}
use Rattle.rename.proofs.Records.{inst_same}

pub parts_same : (s n O : ℕ) (l m : List ℕ) → s + n ≤ O → take O m ≡ take O l → take n (drop s m) ≡ take n (drop s l)
parts_same s n O l m h e = sym (part_first s n O m h) ∙ ap (λ (k : List ℕ). take n (drop s k)) e ∙ part_first s n O l h

-- ---- one more job

pub appended_append : (ops : List ℕ) (js ks : List Job) → appended ops (js ++ ks) ≡ appended ops js ++ appended ops ks
appended_append ops js ks = ap concat (map_append (more_of ops) js ks) ∙ concat_append (map (more_of ops) js) (map (more_of ops) ks)

pub appended_one : (ops : List ℕ) (j : Job) → appended ops (j ∷ []) ≡ more_of ops j
appended_one ops j = append-nil (more_of ops j)

pub made_all-append : (ops : List ℕ) (n : ℕ) (js ks : List Job) → made_all ops n (js ++ ks) ≡ made_all ops n js ++ made_all ops (n + length (appended ops js)) ks
made_all-append ops n [] ks = ap (λ (k : ℕ). made_all ops k ks) (sym (add-zero n))
made_all-append ops n (j ∷ js) ks =
    let m : ℕ = n + length (more_of ops j) in
    let e : m + length (appended ops js) ≡ n + length (appended ops (j ∷ js)) =
    add_assoc n (length (more_of ops j)) (length (appended ops js)) ∙ ap (λ (k : ℕ). n + k) (sym (length-append (more_of ops j) (appended ops js))) in
    ap (λ (l : List Inst). made j (cond (changes ops j) n (get_or j.old 7 0)) ∷ l) (made_all-append ops m js ks ∙ ap (λ (k : ℕ). made_all ops m js ++ made_all ops k ks) e)

-- ---- places

pub mem_snoc : (q p : ℕ) (ps : List ℕ) → mem q (ps ++ (p ∷ [])) ≡ (mem q ps || eqb q p)
mem_snoc q p ps = mem_append q ps (p ∷ []) ∙ ap (λ (b : Bool). mem q ps || b) (or-false (eqb q p))

pub map_agree : {A : Type 0} (f g : ℕ → A) (ps : List ℕ) → ((q : ℕ) → mem q ps ≡ true → f q ≡ g q) → map f ps ≡ map g ps
map_agree f g ps h = map_on f g ps (λ q i. h q (in_mem q ps i))

pub run_none : (o : ℕ) (xs ops : List ℕ) → Run o [] [] xs xs ops ops o
run_none o xs ops =
    record {
      size = refl;
      within = λ q e. absurd (mathlib.Core.Bool.true≢false (sym e));
      made_are = refl;
      others = λ q k e h. refl;
      ops_size = refl;
      count = sym (add-zero o);
      ops_front = refl;
      ops_more = ap (λ (k : ℕ). part o k ops) (sub_self o);
      ops_back = refl;
    }

module _ {o₀ o p nw r : ℕ} {ps : List ℕ} {js : List Job} {ws xs ys zs ops ops₁ ops₂ : List ℕ} (h : Run o₀ ps js xs ys ops ops₁ o) (m : Remade p o ws nw ys zs ops₁ ops₂ r)
    (fresh : mem p ps ≡ false) (len : 16 * p + 16 ≤ length xs) (list_ok : get_or (inst xs p) 7 0 + get_or (inst xs p) 8 0 ≤ o₀) where
  abbrev J : Job
  J = job (inst xs p) ws nw

  old_is : inst ys p ≡ inst xs p
  old_is = inst_same xs ys p h.size len (λ k l. h.others p k fresh l)

  job_is : job (inst ys p) ws nw ≡ J
  job_is = ap (λ (i : Inst). job i ws nw) old_is

  list_is : list_of ops₁ (inst xs p) ≡ list_of ops (inst xs p)
  list_is = parts_same (get_or (inst xs p) 7 0) (get_or (inst xs p) 8 0) o₀ ops ops₁ list_ok h.ops_front

  changes_is : changes ops₁ (job (inst ys p) ws nw) ≡ changes ops J
  changes_is = ap (changes ops₁) job_is ∙ ap (λ (l : List ℕ). not (same (map (named ws) l) l)) list_is

  more_is : more_of ops₁ (job (inst ys p) ws nw) ≡ more_of ops J
  more_is = ap₂ (λ (b : Bool) (l : List ℕ). elim b as (λ z. List ℕ) [ true ↦ l | false ↦ [] ]) changes_is (ap (new_list ops₁) job_is ∙ ap (map (named ws)) list_is)

  grows : appended ops (js ++ (J ∷ [])) ≡ appended ops js ++ more_of ops J
  grows = appended_append ops js (J ∷ []) ∙ ap (λ (l : List ℕ). appended ops js ++ l) (appended_one ops J)

  r_is : r ≡ o + length (more_of ops J)
  r_is = m.count ∙ ap (λ (l : List ℕ). o + length l) more_is

  here : inst zs p ≡ made J (cond (changes ops J) (o₀ + length (appended ops js)) (get_or (inst xs p) 7 0))
  here = m.here ∙ ap₂ (λ (b : Bool) (i : Inst). made (job i ws nw) (cond b o (get_or i 7 0))) changes_is old_is ∙ ap (λ (k : ℕ). made J (cond (changes ops J) k (get_or (inst xs p) 7 0))) h.count

  apart : (q k : ℕ) → eqb q p ≡ false → k < 16 → get_or zs (16 * q + k) 0 ≡ get_or ys (16 * q + k) 0
  apart q k e l = go (lib.Dec.ltb q p) refl
    where
      go : (b : Bool) → lib.Dec.ltb q p ≡ b → get_or zs (16 * q + k) 0 ≡ get_or ys (16 * q + k) 0
      go true f = let lt = borrow.Author.Tests.ltb-true q p f in m.front (16 * q + k) (omega arith)
      go false f = let le = borrow.Author.Tests.ltb-false q p f in let ne = eqb-false q p e in let lt : p < q = omega arith in m.back (16 * q + k) (omega arith)

  apart_inst : (q : ℕ) → mem q ps ≡ true → inst zs q ≡ inst ys q
  apart_inst q e =
      inst_same ys zs q m.size (let w = h.within q e in let s = h.size in omega arith) (λ k l. apart q k (ne_eqb q p (λ f. mathlib.Core.Bool.true≢false (sym e ∙ ap (λ (x : ℕ). mem x ps) f ∙ fresh))) l)

  pub run_more : Run o₀ (ps ++ (p ∷ [])) (js ++ (J ∷ [])) xs zs ops ops₂ r
  run_more =
      let hc = h.count in
      let ri = r_is in
      let pieces : part o₀ (r - o₀) ops₂ ≡ part o₀ (o - o₀) ops₂ ++ part o (r - o) ops₂ =
      ap (λ (k : ℕ). part o₀ k ops₂) {x = r - o₀} {y = o - o₀ + (r - o)} (omega arith) ∙ take-add (o - o₀) (r - o) (drop o₀ ops₂)
      ∙ ap (λ (l : List ℕ). part o₀ (o - o₀) ops₂ ++ take (r - o) l) (drop-drop (o - o₀) o₀ ops₂ ∙ ap (λ (k : ℕ). drop k ops₂) {x = o₀ + (o - o₀)} {y = o} (omega arith)) in
      record {
        size = m.size ∙ h.size;
        within = λ q e. inside q (eqb q p) refl (sym (mem_snoc q p ps) ∙ e);
        made_are =
            map_append (inst zs) ps (p ∷ []) ∙ ap₂ (λ (l : List Inst) (i : Inst). l ++ (i ∷ [])) (map_agree (inst zs) (inst ys) ps apart_inst ∙ h.made_are) here
            ∙ sym (made_all-append ops o₀ js (J ∷ []));
        others = λ q k e l. let f = sym (mem_snoc q p ps) ∙ e in apart q k (or_right (mem q ps) (eqb q p) f) l ∙ h.others q k (or_left (mem q ps) (eqb q p) f) l;
        ops_size = m.ops_size ∙ h.ops_size;
        count = r_is ∙ ap (λ (k : ℕ). k + length (more_of ops J)) h.count ∙ add_assoc o₀ (length (appended ops js)) (length (more_of ops J)) ∙ ap (λ (k : ℕ). o₀ + k) (sym (ap length grows ∙ length-append (appended ops js) (more_of ops J)));
        ops_front = sym (take-take o₀ o ops₂ (omega arith)) ∙ ap (take o₀) m.ops_front ∙ take-take o₀ o ops₁ (omega arith) ∙ h.ops_front;
        ops_more =
            pieces ∙ ap₂ (λ (a b : List ℕ). a ++ b) (parts_same o₀ (o - o₀) o ops₁ ops₂ (omega arith) m.ops_front ∙ h.ops_more) (m.ops_more ∙ more_is) ∙ sym grows;
        ops_back =
            m.ops_back ∙ ap (λ (k : ℕ). drop k ops₁) {x = r} {y = o + (r - o)} (omega arith) ∙ sym (drop-drop (r - o) o ops₁) ∙ ap (drop (r - o)) h.ops_back
            ∙ drop-drop (r - o) o ops ∙ ap (λ (k : ℕ). drop k ops) {x = o + (r - o)} {y = r} (omega arith);
      }
    where
      inside : (q : ℕ) (b : Bool) → eqb q p ≡ b → (mem q ps || b) ≡ true → 16 * q + 16 ≤ length xs
      inside q true e f = subst (λ (k : ℕ). 16 * k + 16 ≤ length xs) (sym (eqb-true q p e)) len
      inside q false e f = h.within q (sym (or-false (mem q ps)) ∙ f)
