-- The walk through the target's own code. Assumes nothing.
use mathlib.Core.Path.{◌≡◌, refl, sym, ap, ap₂, ◌∙◌, subst}
use mathlib.Core.Bool.{Bool, true, false, not, cond}
use mathlib.Core.List.{List, [], ◌∷◌, ◌++◌, map, append_assoc, append-nil}
use Prim.Native.Nat.{ℕ, suc, ◌+◌, ◌-◌, ◌*◌, ◌≤◌, ◌<◌}
use native.Mathlib.Nat.{sub_self}
use native.Mathlib.Numerals.{add-one}
use native.Mathlib.Omega.{arith}
use borrow.Author.Tests.{eq-eqb}
use lib.ListN.{length, get_or, drop, length-append, length-map, length-drop}
use lib.Seq.{length-take-le}
use Rattle.words.specs.Lists.{mem, range, same}
use Rattle.words.proofs.Lists.{range_snoc}
use Rattle.words.proofs.Members.{range_in, not_in_mem}
use Rattle.model.specs.Picture.{Inst, inst, absent, list_of, writes}
use Rattle.model.specs.Move.{Job, appended, changes, new_list, more_of, own_jobs}
use Rattle.inst.proofs.Words.{word_is}
use Rattle.rename.specs.Names.{job, named, reg_or, pick}
use Rattle.rename.specs.Runs.{Line, Run, Pass, Owned, AskOwn, target_jobs}
use Rattle.rename.proofs.Sequence.{parts_same, appended_append, appended_one, run_none, run_more}
use Rattle.rename.proofs.Lines.{line_still, still, operands_still}
use Rattle.rename.proofs.Passing.{funext}

-- the target's job for record i: its write keeps its name
pub own_job : (i : Inst) (ws : List ℕ) → record { old = i; rd = named ws; wr = λ (r : ℕ). r } ≡ job i ws absent
own_job i ws = ap (λ (f : ℕ → ℕ). record { old = i; rd = named ws; wr = f }) (funext (λ r. r) (reg_or absent) (λ w. sym (ap (λ (b : Bool). cond b w absent) (eq-eqb absent absent refl))))

range_out : (s n q : ℕ) → s + n ≤ q → mem q (range s n) ≡ false
range_out s n q h = not_in_mem q (range s n) (λ i. let b = (range_in q s n i).1 in omega arith)

-- the first of the target's jobs
pub jobs_next : (ws xs : List ℕ) (q e : ℕ) → q < e
    → target_jobs (named ws) xs q e ≡ job (inst xs q) ws absent ∷ target_jobs (λ r. pick (mem r (writes (inst xs q))) r (named ws r)) xs (q + 1) e
jobs_next ws xs q e lt =
    ap (λ (m : ℕ). own_jobs (named ws) (map (inst xs) (range q m))) {x = e - q} {y = suc (e - (q + 1))} (omega arith)
    ∙ ap₂ (λ (j : Job) (z : ℕ). j ∷ own_jobs (λ r. pick (mem r (writes (inst xs q))) r (named ws r)) (map (inst xs) (range z (e - (q + 1))))) (own_job (inst xs q) ws) (sym (add-one q))

pub record Owning (o a e : ℕ) (ws₀ ws xs ys ops₀ ops : List ℕ) (n q : ℕ) : Type 0 where
  pub js : List Job
  pub low : a ≤ q
  pub high : q ≤ e
  pub run : Run o (range a (q - a)) js xs ys ops₀ ops n
  pub rest : target_jobs (named ws₀) xs a e ≡ js ++ target_jobs (named ws) xs q e
  pub names_size : length ws ≡ length ws₀

pub owning_none : (o a e : ℕ) (ws xs ops : List ℕ) → a ≤ e → Owning o a e ws ws xs xs ops ops o a
owning_none o a e ws xs ops h = record {
  js = [];
  low = omega arith;
  high = h;
  run = subst (λ (k : ℕ). Run o (range a k) [] xs xs ops ops o) (sym (sub_self a)) (run_none o xs ops);
  rest = refl;
  names_size = refl;
}

module _ {u o a e n q : ℕ} {ws₀ ws xs ys ops₀ ops : List ℕ} (k : AskOwn u o a e ws₀ xs ops₀) (h : Owning o a e ws₀ ws xs ys ops₀ ops n q) (lt : q < e) where
  fresh : mem q (range a (q - a)) ≡ false
  fresh = let l = h.low in range_out a (q - a) q (omega arith)

  line : Line (length ws₀) u xs q
  line = k.lines q h.low lt

  word : (i : ℕ) → i < 16 → get_or ys (16 * q + i) 0 ≡ get_or xs (16 * q + i) 0
  word i l = h.run.others q i fresh l

  same_inst : inst ys q ≡ inst xs q
  same_inst = still ys h.run.size line h.names_size word

  abbrev J : Job
  J = job (inst xs q) ws absent

  list_ok : get_or (inst xs q) 7 0 + get_or (inst xs q) 8 0 ≤ u
  list_ok = subst (λ (z : ℕ). z ≤ u) (ap₂ (λ (x y : ℕ). x + y) (word_is xs q 7 (omega arith)) (word_is xs q 8 (omega arith))) line.list_ok

  list_used : get_or (inst xs q) 7 0 + get_or (inst xs q) 8 0 ≤ o
  list_used = let a = list_ok in let b = k.used in omega arith

  changes_is : changes ops (job (inst ys q) ws absent) ≡ changes ops₀ J
  changes_is =
      ap (λ (i : Inst). changes ops (job i ws absent)) same_inst
      ∙ ap (λ (l : List ℕ). not (same (map (named ws) l) l)) (parts_same (get_or (inst xs q) 7 0) (get_or (inst xs q) 8 0) o ops₀ ops list_used h.run.ops_front)

  abbrev tail : List Job
  tail = target_jobs (λ r. pick (mem r (writes (inst xs q))) r (named ws r)) xs (q + 1) e

  all_are : target_jobs (named ws₀) xs a e ≡ h.js ++ (J ∷ []) ++ tail
  all_are = h.rest ∙ ap (λ (l : List Job). h.js ++ l) (jobs_next ws xs q e lt) ∙ sym (append_assoc h.js (J ∷ []) tail)

  total : length (appended ops₀ (target_jobs (named ws₀) xs a e)) ≡ length (appended ops₀ h.js) + length (more_of ops₀ J) + length (appended ops₀ tail)
  total =
      ap (λ (l : List Job). length (appended ops₀ l)) all_are
      ∙ ap length (appended_append ops₀ (h.js ++ (J ∷ [])) tail ∙ ap (λ (l : List ℕ). l ++ appended ops₀ tail) (appended_append ops₀ h.js (J ∷ []) ∙ ap (λ (l : List ℕ). appended ops₀ h.js ++ l) (appended_one ops₀ J)))
      ∙ length-append (appended ops₀ h.js ++ more_of ops₀ J) (appended ops₀ tail) ∙ ap (λ (z : ℕ). z + length (appended ops₀ tail)) (length-append (appended ops₀ h.js) (more_of ops₀ J))

  fits : n + length (more_of ops₀ J) ≤ length ops₀
  fits = let t = total in let r = k.room in let c = h.run.count in omega arith

  pub owning_ask : Pass q u n ws true absent absent ys ops
  owning_ask =
      let c = h.run.count in
      let ku = k.used in
      let size = h.run.ops_size in
      let f = fits in
      record {
        line = line_still ys h.run.size line h.names_size word;
        operands = operands_still {o = o} k.operands h.names_size ku size h.run.ops_front;
        used = omega arith;
        lent = omega arith;
        wrote_ok = λ z. absurd (z refl);
        room = λ z g.
            let list_long : length (new_list ops₀ J) ≡ get_or ys (16 * q + 8) 0 =
            length-map (list_of ops₀ (inst xs q)) (named ws) ∙ length-take-le (get_or (inst xs q) 8 0) (drop (get_or (inst xs q) 7 0) ops₀) (let a = list_ok in let b = k.operands.lent in simp length-drop (omega arith))
            ∙ sym (word_is xs q 8 (omega arith)) ∙ sym (word 8 (omega arith)) in
            let more : length (more_of ops₀ J) ≡ get_or ys (16 * q + 8) 0 =
            ap (λ (b : Bool). length {A = ℕ} (elim b as (λ y. List ℕ) [ true ↦ new_list ops₀ J | false ↦ [] ])) (sym changes_is ∙ g) ∙ list_long in
            omega arith;
      }

  pub owning_more : {vs zs ops₂ : List ℕ} {r : ℕ} → Owned q n ws vs ys zs ops ops₂ r → Owning o a e ws₀ vs xs zs ops₀ ops₂ r (q + 1)
  owning_more {vs} {zs} {ops₂} {r} m =
      let lo = h.low in
      let rd_is : (λ r. pick (mem r (writes (inst xs q))) r (named ws r)) ≡ named vs =
      funext (λ r. pick (mem r (writes (inst xs q))) r (named ws r)) (named vs) (λ x. sym (m.names x ∙ ap (λ (i : Inst). pick (mem x (writes i)) x (named ws x)) same_inst)) in
      let places : range a (q - a) ++ (q ∷ []) ≡ range a (q + 1 - a) =
      ap (λ (z : ℕ). range a (q - a) ++ (z ∷ [])) {x = q} {y = a + (q - a)} (omega arith) ∙ sym (range_snoc a (q - a)) ∙ ap (range a) {x = suc (q - a)} {y = q + 1 - a} (omega arith) in
      record {
        js = h.js ++ (J ∷ []);
        low = omega arith;
        high = omega arith;
        run = subst (λ (ps : List ℕ). Run o ps (h.js ++ (J ∷ [])) xs zs ops₀ ops₂ r) places (run_more h.run m.remade fresh line.known.within.whole list_used);
        rest = all_are ∙ ap (λ (f : ℕ → ℕ). h.js ++ (J ∷ []) ++ target_jobs f xs (q + 1) e) rd_is;
        names_size = m.size ∙ h.names_size;
      }

pub owning_end : {o a e n q : ℕ} {ws₀ ws xs ys ops₀ ops : List ℕ} → Owning o a e ws₀ ws xs ys ops₀ ops n q → e ≤ q → Run o (range a (e - a)) (target_jobs (named ws₀) xs a e) xs ys ops₀ ops n
owning_end {o} {a} {e} {n} {q} {ws₀} {ws} {xs} {ys} {ops₀} {ops} h le =
    let hi = h.high in
    let lo = h.low in
    let none : target_jobs (named ws) xs q e ≡ [] = ap (λ (z : ℕ). own_jobs (named ws) (map (inst xs) (range q z))) {x = e - q} {y = 0} (omega arith) in
    let js_is : h.js ≡ target_jobs (named ws₀) xs a e = sym (append-nil h.js) ∙ ap (λ (l : List Job). h.js ++ l) (sym none) ∙ sym h.rest in
    subst (λ (l : List Job). Run o (range a (e - a)) l xs ys ops₀ ops n) js_is
    (subst (λ (z : ℕ). Run o (range a z) h.js xs ys ops₀ ops n) {x = q - a} {y = e - a} (omega arith) h.run)
