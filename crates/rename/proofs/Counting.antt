-- Counting what the walk would append. Assumes nothing.
use mathlib.Core.Path.{◌≡◌, refl, sym, ap, ap₂, ◌∙◌, subst}
use mathlib.Core.Bool.{Bool, true, false, false≢true, not, ◌&&◌, cond}
use mathlib.Core.List.{List, [], ◌∷◌, ◌++◌, map}
use Prim.Native.Nat.{ℕ, ◌+◌, ◌-◌, ◌*◌, ◌≤◌, ◌<◌}
use native.Mathlib.Nat.{le_antisymm}
use native.Mathlib.Numerals.{add-one}
use native.Mathlib.Omega.{arith}
use lib.Dec.{eqb}
use lib.ListN.{length, get_or, drop, length-append, length-map, length-drop}
use lib.Seq.{length-take-le}
use Rattle.words.specs.Lists.{mem, range}
use Rattle.model.specs.Picture.{inst, absent, list_of, writes}
use Rattle.model.specs.Move.{Job, appended, new_list, more_of, own_jobs}
use Rattle.inst.specs.Record.{Listed}
use Rattle.inst.proofs.Words.{word_is}
use Rattle.pool.specs.Pool.{mark_at, wrote_at, new_at}
use Rattle.rename.specs.Names.{named, reg_or, pick, put_name, job, list_changes, Forgot}
use Rattle.rename.specs.Runs.{Line, Operands, goes, rd_after, gone_job, gone_jobs, target_jobs}
use Rattle.rename.specs.Counts.{CountAsk, Counted, CountedOwn, CountedX}
use Rattle.rename.proofs.Operands.{any_changes}
use Rattle.rename.proofs.Naming.{named_put, put_size}
use Rattle.rename.proofs.Sequence.{appended_append, appended_one}
use Rattle.rename.proofs.Passing.{funext, taken_more}
use Rattle.rename.proofs.Owning.{jobs_next}

-- ---- one list

module _ {q u : ℕ} {ws xs ops : List ℕ} (k : CountAsk q u ws xs ops) where
  list_in : get_or (inst xs q) 7 0 + get_or (inst xs q) 8 0 ≤ u
  list_in = let l = k.line.list_ok in let a = word_is xs q 7 (omega arith) in let b = word_is xs q 8 (omega arith) in omega arith

  pub list_listed : Listed xs ops q
  list_listed = let b = k.operands.lent in record { within = k.line.known.within; list = let i = list_in in omega arith }

  module _ {l : List ℕ} (is : l ≡ list_of ops (inst xs q)) where
    list_length : length l ≡ get_or (inst xs q) 8 0
    list_length =
        ap length is ∙ length-take-le (get_or (inst xs q) 8 0) (drop (get_or (inst xs q) 7 0) ops) (let a = list_in in let b = k.operands.lent in simp length-drop (omega arith))

    pub list_small : length l ≤ 4294967295
    list_small = let a = list_in in let b = k.operands.lent in let c = k.operands.few in let d = list_length in omega arith

    more : (b : Bool) → list_changes ws l ≡ b → length (more_of ops (job (inst xs q) ws absent)) ≡ cond b (length l) 0
    more b e =
        ap (λ (c : Bool). length {A = ℕ} (elim c as (λ y. List ℕ) [ true ↦ new_list ops (job (inst xs q) ws absent) | false ↦ [] ])) (sym (any_changes ws (list_of ops (inst xs q))) ∙ ap (list_changes ws) (sym is) ∙ e) ∙ go b
      where
        go : (c : Bool) → length {A = ℕ} (elim c as (λ y. List ℕ) [ true ↦ new_list ops (job (inst xs q) ws absent) | false ↦ [] ]) ≡ cond c (length l) 0
        go true = length-map (list_of ops (inst xs q)) (named ws) ∙ ap length (sym is)
        go false = refl

    pub list_changed : list_changes ws l ≡ true → length l ≡ length (more_of ops (job (inst xs q) ws absent))
    list_changed e = sym (more true e)

    pub list_same : list_changes ws l ≡ false → 0 ≡ length (more_of ops (job (inst xs q) ws absent))
    list_same e = sym (more false e)

-- ---- one position

pub counted_kept : {q u d nw : ℕ} {gone : Bool} {ws vs xs ops : List ℕ} → CountAsk q u ws xs ops → gone ≡ false → Forgot (inst xs q) ws vs → Counted q gone d nw ws vs xs ops 0
counted_kept k z f = record {
  names_size = f.size;
  small = omega arith;
  kept = λ e. (refl, f.names);
  moved = λ g. absurd (false≢true (sym z ∙ g));
}

pub counted_moved : {q d nw r : ℕ} {gone : Bool} {ws vs xs ops : List ℕ} → gone ≡ true → (r ≡ length (more_of ops (job (inst xs q) ws absent))) × (r ≤ 4294967295) → ((d ≡ absent → ⊥) → d < length ws) → nw < 4294967296
    → vs ≡ put_name ws d nw → Counted q gone d nw ws vs xs ops r
counted_moved {q} {d} {nw} {r} {ws} z c ok small e = record {
  names_size = ap length e ∙ put_size ws d nw;
  small = c.1;
  kept = λ f. absurd (false≢true (sym f ∙ z));
  moved = λ f. (c.0, λ y. ap (λ (l : List ℕ). named l y) e ∙ named_put ws d nw ok small y);
}

pub counted_own : {q u r : ℕ} {ws vs xs ops : List ℕ} → CountAsk q u ws xs ops → (r ≡ length (more_of ops (job (inst xs q) ws absent))) × (r ≤ 4294967295) → Forgot (inst xs q) ws vs → CountedOwn q ws vs xs ops r
counted_own k c f = record { names_size = f.size; small = c.1; count = c.0; names = f.names }

-- what is asked, for names of the same number
pub ask_at : {q u : ℕ} (ws₀ ws : List ℕ) {xs ops : List ℕ} → length ws ≡ length ws₀ → Line (length ws₀) u xs q → Operands (length ws₀) u ops → CountAsk q u ws xs ops
ask_at {q} {u} ws₀ ws {xs} {ops} e l o = record { line = subst (λ (z : ℕ). Line z u xs q) (sym e) l; operands = subst (λ (z : ℕ). Operands z u ops) (sym e) o }

-- ---- along x

pub record CountingX (lo m : ℕ) (ws₀ ws xs ops w : List ℕ) (n p : ℕ) : Type 0 where
  pub high : p ≤ m
  pub so_far : CountedX lo p ws₀ ws xs ops w n

pub counting_none : (lo m : ℕ) (ws xs ops w : List ℕ) → CountingX lo m ws ws xs ops w 0 0
unfolding rd_after
counting_none lo m ws xs ops w = record { high = omega arith; so_far = record { count = refl; small = omega arith; names_size = refl; names = λ y. refl } }

module _ {lo m n p r : ℕ} {ws₀ ws vs xs ops w : List ℕ} (h : CountingX lo m ws₀ ws xs ops w n p) (lt : p < m) (c : Counted (lo + p) (goes w p) (wrote_at w p) (new_at w p) ws vs xs ops r) where
  abbrev jobs_at : ℕ → List Job
  jobs_at i = gone_jobs (named ws₀) w xs lo i

  abbrev J : Job
  J = job (inst xs (lo + p)) ws (new_at w p)

  job_is : J ≡ gone_job (named ws₀) w xs lo p
  job_is = ap (λ (f : ℕ → ℕ). record { old = inst xs (lo + p); rd = f; wr = reg_or (new_at w p) }) (funext (named ws) (rd_after (named ws₀) w xs lo p) h.so_far.names)

  next_is : (b : Bool) → eqb (mark_at w p) 0 ≡ b → (v : ℕ → ℕ) (y : ℕ) → v y ≡ cond b (pick (mem y (writes (inst xs (lo + p)))) y (named ws y)) (cond (not (eqb (wrote_at w p) absent) && eqb y (wrote_at w p)) (reg_or (new_at w p) y) (named ws y))
      → v y ≡ rd_after (named ws₀) w xs lo (p + 1) y
  unfolding rd_after
  next_is b e v y g =
      g ∙ ap₂ (λ (t : Bool) (z : ℕ). cond t (pick (mem y (writes (inst xs (lo + p)))) y z) (cond (not (eqb (wrote_at w p) absent) && eqb y (wrote_at w p)) (reg_or (new_at w p) y) z)) (sym e) (h.so_far.names y)
      ∙ ap (λ (z : ℕ). rd_after (named ws₀) w xs lo z y) (sym (add-one p))

  count_is : (b : Bool) → eqb (mark_at w p) 0 ≡ b → r ≡ cond b 0 (length (more_of ops J)) → n + r ≡ length (appended ops (jobs_at (p + 1)))
  count_is b e g =
      ap₂ ◌+◌ h.so_far.count (g ∙ go b) ∙ sym (length-append (appended ops (jobs_at p)) (appended ops (cond (not b) (J ∷ []) [])))
      ∙ ap length (sym (appended_append ops (jobs_at p) (cond (not b) (J ∷ []) [])))
      ∙ ap (λ (l : List Job). length (appended ops l)) (ap₂ (λ (t : Bool) (j : Job). jobs_at p ++ cond (not t) (j ∷ []) []) (sym e) job_is ∙ sym (taken_more (gone_job (named ws₀) w xs lo) (goes w) p))
    where
      go : (b : Bool) → cond b 0 (length (more_of ops J)) ≡ length (appended ops (cond (not b) (J ∷ []) []))
      go true = refl
      go false = sym (ap length (appended_one ops J))

  pub counting_more : CountingX lo m ws₀ vs xs ops w (n + r) (p + 1)
  counting_more = go (eqb (mark_at w p) 0) refl
    where
      go : (b : Bool) → eqb (mark_at w p) 0 ≡ b → CountingX lo m ws₀ vs xs ops w (n + r) (p + 1)
      go true e =
          let k = c.kept (ap not e) in
          record { high = omega arith; so_far = record { count = count_is true e k.0; small = omega (arith, h.so_far.small, c.small); names_size = c.names_size ∙ h.so_far.names_size; names = λ y. next_is true e (named vs) y (k.1 y) } }
      go false e =
          let k = c.moved (ap not e) in
          record { high = omega arith; so_far = record { count = count_is false e k.0; small = omega (arith, h.so_far.small, c.small); names_size = c.names_size ∙ h.so_far.names_size; names = λ y. next_is false e (named vs) y (k.1 y) } }

pub counting_end : {lo m n p : ℕ} {ws₀ ws xs ops w : List ℕ} → CountingX lo m ws₀ ws xs ops w n p → m ≤ p → CountedX lo m ws₀ ws xs ops w n
counting_end {lo} {m} {n} {p} {ws₀} {ws} {xs} {ops} {w} h l = subst (λ (k : ℕ). CountedX lo k ws₀ ws xs ops w n) (le_antisymm h.high l) h.so_far

-- ---- through the target

pub record CountingOwn (a e : ℕ) (ws₀ ws xs ops : List ℕ) (n₀ n q : ℕ) : Type 0 where
  pub low : a ≤ q
  pub high : q ≤ e
  pub rest : n₀ + length (appended ops (target_jobs (named ws₀) xs a e)) ≡ n + length (appended ops (target_jobs (named ws) xs q e))
  pub small : n ≤ 4294967295 * 65536 + 4294967295 * q
  pub names_size : length ws ≡ length ws₀

pub own_none : (a e : ℕ) (ws xs ops : List ℕ) (n : ℕ) → a ≤ e → n ≤ 4294967295 * 65536 → CountingOwn a e ws ws xs ops n n a
own_none a e ws xs ops n h s = record { low = omega arith; high = h; rest = refl; small = omega arith; names_size = refl }

pub own_more : {a e n₀ n q r : ℕ} {ws₀ ws vs xs ops : List ℕ} → CountingOwn a e ws₀ ws xs ops n₀ n q → q < e → CountedOwn q ws vs xs ops r → CountingOwn a e ws₀ vs xs ops n₀ (n + r) (q + 1)
own_more {a} {e} {n₀} {n} {q} {r} {ws₀} {ws} {vs} {xs} {ops} h lt c =
    let rd_is : (λ r. pick (mem r (writes (inst xs q))) r (named ws r)) ≡ named vs = funext (λ r. pick (mem r (writes (inst xs q))) r (named ws r)) (named vs) (λ y. sym (c.names y)) in
    let next : length (appended ops (target_jobs (named ws) xs q e)) ≡ r + length (appended ops (target_jobs (named vs) xs (q + 1) e)) =
    ap (λ (l : List Job). length (appended ops l)) (jobs_next ws xs q e lt ∙ ap (λ (f : ℕ → ℕ). job (inst xs q) ws absent ∷ target_jobs f xs (q + 1) e) rd_is)
    ∙ length-append (more_of ops (job (inst xs q) ws absent)) (appended ops (target_jobs (named vs) xs (q + 1) e)) ∙ ap (λ (k : ℕ). k + length (appended ops (target_jobs (named vs) xs (q + 1) e))) (sym c.count) in
    let old = h.rest in
    let lo = h.low in
    let s = h.small in
    let t = c.small in
    record { low = omega arith; high = omega arith; rest = omega arith; small = omega arith; names_size = c.names_size ∙ h.names_size }

pub own_end : {a e n₀ n q : ℕ} {ws₀ ws xs ops : List ℕ} → CountingOwn a e ws₀ ws xs ops n₀ n q → e ≤ q → n ≡ n₀ + length (appended ops (target_jobs (named ws₀) xs a e))
own_end {a} {e} {n₀} {n} {q} {ws₀} {ws} {xs} {ops} h le =
    let none : length (appended ops (target_jobs (named ws) xs q e)) ≡ 0 = ap (λ (z : ℕ). length (appended ops (own_jobs (named ws) (map (inst xs) (range q z))))) {x = e - q} {y = 0} (omega arith) in
    let r = h.rest in
    omega arith
