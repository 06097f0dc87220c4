-- The walk along x and the rest of the chain. Assumes nothing.
use mathlib.Core.Path.{◌≡◌, refl, sym, ap, ap₂, ◌∙◌, subst}
use mathlib.Core.Bool.{Bool, true, false, false≢true, not, ◌&&◌, cond}
use mathlib.Core.List.{List, [], ◌∷◌, ◌++◌, map, append-nil}
use Prim.Native.Nat.{ℕ, suc, ◌+◌, ◌-◌, ◌*◌, ◌≤◌, ◌<◌}
use native.Mathlib.Nat.{zero-add, le_antisymm}
use native.Mathlib.Numerals.{add-one}
use native.Mathlib.Omega.{arith}
use lib.Dec.{eqb}
use lib.ListN.{length, get_or, drop, length-append, length-map, length-drop}
use lib.Seq.{length-take-le}
use Rattle.words.specs.Lists.{mem, range, upto, filter, same}
use Rattle.words.proofs.Lists.{map_append, range_snoc, range_append, filter_append}
use Rattle.words.proofs.Members.{in_map, filter_in, range_in, not_in_mem}
use Rattle.model.specs.Picture.{Inst, inst, absent, list_of, writes}
use Rattle.model.specs.Move.{Job, appended, changes, new_list, more_of}
use Rattle.inst.proofs.Words.{word_is}
use Rattle.pool.specs.Pool.{mark_at, wrote_at, new_at}
use Rattle.rename.specs.Names.{named, reg_or, pick, job, Forgot}
use Rattle.rename.specs.Runs.{Line, Run, goes, rd_after, rd_rest, gone_places, gone_job, gone_jobs, Pass, Passed, AskX, PassedX, AskRest, PassedRest}
use Rattle.rename.proofs.Sequence.{parts_same, appended_append, appended_one, run_none, run_more}
use Rattle.rename.proofs.Lines.{line_still, still, operands_still}

stays_not : (b : Bool) → not b ≡ true → b ≡ false
stays_not true e = absurd (false≢true e)
stays_not false e = refl

pub funext : (f g : ℕ → ℕ) → ((x : ℕ) → f x ≡ g x) → f ≡ g
funext f g h = λ i x. h x i

-- ---- what one more position adds

upto_more : (p : ℕ) → upto (p + 1) ≡ upto p ++ (p ∷ [])
upto_more p = ap upto (add-one p) ∙ range_snoc 0 p ∙ ap (λ (k : ℕ). upto p ++ (k ∷ [])) (zero-add p)

module _ {A : Type 0} (f : ℕ → A) (t : ℕ → Bool) where
  pub taken_more : (p : ℕ) → map f (filter t (upto (p + 1))) ≡ map f (filter t (upto p)) ++ cond (t p) (f p ∷ []) []
  taken_more p =
      ap (λ (l : List ℕ). map f (filter t l)) (upto_more p) ∙ ap (map f) (filter_append t (upto p) (p ∷ [])) ∙ map_append f (filter t (upto p)) (filter t (p ∷ []))
      ∙ ap (λ (l : List A). map f (filter t (upto p)) ++ l) (last (t p))
    where
      last : (b : Bool) → map f (cond b (p ∷ []) []) ≡ cond b (f p ∷ []) []
      last true = refl
      last false = refl

  pub taken_split : (k m : ℕ) → k ≤ m → map f (filter t (upto m)) ≡ map f (filter t (upto k)) ++ map f (filter t (range k (m - k)))
  taken_split k m h =
      ap (λ (n : ℕ). map f (filter t (upto n))) {x = m} {y = k + (m - k)} (omega arith)
      ∙ ap (λ (l : List ℕ). map f (filter t l)) (sym (range_append 0 k (m - k)) ∙ ap (λ (z : ℕ). range 0 k ++ range z (m - k)) (zero-add k))
      ∙ ap (map f) (filter_append t (upto k) (range k (m - k))) ∙ map_append f (filter t (upto k)) (filter t (range k (m - k)))

-- a place behind those passed
place_out : (w : List ℕ) (lo p q : ℕ) → lo + p ≤ q → mem q (gone_places w lo p) ≡ false
place_out w lo p q h = not_in_mem q (gone_places w lo p) (λ i.
    let a = in_map (λ z. lo + z) q (filter (goes w) (upto p)) i in
    let b = range_in a.0 0 p (filter_in (goes w) a.0 (upto p) a.1).0 in
    let c = b.1 in
    let d = a.2 in
    omega arith)

-- ---- along x

pub record Passing (u lo m : ℕ) (ws₀ ws xs ys ops₀ ops w : List ℕ) (n p : ℕ) : Type 0 where
  pub high : p ≤ m
  pub run : Run u (gone_places w lo p) (gone_jobs (named ws₀) w xs lo p) xs ys ops₀ ops n
  pub names_size : length ws ≡ length ws₀
  pub names : (y : ℕ) → named ws y ≡ rd_after (named ws₀) w xs lo p y

pub passing_none : (u lo m : ℕ) (ws xs ops w : List ℕ) → Passing u lo m ws ws xs xs ops ops w u 0
unfolding rd_after
passing_none u lo m ws xs ops w = record { high = omega arith; run = run_none u xs ops; names_size = refl; names = λ y. refl }

module _ {u lo m n p : ℕ} {ws₀ ws xs ys ops₀ ops w : List ℕ} (k : AskX u lo m ws₀ xs ops₀ w) (h : Passing u lo m ws₀ ws xs ys ops₀ ops w n p) (lt : p < m) where
  abbrev q : ℕ
  q = lo + p

  abbrev nw : ℕ
  nw = new_at w p

  fresh : mem q (gone_places w lo p) ≡ false
  fresh = place_out w lo p q (omega arith)

  line : Line (length ws₀) u xs q
  line = k.lines p lt

  word : (i : ℕ) → i < 16 → get_or ys (16 * q + i) 0 ≡ get_or xs (16 * q + i) 0
  word i l = h.run.others q i fresh l

  same_inst : inst ys q ≡ inst xs q
  same_inst = still ys h.run.size line h.names_size word

  list_used : get_or (inst xs q) 7 0 + get_or (inst xs q) 8 0 ≤ u
  list_used = subst (λ (z : ℕ). z ≤ u) (ap₂ (λ (x y : ℕ). x + y) (word_is xs q 7 (omega arith)) (word_is xs q 8 (omega arith))) line.list_ok

  -- the member's job, by the words as they are
  abbrev J : Job
  J = job (inst xs q) ws nw

  job_is : J ≡ gone_job (named ws₀) w xs lo p
  job_is = ap (λ (f : ℕ → ℕ). record { old = inst xs q; rd = f; wr = reg_or nw }) (funext (named ws) (rd_after (named ws₀) w xs lo p) h.names)

  changes_is : changes ops (job (inst ys q) ws nw) ≡ changes ops₀ J
  changes_is =
      ap (λ (i : Inst). changes ops (job i ws nw)) same_inst
      ∙ ap (λ (l : List ℕ). not (same (map (named ws) l) l)) (parts_same (get_or (inst xs q) 7 0) (get_or (inst xs q) 8 0) u ops₀ ops list_used h.run.ops_front)

  abbrev jobs_at : ℕ → List Job
  jobs_at i = gone_jobs (named ws₀) w xs lo i

  fits : eqb (mark_at w p) 0 ≡ false → n + length (more_of ops₀ J) ≤ length ops₀
  fits z =
      let rest : List Job = map (gone_job (named ws₀) w xs lo) (filter (goes w) (range (p + 1) (m - (p + 1)))) in
      let more : jobs_at (p + 1) ≡ jobs_at p ++ (J ∷ []) =
      taken_more (gone_job (named ws₀) w xs lo) (goes w) p ∙ ap₂ (λ (b : Bool) (j : Job). jobs_at p ++ cond (not b) (j ∷ []) []) z (sym job_is) in
      let total : length (appended ops₀ (jobs_at m)) ≡ length (appended ops₀ (jobs_at p)) + length (more_of ops₀ J) + length (appended ops₀ rest) =
      ap (λ (l : List Job). length (appended ops₀ l)) (taken_split (gone_job (named ws₀) w xs lo) (goes w) (p + 1) m (omega arith) ∙ ap (λ (l : List Job). l ++ rest) more)
      ∙ ap length (appended_append ops₀ (jobs_at p ++ (J ∷ [])) rest ∙ ap (λ (l : List ℕ). l ++ appended ops₀ rest) (appended_append ops₀ (jobs_at p) (J ∷ []) ∙ ap (λ (l : List ℕ). appended ops₀ (jobs_at p) ++ l) (appended_one ops₀ J)))
      ∙ length-append (appended ops₀ (jobs_at p) ++ more_of ops₀ J) (appended ops₀ rest) ∙ ap (λ (x : ℕ). x + length (appended ops₀ rest)) (length-append (appended ops₀ (jobs_at p)) (more_of ops₀ J)) in
      let r = k.room in
      let c = h.run.count in
      omega arith

  used_is : u ≤ n
  used_is = let c = h.run.count in omega arith

  -- what is in use so far is less than all that will be
  within : n ≤ length ops₀
  within =
      let rest : List Job = map (gone_job (named ws₀) w xs lo) (filter (goes w) (range p (m - p))) in
      let total : length (appended ops₀ (jobs_at m)) ≡ length (appended ops₀ (jobs_at p)) + length (appended ops₀ rest) =
      ap (λ (l : List Job). length (appended ops₀ l)) (taken_split (gone_job (named ws₀) w xs lo) (goes w) p m (omega arith))
      ∙ ap length (appended_append ops₀ (jobs_at p) rest) ∙ length-append (appended ops₀ (jobs_at p)) (appended ops₀ rest) in
      let r = k.room in
      let c = h.run.count in
      omega arith

  pub passing_ask : Pass q u n ws (goes w p) (wrote_at w p) nw ys ops
  passing_ask = record {
    line = line_still ys h.run.size line h.names_size word;
    operands = operands_still {o = u} k.operands h.names_size (omega arith) h.run.ops_size h.run.ops_front;
    used = used_is;
    lent = let a = within in let b = h.run.ops_size in omega arith;
    wrote_ok = subst (λ (z : ℕ). (wrote_at w p ≡ absent → ⊥) → wrote_at w p < z) (sym h.names_size) (k.wrote_ok p lt);
    room = λ z g.
        let list_long : length (new_list ops₀ J) ≡ get_or ys (16 * q + 8) 0 =
        length-map (list_of ops₀ (inst xs q)) (named ws) ∙ length-take-le (get_or (inst xs q) 8 0) (drop (get_or (inst xs q) 7 0) ops₀) (let a = list_used in let b = k.operands.lent in simp length-drop (omega arith))
        ∙ sym (word_is xs q 8 (omega arith)) ∙ sym (word 8 (omega arith)) in
        let more : length (more_of ops₀ J) ≡ get_or ys (16 * q + 8) 0 =
        ap (λ (b : Bool). length {A = ℕ} (elim b as (λ y. List ℕ) [ true ↦ new_list ops₀ J | false ↦ [] ])) (sym changes_is ∙ g) ∙ list_long in
        let f = fits (stays_not (eqb (mark_at w p) 0) z) in
        let s = h.run.ops_size in
        omega arith;
  }

  module _ {vs zs ops₂ : List ℕ} {r : ℕ} (s : Passed q n (goes w p) (wrote_at w p) nw ws vs ys zs ops ops₂ r) where
    abbrev places_at : ℕ → List ℕ
    places_at i = gone_places w lo i

    kept_more : eqb (mark_at w p) 0 ≡ true → Passing u lo m ws₀ vs xs zs ops₀ ops₂ w r (p + 1)
    unfolding rd_after
    kept_more t =
        let a = s.kept (ap not t) in
        let ps_is : places_at p ≡ places_at (p + 1) =
        sym (taken_more (λ x. lo + x) (goes w) p ∙ ap (λ (b : Bool). places_at p ++ cond (not b) ((lo + p) ∷ []) []) t ∙ append-nil (places_at p)) in
        let js_is : jobs_at p ≡ jobs_at (p + 1) =
        sym (taken_more (gone_job (named ws₀) w xs lo) (goes w) p ∙ ap (λ (b : Bool). jobs_at p ++ cond (not b) (gone_job (named ws₀) w xs lo p ∷ []) []) t ∙ append-nil (jobs_at p)) in
        record {
          high = omega arith;
          run =
              subst (λ (l : List ℕ). Run u l (jobs_at (p + 1)) xs zs ops₀ ops₂ r) ps_is (subst (λ (l : List Job). Run u (places_at p) l xs zs ops₀ ops₂ r) js_is
              (subst (λ (l : List ℕ). Run u (places_at p) (jobs_at p) xs l ops₀ ops₂ r) (sym a.0) (subst (λ (l : List ℕ). Run u (places_at p) (jobs_at p) xs ys ops₀ l r) (sym a.1) (subst (Run u (places_at p) (jobs_at p) xs ys ops₀ ops) (sym a.2) h.run))));
          names_size = s.names_size ∙ h.names_size;
          names = λ y.
              a.3 y ∙ ap₂ (λ (i : Inst) (v : ℕ). pick (mem y (writes i)) y v) same_inst (h.names y)
              ∙ sym (ap (λ (b : Bool). cond b (pick (mem y (writes (inst xs q))) y (rd_after (named ws₀) w xs lo p y)) (cond (not (eqb (wrote_at w p) absent) && eqb y (wrote_at w p)) (reg_or nw y) (rd_after (named ws₀) w xs lo p y))) t)
              ∙ ap (λ (z : ℕ). rd_after (named ws₀) w xs lo z y) (sym (add-one p));
        }

    moved_more : eqb (mark_at w p) 0 ≡ false → Passing u lo m ws₀ vs xs zs ops₀ ops₂ w r (p + 1)
    unfolding rd_after
    moved_more t =
        let a = s.moved (ap not t) in
        let ps_is : places_at p ++ (q ∷ []) ≡ places_at (p + 1) =
        sym (taken_more (λ x. lo + x) (goes w) p ∙ ap (λ (b : Bool). places_at p ++ cond (not b) ((lo + p) ∷ []) []) t) in
        let js_is : jobs_at p ++ (J ∷ []) ≡ jobs_at (p + 1) =
        sym (taken_more (gone_job (named ws₀) w xs lo) (goes w) p ∙ ap₂ (λ (b : Bool) (j : Job). jobs_at p ++ cond (not b) (j ∷ []) []) t (sym job_is)) in
        record {
          high = omega arith;
          run =
              subst (λ (l : List ℕ). Run u l (jobs_at (p + 1)) xs zs ops₀ ops₂ r) ps_is (subst (λ (l : List Job). Run u (places_at p ++ (q ∷ [])) l xs zs ops₀ ops₂ r) js_is
              (run_more h.run a.0 fresh line.known.within.whole list_used));
          names_size = s.names_size ∙ h.names_size;
          names = λ y.
              a.1 y ∙ ap (λ (v : ℕ). cond (not (eqb (wrote_at w p) absent) && eqb y (wrote_at w p)) (reg_or nw y) v) (h.names y)
              ∙ sym (ap (λ (b : Bool). cond b (pick (mem y (writes (inst xs q))) y (rd_after (named ws₀) w xs lo p y)) (cond (not (eqb (wrote_at w p) absent) && eqb y (wrote_at w p)) (reg_or nw y) (rd_after (named ws₀) w xs lo p y))) t)
              ∙ ap (λ (z : ℕ). rd_after (named ws₀) w xs lo z y) (sym (add-one p));
        }

    pub passing_more : Passing u lo m ws₀ vs xs zs ops₀ ops₂ w r (p + 1)
    passing_more = go (eqb (mark_at w p) 0) refl
      where
        go : (b : Bool) → eqb (mark_at w p) 0 ≡ b → Passing u lo m ws₀ vs xs zs ops₀ ops₂ w r (p + 1)
        go true e = kept_more e
        go false e = moved_more e

pub passing_end : {u lo m n p : ℕ} {ws₀ ws xs ys ops₀ ops w : List ℕ} → Passing u lo m ws₀ ws xs ys ops₀ ops w n p → m ≤ p → PassedX u lo m ws₀ ws xs ys ops₀ ops w n
passing_end {u} {lo} {m} {n} {p} {ws₀} {ws} {xs} {ys} {ops₀} {ops} {w} h l =
    let g : Passing u lo m ws₀ ws xs ys ops₀ ops w n m = subst (Passing u lo m ws₀ ws xs ys ops₀ ops w n) (le_antisymm h.high l) h in
    record { run = g.run; names_size = g.names_size; names = g.names }

-- ---- the rest of the chain

pub record Skipping (a e : ℕ) (ws₀ ws xs w : List ℕ) (p : ℕ) : Type 0 where
  pub low : a ≤ p
  pub high : p ≤ e
  pub so_far : PassedRest a (p - a) ws₀ ws xs w

pub skipping_none : (a e : ℕ) (ws xs w : List ℕ) → a ≤ e → Skipping a e ws ws xs w a
unfolding rd_rest
skipping_none a e ws xs w h = record {
  low = omega arith;
  high = h;
  so_far = subst (λ (k : ℕ). PassedRest a k ws ws xs w) {x = 0} {y = a - a} (omega arith) (record { names_size = refl; names = λ y. refl });
}

-- the record at position p, for the words as they are
pub line_at : {u a e p q : ℕ} {ws₀ ws xs w : List ℕ} → AskRest u a e ws₀ xs w → Skipping a e ws₀ ws xs w p → p < e → q ≡ get_or w (10 * p) 0 → Line (length ws) u xs q
line_at {u} {a} {e} {p} {q} {ws₀} {ws} {xs} {w} k h lt eq =
    subst (λ (z : ℕ). Line z u xs q) (sym h.so_far.names_size) (subst (Line (length ws₀) u xs) (sym eq) (k.lines p h.low lt))

pub skipping_more : {u a e p q : ℕ} {ws₀ ws vs xs w : List ℕ} → AskRest u a e ws₀ xs w → Skipping a e ws₀ ws xs w p → p < e → q ≡ get_or w (10 * p) 0 → Forgot (inst xs q) ws vs → Skipping a e ws₀ vs xs w (p + 1)
unfolding rd_rest
skipping_more {u} {a} {e} {p} {q} {ws₀} {ws} {vs} {xs} {w} k h lt eq f =
    let lo = h.low in
    let s = h.so_far in
    let at : a + (p - a) ≡ p = omega arith in
    record {
      low = omega arith;
      high = omega arith;
      so_far = subst (λ (i : ℕ). PassedRest a i ws₀ vs xs w) {x = suc (p - a)} {y = p + 1 - a} (omega arith) (record {
        names_size = f.size ∙ s.names_size;
        names = λ y.
            f.names y
            ∙ ap₂ (λ (i v : ℕ). pick (mem y (writes (inst xs i))) y v) (eq ∙ ap (λ (z : ℕ). get_or w (10 * z) 0) (sym at)) (s.names y);
      });
    }

pub skipping_end : {a e p : ℕ} {ws₀ ws xs w : List ℕ} → Skipping a e ws₀ ws xs w p → e ≤ p → PassedRest a (e - a) ws₀ ws xs w
skipping_end {a} {e} {p} {ws₀} {ws} {xs} {w} h l = let g = h.high in subst (λ (k : ℕ). PassedRest a k ws₀ ws xs w) {x = p - a} {y = e - a} (omega arith) h.so_far
