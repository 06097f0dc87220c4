-- What was counted, and what was written, is `model`'s `apply`. Assumes nothing.
use mathlib.Core.Path.{◌≡◌, refl, sym, ap, ap₂, ◌∙◌, subst}
use mathlib.Core.Bool.{Bool, cond}
use mathlib.Core.List.{List, [], ◌∷◌, ◌++◌, map, append_assoc}
use Prim.Native.Nat.{ℕ, zero, suc, ◌+◌, ◌-◌, ◌*◌, ◌≤◌, ◌<◌}
use native.Mathlib.Nat.{add-zero, suc-ne-zero}
use native.Mathlib.Omega.{arith}
use borrow.Author.Tests.{ne_eqb}
use lib.Dec.{eqb}
use lib.ListN.{get_or, length, take, drop, length-append, length-map, take-append-drop}
use lib.Seq.{drop-drop}
use Rattle.words.specs.Lists.{upto, filter, concat}
use Rattle.words.proofs.Lists.{length_range}
use Rattle.model.specs.Picture.{Picture, inst, absent, writes, starts, ends, size, places, code}
use Rattle.model.specs.Analyse.{Fact}
use Rattle.model.specs.Move.{Plan, Job, members, member_job, own_jobs, jobs, fresh, order, appended, apply}
use Rattle.laws.proofs.Applied.{length_own}
use Rattle.pool.specs.Pool.{Allots, typed}
use Rattle.pool.specs.Types.{over}
use Rattle.pool.proofs.Fresh as F
use Rattle.rename.specs.Runs.{Run, goes}
use Rattle.rename.specs.All.{AskAll, all_jobs, all_places}
use Rattle.mover.specs.Order.{cells, moved, all_moved, Moves}
use Rattle.mover.specs.Spans.{Shifted}
use Rattle.mover.proofs.Ordered.{Says}
use Rattle.apply.specs.Apply.{Rest, picture, plan, Stands, Given, Asks, Counted, Holds, opers_after}
use Rattle.apply.proofs.Asked as Q
use Rattle.apply.proofs.Walked as W
use Rattle.apply.proofs.Placed as D

-- ---- words that differ in the new registers alone

module _ (w v : List ℕ) (keeps : (q k : ℕ) → k < 9 → get_or v (10 * q + k) 0 ≡ get_or w (10 * q + k) 0) where
  first : (p : ℕ) → get_or v (10 * p) 0 ≡ get_or w (10 * p) 0
  first p = ap (λ (k : ℕ). get_or v k 0) (sym (add-zero (10 * p))) ∙ keeps p 0 (omega arith) ∙ ap (λ (k : ℕ). get_or w k 0) (add-zero (10 * p))

  pub asks_kept : {x t m n R u K N : ℕ} {bounds recs types ops : List ℕ} → length v ≡ length w → Asks x t m n R u K N bounds recs types ops w → Asks x t m n R u K N bounds recs types ops v
  asks_kept {x} {t} {m} {n} {R} {u} {K} {N} {bounds} size k = record {
    laid = k.laid;
    x_in = k.x_in;
    t_in = k.t_in;
    apart = k.apart;
    some = k.some;
    inside = k.inside;
    few = k.few;
    chain = k.chain;
    words = let a = k.words in omega arith;
    whole = k.whole;
    few_insts = k.few_insts;
    names = k.names;
    few_names = k.few_names;
    regs = k.regs;
    few_types = k.few_types;
    types_ok = k.types_ok;
    until_ok = λ p h. subst (λ (z : ℕ). z < 4096) (sym (keeps p 7 (omega arith))) (k.until_ok p h);
    wrote_ok = λ p h. subst (λ (z : ℕ). (z ≡ absent → ⊥) → z < R) (sym (keeps p 8 (omega arith))) (k.wrote_ok p h);
    lines = k.lines;
    operands = k.operands;
    rest_in = λ p g h. subst (λ (z : ℕ). z < N) (sym (first p)) (k.rest_in p g h);
    rest_apart = λ p g h. subst (λ (z : ℕ). get_or bounds (2 * x) 0 ≤ z → get_or bounds (2 * x) 0 + m ≤ z) (sym (first p)) (k.rest_apart p g h);
  }

  stands_kept : {P : Picture} {a : Plan} {m n : ℕ} → Stands P a m n w → Stands P a m n v
  stands_kept {P} s = record {
    long = s.long;
    marked = record {
      marks = λ p h. ap (λ (z : ℕ). eqb z 0) (keeps p 6 (omega arith)) ∙ s.marked.marks p h;
      lasts = λ p h e. keeps p 7 (omega arith) ∙ s.marked.lasts p h e;
      wrotes = λ p h e. ap (λ (z : ℕ). cond (eqb z absent) [] (z ∷ [])) (keeps p 8 (omega arith)) ∙ s.marked.wrotes p h e;
      outside = s.marked.outside;
    };
    defs = λ p h. s.defs p h ∙ ap (λ (z : ℕ). writes (inst P.recs z)) (sym (first p));
    x_recs = λ p h. first p ∙ s.x_recs p h;
  }

-- what `rename` asks, by the bounds that were read
pub ask_at : {x t m n R u K N lo a e : ℕ} {bounds recs types ops w : List ℕ} → Asks x t m n R u K N bounds recs types ops w
    → lo ≡ get_or bounds (2 * x) 0 → a ≡ get_or bounds (2 * t) 0 → e ≡ get_or bounds (2 * t + 1) 0 → AskAll u lo m n a e K recs ops w
ask_at {x} {t} {m} {n} {R} {u} {K} {N} {lo} {a} {e} {bounds} {recs} {types} {ops} {w} k el ea ee =
    subst (λ (z : ℕ). AskAll u z m n a e K recs ops w) (sym el) (subst (λ (z : ℕ). AskAll u (get_or bounds (2 * x) 0) m n z e K recs ops w) (sym ea)
    (subst (λ (z : ℕ). AskAll u (get_or bounds (2 * x) 0) m n (get_or bounds (2 * t) 0) z K recs ops w) (sym ee) (Q.ask_all k)))

-- the jobs, by the bounds that were read
pub jobs_at : (x t m n : ℕ) {lo a e : ℕ} (bounds recs w : List ℕ) → lo ≡ get_or bounds (2 * x) 0 → a ≡ get_or bounds (2 * t) 0 → e ≡ get_or bounds (2 * t + 1) 0
    → all_jobs w recs lo m n a e ≡ all_jobs w recs (get_or bounds (2 * x) 0) m n (get_or bounds (2 * t) 0) (get_or bounds (2 * t + 1) 0)
jobs_at x t m n {lo} {a} {e} bounds recs w el ea ee =
    ap (λ (z : ℕ). all_jobs w recs z m n a e) el ∙ ap₂ (λ (y z : ℕ). all_jobs w recs (get_or bounds (2 * x) 0) m n y z) ea ee

-- room for the operands, by the bounds that were read
pub room_at : (x t m n u : ℕ) {lo a e : ℕ} (bounds recs ops w : List ℕ) → lo ≡ get_or bounds (2 * x) 0 → a ≡ get_or bounds (2 * t) 0 → e ≡ get_or bounds (2 * t + 1) 0 → opers_after x t m n u bounds recs ops w ≤ length ops
    → u + length (appended ops (all_jobs w recs lo m n a e)) ≤ length ops
room_at x t m n u bounds recs ops w el ea ee h = subst (λ (js : List Job). u + length (appended ops js) ≤ length ops) (sym (jobs_at x t m n bounds recs w el ea ee)) h

-- ---- counted

pub needs_law : {x t m n R u K N regs more lo a e : ℕ} {bounds recs types ops w v : List ℕ} → Asks x t m n R u K N bounds recs types ops w → Allots R m types w v regs
    → lo ≡ get_or bounds (2 * x) 0 → a ≡ get_or bounds (2 * t) 0 → e ≡ get_or bounds (2 * t + 1) 0 → more ≡ length (appended ops (all_jobs v recs lo m n a e))
    → Counted x t m n R u bounds recs types ops w v regs (u + more)
needs_law {x} {t} {m} {n} {R} {u} {K} {N} {regs} {more} {lo} {a} {e} {bounds} {recs} {types} {ops} {w} {v} k l el ea ee em =
    let keeps = l.all.keeps in
    let opers : u + more ≡ opers_after x t m n u bounds recs ops v = ap (λ (z : ℕ). u + z) (em ∙ ap (λ (js : List Job). length (appended ops js)) (jobs_at x t m n bounds recs v el ea ee)) in
    record {
      size = l.all.size;
      keeps = keeps;
      none_new = λ p h z. l.all.none_new p h (sym (keeps p 8 (omega arith)) ∙ z);
      regs_is = sym (ap length (sym l.all.types_are) ∙ l.all.next_is);
      opers_is = opers;
      counts = λ locs vias rest run set s.
          let P : Picture = picture bounds recs locs vias types R ops u rest in
          let b : Plan = plan x t run set in
          let s' : Stands P b m n v = stands_kept w v keeps s in
          let g : Given P b m v = record { types_are = F.types_is P b w v m regs s.marked k.inside l; regs_are = F.given_is P b w v m regs s.marked k.inside l } in
          (s', g, F.apply_regs P b w v m regs s.marked k.inside l, opers ∙ ap (λ (js : List Job). u + length (appended ops js)) (W.jobs_are P b m n v s' g k.chain k.inside));
    }

-- ---- written

run_ops : {o₀ o : ℕ} {ps : List ℕ} {js : List Job} {xs ys ops ops' : List ℕ} → Run o₀ ps js xs ys ops ops' o → ops' ≡ take o₀ ops ++ appended ops js ++ drop (o₀ + length (appended ops js)) ops
run_ops {o₀} {o} {ps} {js} {xs} {ys} {ops} {ops'} r =
    let c = r.count in
    let e : o₀ + (o - o₀) ≡ o = omega arith in
    sym (take-append-drop o₀ ops')
    ∙ ap₂ (λ (l m : List ℕ). l ++ m) r.ops_front (sym (take-append-drop (o - o₀) (drop o₀ ops')) ∙ ap₂ (λ (l m : List ℕ). l ++ m) r.ops_more (drop-drop (o - o₀) o₀ ops' ∙ ap (λ (k : ℕ). drop k ops') e ∙ r.ops_back ∙ ap (λ (k : ℕ). drop k ops) r.count))
    ∙ sym (append_assoc (take o₀ ops) (appended ops js) (drop (o₀ + length (appended ops js)) ops))

vias_law : (P : Picture) (a : Plan) (w : List ℕ) (lo m t N : ℕ) (vs : List ℕ) → vs ≡ all_moved 1 w lo m t N P.vias
    → ((length P.vias ≡ 0 → ⊥) → cells 1 P.vias (moved w lo m t N) ≡ map (λ p. get_or P.vias p 0) (concat (order P a))) → vs ≡ (apply P a).vias
unfolding all_moved
vias_law P a w lo m t N vs e h = e ∙ go P.vias h
  where
    go : (l : List ℕ) → ((length l ≡ 0 → ⊥) → cells 1 l (moved w lo m t N) ≡ map (λ p. get_or l p 0) (concat (order P a)))
        → cond (eqb (length l) 0) l (cells 1 l (moved w lo m t N)) ≡ elim (length l) as (λ z. List ℕ) [ zero ↦ [] | suc n ↦ map (λ p. get_or l p 0) (concat (order P a)) ]
    go [] f = refl
    go (y ∷ l) f = ap (λ (b : Bool). cond b (y ∷ l) (cells 1 (y ∷ l) (moved w lo m t N))) (ne_eqb (suc (length l)) 0 (suc-ne-zero (length l))) ∙ f (suc-ne-zero (length l))

module _ {x t m n R u K lo a e c o : ℕ} {bounds bounds' recs ys recs' locs locs' vias vias' types types' ops ops' w : List ℕ} (k : Asks x t m n R u K (length locs) bounds recs types ops w)
    (el : lo ≡ get_or bounds (2 * x) 0) (ea : a ≡ get_or bounds (2 * t) 0) (ee : e ≡ get_or bounds (2 * t + 1) 0) (ec : c ≡ length (filter (goes w) (upto m)))
    (ty : types' ≡ over (typed types w m (take R types)) types)
    (run : Run u (all_places w lo m a e) (all_jobs w recs lo m n a e) recs ys ops ops' o)
    (mv : Moves lo m a w ys recs' locs locs' vias vias')
    (each : (length vias ≡ 0 → ⊥) → length vias ≡ length locs)
    (sh : Shifted x t c bounds bounds') where
  pub apply_law : (rest : Rest) (facts : List Fact) (set : List Bool) → Stands (picture bounds recs locs vias types R ops u rest) (plan x t facts set) m n w → Given (picture bounds recs locs vias types R ops u rest) (plan x t facts set) m w
      → Holds (apply (picture bounds recs locs vias types R ops u rest) (plan x t facts set)) bounds' recs' locs' vias' types' ops'
  apply_law rest facts set s g =
      let P : Picture = picture bounds recs locs vias types R ops u rest in
      let b : Plan = plan x t facts set in
      let N : ℕ = length locs in
      let js : List Job = jobs P b (fresh P b).given in
      let said : Says set w m = record { marks = s.marked.marks; outside = s.marked.outside } in
      let js_are : all_jobs w recs lo m n a e ≡ js = jobs_at x t m n bounds recs w el ea ee ∙ W.jobs_are P b m n w s g k.chain k.inside in
      let run' : Run u (all_places w (starts P x) m (starts P t) (ends P t)) js recs ys ops ops' o =
      subst (λ (l : List Job). Run u (all_places w (starts P x) m (starts P t) (ends P t)) l recs ys ops ops' o) js_are
      (subst (λ (z : ℕ). Run u (all_places w z m (starts P t) (ends P t)) (all_jobs w recs lo m n a e) recs ys ops ops' o) el
      (subst (λ (z : ℕ). Run u (all_places w lo m z (ends P t)) (all_jobs w recs lo m n a e) recs ys ops ops' o) ea
      (subst (λ (z : ℕ). Run u (all_places w lo m a z) (all_jobs w recs lo m n a e) recs ys ops ops' o) ee run))) in
      let moved_is : moved w lo m a N ≡ moved w (starts P x) m (starts P t) N = ap₂ (λ (y z : ℕ). moved w y m z N) el ea in
      let long : length js ≡ length (filter (goes w) (upto m)) + size P t =
      length-append (map (member_job P b (fresh P b).given) (members P b)) (own_jobs _ (code P t))
      ∙ ap₂ ◌+◌ (length-map (members P b) (member_job P b (fresh P b).given) ∙ ap length (sym (W.taken_are P b m n w s g k.chain k.inside)))
      (length_own _ (code P t) ∙ length-map (places P t) (inst recs) ∙ length_range (starts P t) (size P t)) in
      record {
        bounds_are = D.bounds_moved P b N k.laid w m said k.x_in k.t_in k.apart k.inside js long (subst (λ (z : ℕ). Shifted x t z bounds bounds') ec sh);
        recs_are = D.recs_moved P b N k.laid w m said k.x_in k.t_in k.apart k.inside js ys ops' o run' k.whole k.some (mv.recs_are ∙ ap (cells 16 ys) moved_is);
        locs_are = D.words_moved P b N k.laid w m said k.x_in k.t_in k.apart k.inside k.some locs refl (mv.locs_are ∙ ap (cells 1 locs) moved_is);
        vias_are = vias_law P b w lo m a N vias' mv.vias_are (λ f. ap (cells 1 vias) moved_is ∙ D.words_moved P b N k.laid w m said k.x_in k.t_in k.apart k.inside k.some vias (sym (each f)) refl);
        types_are = ty ∙ ap (λ (l : List ℕ). over l types) (sym g.types_are);
        ops_are = run_ops run';
      }
