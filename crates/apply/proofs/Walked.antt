-- The names along the chain are `model`'s: the new register of the last writer, if that is a member. So the jobs are its jobs.
-- Assumes nothing.
use Rattle.std.specs.Prelude.{Some}
use mathlib.Core.Path.{◌≡◌, refl, sym, ap, ap₂, ◌∙◌}
use mathlib.Core.Bool.{Bool, true, false, not, ◌&&◌, cond, or-false, not-not}
use mathlib.Core.List.{List, [], ◌∷◌, ◌++◌, map}
use Prim.Native.Nat.{ℕ, zero, suc, ◌+◌, ◌-◌, ◌*◌, ◌≤◌, ◌<◌}
use native.Mathlib.Nat.{add-zero, zero-add, add-suc}
use native.Mathlib.Omega.{arith}
use lib.Dec.{eqb}
use lib.ListN.{get_or, length, take}
use lib.Seq.{take-suc, take_all, length-take-le}
use Rattle.words.specs.Lists.{mem, upto, filter, member, lookup}
use Rattle.words.proofs.Members.{map_on, filter_in, range_in}
use Rattle.words.proofs.Lists.{filter_ext}
use Rattle.model.specs.Picture.{Picture, inst, absent, writes, starts, ends, size, code}
use Rattle.model.specs.Analyse.{Fact, last_writer, no_fact}
use Rattle.model.specs.Legal.{fact_at}
use Rattle.model.specs.Move.{Plan, Job, members, new_name, member_job, jobs, fresh, own_jobs}
use Rattle.laws.proofs.Analysed.{writer_snoc}
use Rattle.pool.specs.Pool.{mark_at, wrote_at, new_at, reg_or}
use Rattle.pool.proofs.Fresh.{members_are}
use Rattle.rename.specs.Names.{pick}
use Rattle.rename.specs.Runs.{goes, rd_after, rd_rest, gone_job}
use Rattle.rename.specs.All.{all_rd, all_jobs}
use Rattle.rename.proofs.Passing.{funext}
use Rattle.apply.specs.Apply.{Stands, Given}

module _ (P : Picture) (a : Plan) (m n : ℕ) (w : List ℕ) (s : Stands P a m n w) (g : Given P a m w) (few : m ≤ n) where
  abbrev given : List (ℕ × ℕ)
  given = (fresh P a).given

  abbrev lo : ℕ
  lo = starts P a.x

  abbrev rd_at : ℕ → ℕ → ℕ
  rd_at p r = new_name P a given r (last_writer 0 (take p a.run) r)

  writer_at : (p r : ℕ) → p < n → last_writer 0 (take (suc p) a.run) r ≡ cond (mem r (writes (inst P.recs (get_or w (10 * p) 0)))) (Some p) (last_writer 0 (take p a.run) r)
  writer_at p r h =
      let l = s.long in
      ap (λ (fs : List Fact). last_writer 0 fs r) (take-suc a.run p no_fact (omega arith)) ∙ writer_snoc 0 (take p a.run) (fact_at a.run p) r
      ∙ ap₂ (λ (ds : List ℕ) (i : ℕ). cond (mem r ds) (Some i) (last_writer 0 (take p a.run) r)) (s.defs p h) (zero-add (length (take p a.run)) ∙ length-take-le p a.run (omega arith))

  -- a kept position: what it writes keeps its name
  kept_name : (p r : ℕ) → p < n → member a.set p ≡ false → pick (mem r (writes (inst P.recs (get_or w (10 * p) 0)))) r (rd_at p r) ≡ rd_at (suc p) r
  kept_name p r h out = go (mem r (writes (inst P.recs (get_or w (10 * p) 0)))) ∙ sym (ap (new_name P a given r) (writer_at p r h))
    where
      go : (b : Bool) → pick b r (rd_at p r) ≡ new_name P a given r (cond b (Some p) (last_writer 0 (take p a.run) r))
      go true = sym (ap (λ (c : Bool). elim c as (λ z. ℕ) [ true ↦ lookup given p r | false ↦ r ]) out)
      go false = refl

  -- a member: the register that it wrote has its new name
  moved_name : (p r : ℕ) → p < m → member a.set p ≡ true → cond (not (eqb (wrote_at w p) absent) && eqb r (wrote_at w p)) (reg_or (new_at w p) r) (rd_at p r) ≡ rd_at (suc p) r
  moved_name p r h is =
      ap (λ (b : Bool). cond b (reg_or (new_at w p) r) (rd_at p r)) test ∙ go (mem r (writes (inst P.recs (get_or w (10 * p) 0)))) ∙ sym (ap (new_name P a given r) (writer_at p r (omega arith)))
    where
      one : (b : Bool) → (not b && eqb r (wrote_at w p)) ≡ mem r (cond b [] (wrote_at w p ∷ []))
      one true = refl
      one false = sym (or-false (eqb r (wrote_at w p)))

      test : (not (eqb (wrote_at w p) absent) && eqb r (wrote_at w p)) ≡ mem r (writes (inst P.recs (get_or w (10 * p) 0)))
      test = one (eqb (wrote_at w p) absent) ∙ ap (mem r) (s.marked.wrotes p h is ∙ s.defs p (omega arith))

      go : (b : Bool) → cond b (reg_or (new_at w p) r) (rd_at p r) ≡ new_name P a given r (cond b (Some p) (last_writer 0 (take p a.run) r))
      go true = sym (ap (λ (c : Bool). elim c as (λ z. ℕ) [ true ↦ lookup given p r | false ↦ r ]) is ∙ g.regs_are p r h)
      go false = refl

  pub walked : (p : ℕ) → p ≤ m → (r : ℕ) → rd_after (λ z. z) w P.recs lo p r ≡ rd_at p r
  unfolding rd_after
  walked zero h r = refl
  walked (suc p) h r = go (eqb (mark_at w p) 0) refl (λ y. walked p (omega arith) y)
    where
      rec_is : lo + p ≡ get_or w (10 * p) 0
      rec_is = sym (s.x_recs p h)

      flip : (b c : Bool) → b ≡ not c → c ≡ not b
      flip true true e = e
      flip true false e = refl
      flip false true e = refl
      flip false false e = e

      go : (b : Bool) → eqb (mark_at w p) 0 ≡ b → ((y : ℕ) → rd_after (λ z. z) w P.recs lo p y ≡ rd_at p y)
          → cond b (pick (mem r (writes (inst P.recs (lo + p)))) r (rd_after (λ z. z) w P.recs lo p r)) (cond (not (eqb (wrote_at w p) absent) && eqb r (wrote_at w p)) (reg_or (new_at w p) r) (rd_after (λ z. z) w P.recs lo p r)) ≡ rd_at (suc p) r
      go true e ih =
          ap₂ (λ (i v : ℕ). pick (mem r (writes (inst P.recs i))) r v) rec_is (ih r) ∙ kept_name p r (omega arith) (flip true (member a.set p) (sym e ∙ s.marked.marks p h))
      go false e ih =
          ap (λ (v : ℕ). cond (not (eqb (wrote_at w p) absent) && eqb r (wrote_at w p)) (reg_or (new_at w p) r) v) (ih r) ∙ moved_name p r h (flip false (member a.set p) (sym e ∙ s.marked.marks p h))

  rested : (k : ℕ) → m + k ≤ n → (r : ℕ) → rd_rest (rd_after (λ z. z) w P.recs lo m) w P.recs m k r ≡ rd_at (m + k) r
  unfolding rd_rest
  rested zero h r = walked m (omega arith) r ∙ ap (λ (p : ℕ). rd_at p r) (sym (add-zero m))
  rested (suc k) h r =
      ap (λ (v : ℕ). pick (mem r (writes (inst P.recs (get_or w (10 * (m + k)) 0)))) r v) (rested k (omega arith) r)
      ∙ kept_name (m + k) r (omega arith) (s.marked.outside (m + k) (omega arith)) ∙ ap (λ (p : ℕ). rd_at p r) (sym (add-suc m k))

  -- in the target: the last writer in the whole chain
  pub rd_is : all_rd w P.recs lo m n ≡ (λ r. new_name P a given r (last_writer 0 a.run r))
  rd_is = funext (all_rd w P.recs lo m n) (λ r. new_name P a given r (last_writer 0 a.run r)) (λ r.
      let l = s.long in
      rested (n - m) (omega arith) r ∙ ap (λ (fs : List Fact). new_name P a given r (last_writer 0 fs r)) (take_all (m + (n - m)) a.run (omega arith)))

  -- ---- the jobs

  job_is : (p : ℕ) → p < m → gone_job (λ r. r) w P.recs lo p ≡ member_job P a given p
  job_is p h =
      ap₂ (λ (f v : ℕ → ℕ). record { old = inst P.recs (lo + p); rd = f; wr = v })
      (funext (rd_after (λ r. r) w P.recs lo p) (λ r. new_name P a given r (last_writer 0 (take p a.run) r)) (walked p (omega arith)))
      (funext (reg_or (new_at w p)) (λ r. lookup given p r) (λ r. sym (g.regs_are p r h)))

  goes_is : (p : ℕ) → p < m → goes w p ≡ member a.set p
  goes_is p h = ap not (s.marked.marks p h) ∙ not-not (member a.set p)

  pub taken_are : m ≤ size P a.x → filter (goes w) (upto m) ≡ members P a
  taken_are h = filter_ext (goes w) (member a.set) 0 m (λ p u v. goes_is p (omega arith)) ∙ sym (members_are P a m h s.marked.outside)

  pub jobs_are : m ≤ size P a.x → all_jobs w P.recs lo m n (starts P a.into) (ends P a.into) ≡ jobs P a given
  jobs_are h =
      ap₂ (λ (x y : List Job). x ++ y)
      (map_on (gone_job (λ r. r) w P.recs lo) (member_job P a given) (filter (goes w) (upto m)) (λ p i. job_is p (let b = (range_in p 0 m (filter_in (goes w) p (upto m) i).0).1 in omega arith))
      ∙ ap (map (member_job P a given)) (taken_are h))
      (ap (λ (f : ℕ → ℕ). own_jobs f (code P a.into)) rd_is)
