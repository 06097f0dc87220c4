-- Laws of the last kept position and of the last writer. Assumes nothing.
use Rattle.std.specs.Prelude.{Some}
use mathlib.Core.Path.{◌≡◌, refl, sym, ap, ◌∙◌}
use mathlib.Core.Logic.{⊎_elim}
use mathlib.Core.Bool.{Bool, true, false, not, ◌&&◌, cond}
use mathlib.Core.List.{List}
use Prim.Native.Nat.{ℕ, zero, suc, ◌+◌, ◌≤◌, ◌<◌}
use native.Mathlib.Omega.{arith}
use lib.Dec.{T, leb, leb→le, le→leb}
use lib.ListN.{length, take}
use lib.Seq.{take-suc, length-take-le}
use Rattle.words.specs.Lists.{mem}
use Rattle.words.specs.Last.{last_below}
use Rattle.words.proofs.Bools.{T_true, true_T, T_false, false_T, clash, bool?, both, left, right}
use Rattle.words.proofs.Lasts.{last_after, last_passes, last_low, last_mono, last_is}
use Rattle.model.specs.Analyse.{Fact, no_fact, last_writer}
use Rattle.model.specs.Legal.{fact_at}
use Rattle.laws.proofs.Analysed.{writer_snoc}
use Rattle.legalset.specs.Chain.{View, Stands, writer, place_at}
use Rattle.legalset.specs.Rules.{last_kept}
use Rattle.legalset.specs.Marks.{◌⊑◌}

-- ---- the last that passes

-- ---- the last kept

module _ (L f : ℕ → Bool) (n p : ℕ) where
  -- no kept position after p passes
  pub kept_none : T (leb (last_kept L f n) (p + 1)) → (q : ℕ) → p < q → q < n → L q ≡ false → f q ≡ false
  unfolding last_kept
  kept_none t q a b e =
      let l = leb→le (last_kept L f n) (p + 1) t in
      let z : last_below (λ q. not (L q) && f q) n ≤ q = omega arith in
      ap (λ (x : Bool). not x && f q) (sym e) ∙ last_after (λ q. not (L q) && f q) n q z b

  pub none_kept : ((q : ℕ) → p < q → q < n → L q ≡ false → f q ≡ false) → T (leb (last_kept L f n) (p + 1))
  unfolding last_kept
  none_kept h = le→leb (last_kept L f n) (p + 1) (go (last_below (λ q. not (L q) && f q) n) refl)
    where
      go : (m : ℕ) → last_below (λ q. not (L q) && f q) n ≡ m → last_below (λ q. not (L q) && f q) n ≤ p + 1
      go zero e = omega arith
      go (suc q) e =
          let z = last_passes (λ q. not (L q) && f q) n q e in
          let t = true_T (not (L q) && f q) z.1 in
          ⊎_elim (λ (y : p < q). clash (T_true (f q) (right (not (L q)) (f q) t)) (h q y z.0 (T_false (L q) (left (not (L q)) (f q) t)))) (λ (y : q ≤ p). omega arith) (Rattle.words.proofs.Bools.lt? p q)

pub kept_mono : (L A f : ℕ → Bool) (n : ℕ) → L ⊑ A → last_kept A f n ≤ last_kept L f n
unfolding last_kept
kept_mono L A f n s = last_mono (λ q. not (A q) && f q) (λ q. not (L q) && f q) n (λ k t. both (not (L k)) (f k) (out k (left (not (A k)) (f k) t)) (right (not (A k)) (f k) t))
  where
    out : (k : ℕ) → T (not (A k)) → T (not (L k))
    out k t = ⊎_elim (λ (e : L k ≡ true). clash (T_true (A k) (s k (true_T (L k) e))) (T_false (A k) t)) (λ (e : L k ≡ false). false_T (L k) e) (bool? (L k))

-- ---- the last writer

pub writer_low : (defs : ℕ → List ℕ) (r p : ℕ) → writer defs r p ≤ p
unfolding writer
writer_low defs r p = last_low (λ q. mem r (defs q)) p

-- d wrote r, and none between
pub record Wrote (defs : ℕ → List ℕ) (r p d : ℕ) : Type 0 where
  pub before : d < p
  pub writes : mem r (defs d) ≡ true
  pub none : (k : ℕ) → d < k → k < p → mem r (defs k) ≡ false

pub writer_wrote : (defs : ℕ → List ℕ) (r p d : ℕ) → writer defs r p ≡ suc d → Wrote defs r p d
unfolding writer
writer_wrote defs r p d e =
    let z = last_passes (λ q. mem r (defs q)) p d e in
    record { before = z.0; writes = z.1; none = λ k a b. last_after (λ q. mem r (defs q)) p k (omega arith) b }

pub wrote_writer : (defs : ℕ → List ℕ) (r p d : ℕ) → Wrote defs r p d → writer defs r p ≡ suc d
unfolding writer
wrote_writer defs r p d z = last_is (λ q. mem r (defs q)) p d z.before z.writes z.none

pub writer_is' : (defs : ℕ → List ℕ) (n : ℕ) (run : List Fact) → length run ≡ n → ((q : ℕ) → q < n → (fact_at run q).defs ≡ defs q) → (r q : ℕ) → q ≤ n → last_writer 0 (take q run) r ≡ place_at (writer defs r q)
unfolding writer last_below place_at
writer_is' defs n run e d r zero h = refl
writer_is' defs n run e d r (suc q) h =
    let l : q < length run = rw e (omega arith) in
    ap (λ (x : List Fact). last_writer 0 x r) (take-suc run q no_fact l)
    ∙ writer_snoc 0 (take q run) (fact_at run q) r
    ∙ ap (λ (x : ℕ). cond (mem r (fact_at run q).defs) (Some x) (last_writer 0 (take q run) r)) (native.Mathlib.Nat.zero-add (length (take q run)) ∙ length-take-le q run (omega arith))
    ∙ ap (λ (x : List ℕ). cond (mem r x) (Some q) (last_writer 0 (take q run) r)) (d q (omega arith))
    ∙ go (mem r (defs q)) (writer_is' defs n run e d r q (omega arith))
  where
    go : (b : Bool) → last_writer 0 (take q run) r ≡ place_at (last_below (λ q. mem r (defs q)) q)
        → cond b (Some q) (last_writer 0 (take q run) r) ≡ place_at (cond b (suc q) (last_below (λ q. mem r (defs q)) q))
    go true z = refl
    go false z = z

pub writer_is : (C : View) (n : ℕ) (run : List Fact) → Stands C n run → (r q : ℕ) → q ≤ n → last_writer 0 (take q run) r ≡ place_at (writer C.defs r q)
writer_is C n run s = writer_is' C.defs n run s.long s.defs
