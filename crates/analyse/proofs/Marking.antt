-- The last writers in the words of registers, and what they left: marked and forgotten. Assumes nothing.
use Rattle.std.specs.Prelude.{Option, None, Some}
use mathlib.Core.Bool.{Bool, true, false, cond}
use mathlib.Core.List.{List, [], ◌∷◌, ◌++◌}
use mathlib.Core.Path.{◌≡◌, refl, sym, ap, ◌∙◌, subst}
use Prim.Native.Nat.{ℕ, suc, ◌+◌, ◌*◌, ◌/◌, ◌%◌, ◌≤◌, ◌<◌}
use native.Mathlib.Decide.{ℕ_discrete}
use native.Mathlib.Nat.{not-suc-le-zero, add-zero, add-suc, suc-add}
use native.Mathlib.Omega.{arith}
use lib.Dec.{eqb}
use lib.ListN.{get_or, length, take, drop, set, length-set, length-append, get_or-append}
use lib.Seq.{get_or-set_same, get_or-set_other}
use Rattle.std.proofs.lemmas.List.{length-take-le, take-append-drop, get_or-append_right}
use Rattle.words.specs.Lists.{mem}
use Rattle.model.specs.Analyse.{Fact, last_writer}
use Rattle.effects.proofs.Origins.{num_le}
use Rattle.inst.specs.Written.{settle}
use Rattle.effects.specs.Origin.{num}
use Rattle.analyse.specs.State.{place_at, left_in, Ranges}
use Rattle.analyse.specs.Step.{stamp, marked, Forgot}
use Rattle.analyse.proofs.Looked.{num_bit}

pub marked_twice : (p v : ℕ) → marked p (marked p v) ≡ marked p v
unfolding marked
marked_twice p v = omega arith

-- ---- one more position

pub last_more : (k : ℕ) (past : List Fact) (f : Fact) (r : ℕ) → last_writer k (past ++ (f ∷ [])) r ≡ cond (mem r f.defs) (Some (k + length past)) (last_writer k past r)
last_more k [] f r = ap (λ (n : ℕ). cond (mem r f.defs) (Some n) None) (sym (add-zero k))
last_more k (g ∷ past) f r =
    ap (λ (o : Option ℕ). first o (cond (mem r g.defs) (Some k) None)) (last_more (suc k) past f r)
    ∙ go (mem r f.defs) (last_writer (suc k) past r)
  where
    first : Option ℕ → Option ℕ → Option ℕ
    first o d = elim o [ Some q ↦ Some q | None ↦ d ]

    go : (b : Bool) (o : Option ℕ) → first (cond b (Some (suc k + length past)) o) (cond (mem r g.defs) (Some k) None) ≡ cond b (Some (k + suc (length past))) (first o (cond (mem r g.defs) (Some k) None))
    go true o = ap Some (suc-add k (length past) ∙ sym (add-suc k (length past)))
    go false o = refl

pub settle_flags : (d : ℕ) (b : Bool) (v : ℕ) → settle (marked d) b v % 16 ≡ v % 16
unfolding settle marked
settle_flags d true v = omega arith
settle_flags d false v = refl

-- a word with no writer
pub ranges_none : (n v : ℕ) → v < 16 → Ranges n v
ranges_none n v h = record { writer = let z : v / 16 % 1024 ≡ 0 = omega arith in omega (arith, z); org = let z : v / 16384 % 2048 ≡ 0 = omega arith in omega (arith, z); none = λ e. h }

-- one that position p has written
module _ (p o : ℕ) (l y : Bool) (few : p + 1 < 1000) (low : o < 6 + 2 * p) where
  abbrev d : ℕ
  d = stamp p o l y

  abbrev h : ℕ
  h = o + 2048 * num l + 4096 * num y

  pub writer_new : (v : ℕ) → marked d v / 16 % 1024 ≡ suc p
  unfolding marked stamp
  writer_new v = omega (arith, few)

  over : (v : ℕ) → marked d v / 16384 ≡ h
  unfolding marked stamp
  over v = omega (arith, few)

  org_new : (v : ℕ) → marked d v / 16384 % 2048 ≡ o
  org_new v = ap (λ (n : ℕ). n % 2048) (over v) ∙ omega (arith, few, low)

  pub left_new : (v : ℕ) → left_in (marked d v) ≡ record { org = o; len = l; layout = y }
  unfolding left_in
  left_new v =
      let a : eqb (marked d v / 16384 / 2048 % 2) 1 ≡ l = num_bit l (marked d v / 16384 / 2048 % 2) (ap (λ (n : ℕ). n / 2048 % 2) (over v) ∙ omega (arith, few, low, num_le l)) in
      let b : eqb (marked d v / 16384 / 4096 % 2) 1 ≡ y = num_bit y (marked d v / 16384 / 4096 % 2) (ap (λ (n : ℕ). n / 4096 % 2) (over v) ∙ omega (arith, few, low, num_le l, num_le y)) in
      rw (org_new v, a, b)

  pub ranges_settle : (b : Bool) (v : ℕ) → Ranges p v → Ranges (p + 1) (settle (marked d) b v)
  unfolding settle
  ranges_settle true v g = record {
    writer = let e = writer_new v in omega (arith, e);
    org = let e = org_new v in omega (arith, e, low);
    none = λ z. let e = writer_new v in absurd (omega (arith, e, z));
  }
  ranges_settle false v g = record { writer = omega (arith, g.writer); org = omega (arith, g.org); none = g.none }

  pub opt_settle : (b : Bool) (v : ℕ) → place_at (settle (marked d) b v / 16 % 1024) ≡ cond b (Some p) (place_at (v / 16 % 1024))
  unfolding settle place_at
  opt_settle true v = ap place_at (writer_new v)
  opt_settle false v = refl

-- ---- forgetting

pub record Forgetting (R r : ℕ) (before now : List ℕ) : Type 0 where
  pub upto : r ≤ R
  pub size : length now ≡ length before
  pub done : (k : ℕ) → k < r → get_or now k 0 ≡ get_or before k 0 % 16
  pub todo : (k : ℕ) → r ≤ k → get_or now k 0 ≡ get_or before k 0

pub forgetting_none : (R : ℕ) (xs : List ℕ) → Forgetting R 0 xs xs
forgetting_none R xs = record { upto = omega arith; size = refl; done = λ k h. absurd (not-suc-le-zero h); todo = λ k h. refl }

pub forgetting_more : {r : ℕ} {xs ys : List ℕ} → Forgetting (length xs) r xs ys → r < length xs → Forgetting (length xs) (r + 1) xs (set ys r (get_or ys r 0 % 16))
forgetting_more {r} {xs} {ys} f h = record {
  upto = omega arith;
  size = length-set ys r (get_or ys r 0 % 16) ∙ f.size;
  done = λ k q. go k q (ℕ_discrete k r);
  todo = λ k q. get_or-set_other ys r k (get_or ys r 0 % 16) 0 (λ e. omega arith) ∙ f.todo k (omega arith);
}
  where
    go : (k : ℕ) → k < r + 1 → Dec (k ≡ r) → get_or (set ys r (get_or ys r 0 % 16)) k 0 ≡ get_or xs k 0 % 16
    go k q (yes e) =
        ap (λ (x : ℕ). get_or (set ys r (get_or ys r 0 % 16)) x 0) e ∙ get_or-set_same ys r (get_or ys r 0 % 16) 0 (omega (arith, f.size))
        ∙ ap (λ (x : ℕ). x % 16) (f.todo r (omega arith)) ∙ ap (λ (x : ℕ). get_or xs x 0 % 16) (sym e)
    go k q (no e) = get_or-set_other ys r k (get_or ys r 0 % 16) 0 e ∙ f.done k (omega arith)

-- the words behind them are as they were
pub forgetting_end : {n r : ℕ} (xs : List ℕ) {ys : List ℕ} → n ≤ length xs → Forgetting (length (take n xs)) r (take n xs) ys → length (take n xs) ≤ r → Forgot n xs (ys ++ drop n xs)
forgetting_end {n} {r} xs {ys} l f h =
    let e = length-take-le n xs l in
    let bs = drop n xs in
    subst (λ (zs : List ℕ). Forgot n zs (ys ++ bs)) (take-append-drop n xs) (record {
      size = let a = length-append ys bs in let b = length-append (take n xs) bs in omega (arith, a, b, f.size);
      low = λ k q.
          get_or-append ys bs 0 k (omega (arith, f.size, e)) ∙ f.done k (omega (arith, e))
          ∙ ap (λ (x : ℕ). x % 16) (sym (get_or-append (take n xs) bs 0 k (omega (arith, e))));
      high = λ k q. get_or-append_right ys bs n k 0 (f.size ∙ e) q ∙ sym (get_or-append_right (take n xs) bs n k 0 e q);
    })
