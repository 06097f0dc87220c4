-- The writes of a record, slot by slot, over a word a register. Assumes nothing.
use mathlib.Core.Bool.{Bool, true, false, cond}
use mathlib.Core.List.{List, [], ◌++◌, append-nil}
use mathlib.Core.Logic.{◌⊎◌, ⊎_elim}
use mathlib.Core.Path.{◌≡◌, refl, sym, ap, ◌∙◌, subst}
use Prim.Native.Nat.{ℕ, ◌+◌, ◌≤◌, ◌<◌}
use native.Mathlib.Decide.{ℕ_discrete}
use native.Mathlib.Omega.{arith}
use borrow.Author.Tests.{eqb-true, eqb-false, eq-eqb, ne_eqb}
use lib.Dec.{eqb}
use lib.ListN.{get_or, length, set, length-set}
use lib.Seq.{get_or-set_same, get_or-set_other}
use Rattle.words.specs.Lists.{mem}
use Rattle.model.specs.Picture.{Inst, inst, absent, writes}
use Rattle.inst.specs.Record.{Within, write_at, present, rest_writes}
use Rattle.inst.proofs.Rest.{writes_next, writes_all}
use Rattle.inst.proofs.Looked.{mem_hit, mem_miss}
use Rattle.inst.specs.Written.{put_in, settle, Written}

none_there : (r : ℕ) (ys : List ℕ) → mem r (present absent ++ ys) ≡ mem r ys
unfolding present
none_there r ys = refl

pub put_size : (f : ℕ → ℕ) (w : ℕ) (xs : List ℕ) → length (put_in f w xs) ≡ length xs
unfolding put_in
put_size f w xs = go (eqb w absent)
  where
    go : (b : Bool) → length (cond b xs (set xs w (f (get_or xs w 0)))) ≡ length xs
    go true = refl
    go false = length-set xs w (f (get_or xs w 0))

-- f at the register whose number is w, or at none
pub put_at : (f : ℕ → ℕ) (xs : List ℕ) {w n k v : ℕ} → w ≡ n → n < absent → k ≡ n → v ≡ f (get_or xs k 0) → set xs k v ≡ put_in f w xs
unfolding put_in
put_at f xs {w} {n} {k} {v} ew low ek ev =
    ap (set xs k) ev ∙ ap (λ (x : ℕ). set xs x (f (get_or xs x 0))) (ek ∙ sym ew)
    ∙ sym (ap (λ (b : Bool). cond b xs (set xs w (f (get_or xs w 0)))) (ne_eqb w absent (λ e. omega (arith, ew, e, low))))

pub put_none : (f : ℕ → ℕ) (xs : List ℕ) {w : ℕ} → w ≡ absent → xs ≡ put_in f w xs
unfolding put_in
put_none f xs {w} e = sym (ap (λ (b : Bool). cond b xs (set xs w (f (get_or xs w 0)))) (eq-eqb w absent e))

pub settle_yes : (f : ℕ → ℕ) (v : ℕ) {b : Bool} → b ≡ true → settle f b v ≡ f v
unfolding settle
settle_yes f v e = ap (λ (b : Bool). cond b (f v) v) e

-- slots s, s + 1, .. are left
pub record Writing (f : ℕ → ℕ) (recs : List ℕ) (g s : ℕ) (before now : List ℕ) : Type 0 where
  pub upto : s ≤ 5
  pub size : length now ≡ length before
  pub each : (r : ℕ) → r < length before → settle f (mem r (rest_writes (inst recs g) s)) (get_or now r 0) ≡ settle f (mem r (writes (inst recs g))) (get_or before r 0)

pub writing_none : (f : ℕ → ℕ) (recs : List ℕ) (g : ℕ) (xs : List ℕ) → Writing f recs g 0 xs xs
writing_none f recs g xs = record { upto = omega arith; size = refl; each = λ r h. ap (λ (l : List ℕ). settle f (mem r l) (get_or xs r 0)) (writes_all (inst recs g)) }

-- a second write of the same leaves it as it is
module _ (f : ℕ → ℕ) (twice : (v : ℕ) → f (f v) ≡ f v) where
  settle_twice : (v : ℕ) (b : Bool) → settle f b (f v) ≡ f v
  unfolding settle
  settle_twice v true = twice v
  settle_twice v false = refl

  -- w is written first, then what is left
  module _ {ws : List ℕ} (left : List ℕ) {w : ℕ} (split : ws ≡ present w ++ left) (low : (w ≡ absent → ⊥) → w < absent) (ys : List ℕ) where
    at : (r : ℕ) → r < length ys → (b : Bool) → eqb w absent ≡ b → Dec (w ≡ r) → settle f (mem r left) (get_or (cond b ys (set ys w (f (get_or ys w 0)))) r 0) ≡ settle f (mem r ws) (get_or ys r 0)
    at r h true e d =
        sym (ap (λ (l : List ℕ). settle f (mem r l) (get_or ys r 0)) split
        ∙ ap (λ (l : Bool). settle f l (get_or ys r 0)) (ap (λ (x : ℕ). mem r (present x ++ left)) (eqb-true w absent e) ∙ none_there r left))
    at r h false e (no k) =
        ap (λ (x : ℕ). settle f (mem r left) x) (get_or-set_other ys w r (f (get_or ys w 0)) 0 (λ q. k (sym q)))
        ∙ sym (ap (λ (l : List ℕ). settle f (mem r l) (get_or ys r 0)) split ∙ ap (λ (l : Bool). settle f l (get_or ys r 0)) (mem_miss r left k))
    at r h false e (yes q) =
        let z : r < absent = subst (λ (k : ℕ). k < absent) q (low (eqb-false w absent e)) in
        ap (λ (x : ℕ). settle f (mem r left) (get_or (set ys x (f (get_or ys x 0))) r 0)) q
        ∙ ap (λ (x : ℕ). settle f (mem r left) x) (get_or-set_same ys r (f (get_or ys r 0)) 0 h)
        ∙ settle_twice (get_or ys r 0) (mem r left)
        ∙ sym (settle_yes f (get_or ys r 0) (ap (mem r) split ∙ mem_hit r left q z))

    settled : (r : ℕ) → r < length ys → settle f (mem r left) (get_or (put_in f w ys) r 0) ≡ settle f (mem r ws) (get_or ys r 0)
    unfolding put_in
    settled r h = at r h (eqb w absent) refl (ℕ_discrete w r)

  pub writing_more : (recs : List ℕ) (g s : ℕ) (xs ys : List ℕ) → s < 5 → Within recs g → length xs ≤ absent → ((write_at (inst recs g) s ≡ absent → ⊥) → write_at (inst recs g) s < length xs) → Writing f recs g s xs ys
      → (w : ℕ) → w ≡ write_at (inst recs g) s → {zs : List ℕ} → zs ≡ put_in f w ys → Writing f recs g (s + 1) xs zs
  writing_more recs g s xs ys lt within few by_index n w ew {zs} e = record {
    upto = omega arith;
    size = ap length e ∙ put_size f w ys ∙ n.size;
    each = λ r h.
        ap (λ (l : List ℕ). settle f (mem r (rest_writes (inst recs g) (s + 1))) (get_or l r 0)) e
        ∙ settled (rest_writes (inst recs g) (s + 1)) (writes_next recs g within s lt ew) low ys r (rw n.size h) ∙ n.each r h;
  }
    where
      low : (w ≡ absent → ⊥) → w < absent
      low k = let h = by_index (λ z. k (ew ∙ z)) in omega (arith, few, ew, h)

  -- w is all that is written
  pub writing_one : (i : Inst) (xs : List ℕ) {w : ℕ} → writes i ≡ present w → (w ≡ absent) ⊎ (w < length xs) → length xs ≤ absent → {ys : List ℕ} → ys ≡ put_in f w xs → Written f i xs ys
  unfolding settle
  writing_one i xs {w} only l few {ys} e = record {
    size = ap length e ∙ put_size f w xs;
    each = λ r h. ap (λ (z : List ℕ). get_or z r 0) e ∙ settled [] (only ∙ sym (append-nil (present w))) low xs r h;
  }
    where
      low : (w ≡ absent → ⊥) → w < absent
      low k = ⊎_elim (λ (z : w ≡ absent). absurd (k z)) (λ (z : w < length xs). omega (arith, few)) l

pub writing_end : {f : ℕ → ℕ} {recs : List ℕ} {g s : ℕ} {xs ys : List ℕ} → Writing f recs g s xs ys → rest_writes (inst recs g) s ≡ [] → Written f (inst recs g) xs ys
unfolding settle
writing_end {f} {recs} {g} {s} {xs} {ys} n h = record {
  size = n.size;
  each = λ r k. sym (ap (λ (l : List ℕ). settle f (mem r l) (get_or ys r 0)) h) ∙ n.each r k;
}
