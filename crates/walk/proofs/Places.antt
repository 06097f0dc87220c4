-- Each old place stands exactly once after any number of rounds. Old places are counted in each block: a round takes from x what it adds at
-- the target. Whole uses it for `stands` and `once` of demand 3. Assumes nothing.
use mathlib.Core.Path.{◌≡◌, refl, sym, ◌∙◌, ap, ap₂, subst}
use mathlib.Core.Bool.{Bool, true, false, cond}
use mathlib.Core.List.{List, [], ◌∷◌, ◌++◌, map}
use mathlib.Core.Logic.{◌⊎◌, inl, inr, ⊎_elim}
use Prim.Native.Nat.{ℕ, zero, suc, ◌+◌, ◌≤◌, ◌<◌}
use native.Mathlib.Omega.{arith}
use lib.Dec.{eqb, T, eqb→eq}
use lib.ListN.{length, get_or}
use Rattle.words.specs.Lists.{In}
use Rattle.words.proofs.Bools.{eq?}
use Rattle.words.proofs.Members.{in_mid}
use Rattle.walk.specs.Machine.{Instr, with_registers, Prog, no_instr, instr_at}
use Rattle.walk.specs.Demand.{OwnPlaces}
use Rattle.walk.proofs.Facts.{eq→eqb, cond_yes}
use Rattle.walk.proofs.Scan.{Marked, kept, moved, Locations, after_writes, after_moved, scan, after_chain, live_in_place, renamed, all_of, kept_of, rename_moved, moved_of, rename_own, ScanRound, ScanRounds, begin, round}
use Rattle.walk.proofs.Claim.{OldPlacesUnique}

-- 1 if the instruction's old place is index i of block b, else 0
pub hit : ℕ → ℕ → Instr → ℕ
hit b i j = cond (eqb j.old_block b) (cond (eqb j.old_index i) 1 0) 0

-- how often that old place stands in the code
abbrev count_old : ℕ → ℕ → List Instr → ℕ
count_old b i [] = 0
count_old b i (j ∷ c) = hit b i j + count_old b i c

hit_old : (b i : ℕ) (j k : Instr) → j.old_block ≡ k.old_block → j.old_index ≡ k.old_index → hit b i j ≡ hit b i k
unfolding hit
hit_old b i j k p q = ap₂ (λ x y. cond (eqb x b) (cond (eqb y i) 1 0) 0) p q

hit_yes : (b i : ℕ) (j : Instr) → j.old_block ≡ b → j.old_index ≡ i → hit b i j ≡ 1
unfolding hit
hit_yes b i j p q = cond_yes {A = ℕ} (eqb j.old_block b) (cond (eqb j.old_index i) 1 0) 0 (eq→eqb j.old_block b p) ∙ cond_yes {A = ℕ} (eqb j.old_index i) 1 0 (eq→eqb j.old_index i q)

hit_cases : (b i : ℕ) (j : Instr) → ((j.old_block ≡ b) × (j.old_index ≡ i) × (hit b i j ≡ 1)) ⊎ (hit b i j ≡ 0)
unfolding hit
hit_cases b i j = go (eqb j.old_block b) (eqb j.old_index i) (eqb→eq j.old_block b) (eqb→eq j.old_index i)
  where
    go : (x y : Bool) → (T x → j.old_block ≡ b) → (T y → j.old_index ≡ i) → ((j.old_block ≡ b) × (j.old_index ≡ i) × (◌≡◌ {A = ℕ} (cond x (cond y 1 0) 0) 1)) ⊎ (◌≡◌ {A = ℕ} (cond x (cond y 1 0) 0) 0)
    go true true a c = inl (a tt, c tt, refl)
    go true false a c = inr refl
    go false y a c = inr refl

-- ---- counts over the pieces of a round

count_append : (b i : ℕ) (c d : List Instr) → count_old b i (c ++ d) ≡ count_old b i c + count_old b i d
count_append b i [] d = omega arith
count_append b i (j ∷ c) d = let r = count_append b i c d in omega arith

count_split : (b i : ℕ) (X : List Marked) (a : Locations) → count_old b i (all_of X) ≡ count_old b i (kept_of X) + count_old b i (moved_of a X)
count_split b i [] a = refl
count_split b i (kept j ∷ X) a = let r = count_split b i X (after_writes a j.writes) in omega arith
count_split b i (moved f j ∷ X) a =
    let r = count_split b i X (after_moved a f j.writes) in
    let h = hit_old b i (rename_moved a f j) j refl refl in
    omega arith

count_own : (b i : ℕ) (c : List Instr) (a : Locations) → count_old b i (rename_own a c) ≡ count_old b i c
count_own b i [] a = refl
count_own b i (j ∷ c) a =
    let r = count_own b i c (after_writes a j.writes) in
    let h = hit_old b i (with_registers (map (renamed a) j.reads) j.writes j) j refl refl in
    omega arith

-- at most once in a block, and in one block only
pub record Once (P : Prog) : Type 0 where
  pub most : (o i b : ℕ) → count_old o i (P b) ≤ 1
  pub one : (o i b c : ℕ) → 0 < count_old o i (P b) → 0 < count_old o i (P c) → b ≡ c

module _ (R : ℕ) (succ : ℕ → List ℕ) (live : ℕ → ℕ → Bool) (P P' : Prog) (x t : ℕ) (chain : List ℕ) (X : List Marked) (rnd : ScanRound R succ live P P' x t chain X) where
  -- how often it is among the moved
  count_moved : ℕ → ℕ → ℕ
  count_moved o i = count_old o i (moved_of (live_in_place (live x)) X)

  count_x : (o i : ℕ) → count_old o i (P x) ≡ count_old o i (P' x) + count_moved o i
  unfolding count_moved
  count_x o i = ap (count_old o i) rnd.code_x ∙ count_split o i X (live_in_place (live x)) ∙ ap (λ z. count_old o i z + count_old o i (moved_of (live_in_place (live x)) X)) (sym rnd.new_x)

  count_t : (o i : ℕ) → count_old o i (P' t) ≡ count_moved o i + count_old o i (P t)
  unfolding count_moved
  count_t o i = ap (count_old o i) rnd.new_t ∙ count_append o i (moved_of (live_in_place (live x)) X) (rename_own (after_chain P (scan (live_in_place (live x)) X) chain) (P t))
      ∙ ap (λ z. count_old o i (moved_of (live_in_place (live x)) X) + z) (count_own o i (P t) (after_chain P (scan (live_in_place (live x)) X) chain))

  x≢t : x ≡ t → ⊥
  x≢t e = rnd.x_alone (subst (λ z. In z (chain ++ t ∷ [])) (sym e) (in_mid chain t []))

  -- an old place that stands in b after stood there before, or was moved to the target
  whence : (o i b : ℕ) → 0 < count_old o i (P' b) → ((0 < count_old o i (P b)) × (b ≡ x → 0 < count_old o i (P' x))) ⊎ ((b ≡ t) × (0 < count_moved o i))
  whence o i b h = ⊎_elim
      (λ e. let k = subst (λ z. 0 < count_old o i (P' z)) e h in
      let q = count_x o i in
      inl (subst (λ z. 0 < count_old o i (P z)) (sym e) (omega arith), λ z. k))
      (λ nx. ⊎_elim
      (λ e. let k = subst (λ z. 0 < count_old o i (P' z)) e h in
      let q = count_t o i in
      split e nx (count_old o i (P t)) refl)
      (λ nt. inl (subst (λ z. 0 < count_old o i z) (rnd.new_other b nx nt) h, λ z. absurd (nx z)))
      (eq? b t))
      (eq? b x)
    where
      split : b ≡ t → (b ≡ x → ⊥) → (v : ℕ) → count_old o i (P t) ≡ v → ((0 < count_old o i (P b)) × (b ≡ x → 0 < count_old o i (P' x))) ⊎ ((b ≡ t) × (0 < count_moved o i))
      split e nx zero q = let k = subst (λ z. 0 < count_old o i (P' z)) e h in let r = count_t o i in inr (e, omega arith)
      split e nx (suc v) q = inl (subst (λ z. 0 < count_old o i (P z)) (sym e) (omega arith), λ z. absurd (nx z))

  once_round : Once P → Once P'
  once_round on = record { most = most; one = one }
    where
      clash : (o i b : ℕ) → 0 < count_old o i (P b) → (b ≡ x → 0 < count_old o i (P' x)) → 0 < count_moved o i → ⊥
      clash o i b h k s =
          let q = count_x o i in
          let e = on.one o i b x h (omega arith) in
          let z = k e in
          let m = on.most o i x in
          omega arith

      most : (o i b : ℕ) → count_old o i (P' b) ≤ 1
      most o i b = ⊎_elim
          (λ e. subst (λ z. count_old o i (P' z) ≤ 1) (sym e) (let q = count_x o i in let m = on.most o i x in omega arith))
          (λ nx. ⊎_elim
          (λ e. subst (λ z. count_old o i (P' z) ≤ 1) (sym e) (tcase (count_old o i (P t)) refl))
          (λ nt. subst (λ z. count_old o i z ≤ 1) (sym (rnd.new_other b nx nt)) (on.most o i b))
          (eq? b t))
          (eq? b x)
        where
          tcase : (v : ℕ) → count_old o i (P t) ≡ v → count_old o i (P' t) ≤ 1
          tcase zero q = let r = count_t o i in let s = count_x o i in let m = on.most o i x in omega arith
          tcase (suc v) q = let r = count_t o i in let m = on.most o i t in
              let z : count_moved o i ≤ 0 = low (count_moved o i) refl in omega arith
            where
              low : (s : ℕ) → count_moved o i ≡ s → count_moved o i ≤ 0
              low zero g = omega arith
              low (suc s) g = absurd (clash o i t (omega arith) (λ e. absurd (x≢t (sym e))) (omega arith))

      one : (o i b c : ℕ) → 0 < count_old o i (P' b) → 0 < count_old o i (P' c) → b ≡ c
      one o i b c h k = ⊎_elim
          (λ p. ⊎_elim (λ q. on.one o i b c p.0 q.0) (λ q. absurd (clash o i b p.0 p.1 q.1)) (whence o i c k))
          (λ p. ⊎_elim (λ q. absurd (clash o i c q.0 q.1 p.1)) (λ q. p.0 ∙ sym q.0) (whence o i c k))
          (whence o i b h)

  -- what stood before stands after
  still : (o i b : ℕ) → 0 < count_old o i (P b) → (c : ℕ) × (0 < count_old o i (P' c))
  still o i b h = ⊎_elim
      (λ e. xcase (subst (λ z. 0 < count_old o i (P z)) e h) (count_old o i (P' x)) refl)
      (λ nx. ⊎_elim
      (λ e. let k = subst (λ z. 0 < count_old o i (P z)) e h in let q = count_t o i in (t, omega arith))
      (λ nt. (b, subst (λ z. 0 < count_old o i z) (sym (rnd.new_other b nx nt)) h))
      (eq? b t))
      (eq? b x)
    where
      xcase : 0 < count_old o i (P x) → (v : ℕ) → count_old o i (P' x) ≡ v → (c : ℕ) × (0 < count_old o i (P' c))
      xcase k zero q = let r = count_x o i in let s = count_t o i in (t, omega arith)
      xcase k (suc v) q = (x, omega arith)

-- ---- before all rounds each place is its own old place
from_above : (o i k : ℕ) (c : List Instr) → ((j : ℕ) → j < length c → (get_or c j no_instr).old_index ≡ k + j) → i < k → count_old o i c ≡ 0
from_above o i k [] h l = refl
from_above o i k (y ∷ c) h l =
    let r = from_above o i (suc k) c (λ j q. let z = h (suc j) (omega arith) in omega arith) (omega arith) in
    ⊎_elim (λ g. let z = h 0 (omega arith) in let v = g.1 in omega arith) (λ g. omega arith) (hit_cases o i y)

from_most : (o i k : ℕ) (c : List Instr) → ((j : ℕ) → j < length c → (get_or c j no_instr).old_index ≡ k + j) → count_old o i c ≤ 1
from_most o i k [] h = omega arith
from_most o i k (y ∷ c) h =
    ⊎_elim
    (λ g. let z = h 0 (omega arith) in let v = g.1 in let u = g.2 in
    let r = from_above o i (suc k) c (λ j q. let y = h (suc j) (omega arith) in omega arith) (omega arith) in omega arith)
    (λ g. let r = from_most o i (suc k) c (λ j q. let y = h (suc j) (omega arith) in omega arith) in omega arith)
    (hit_cases o i y)

find : (o i : ℕ) (c : List Instr) → 0 < count_old o i c → (j : ℕ) × (j < length c) × ((get_or c j no_instr).old_block ≡ o) × ((get_or c j no_instr).old_index ≡ i)
find o i [] h = absurd (omega arith)
find o i (y ∷ c) h = ⊎_elim
    (λ g. (0, omega arith, g.0, g.1))
    (λ g. let r = find o i c (omega arith) in (suc r.0, (let z = r.1 in omega arith), r.2, r.3))
    (hit_cases o i y)

pub once_ident : (P : Prog) → OwnPlaces P → Once P
once_ident P id = record {
  most = λ o i b. from_most o i 0 (P b) (λ j q. let z = id b j q in let v = z.1 in omega arith);
  one = λ o i b c h k.
      let f = find o i (P b) h in
      let g = find o i (P c) k in
      sym (id b f.0 f.1).0 ∙ f.2 ∙ sym g.2 ∙ (id c g.0 g.1).0;
}

-- ---- from counts to places

positive : (c : List Instr) (j : ℕ) → j < length c → 0 < count_old (get_or c j no_instr).old_block (get_or c j no_instr).old_index c
positive [] j h = omega arith
positive (y ∷ c) zero h = let z = hit_yes y.old_block y.old_index y refl refl in omega arith
positive (y ∷ c) (suc j) h = let z = positive c j (omega arith) in omega arith

same_index : (o i : ℕ) (c : List Instr) → count_old o i c ≤ 1 → (j k : ℕ) → j < length c → k < length c
    → (get_or c j no_instr).old_block ≡ o → (get_or c j no_instr).old_index ≡ i → (get_or c k no_instr).old_block ≡ o → (get_or c k no_instr).old_index ≡ i → j ≡ k
same_index o i [] m j k hj hk p q r s = absurd (omega arith)
same_index o i (y ∷ c) m zero zero hj hk p q r s = refl
same_index o i (y ∷ c) m zero (suc k) hj hk p q r s =
    let a = hit_yes o i y p q in
    let b = positive c k (omega arith) in
    let e : count_old (get_or c k no_instr).old_block (get_or c k no_instr).old_index c ≡ count_old o i c = ap₂ (λ u v. count_old u v c) r s in
    omega arith
same_index o i (y ∷ c) m (suc j) zero hj hk p q r s =
    let a = hit_yes o i y r s in
    let b = positive c j (omega arith) in
    let e : count_old (get_or c j no_instr).old_block (get_or c j no_instr).old_index c ≡ count_old o i c = ap₂ (λ u v. count_old u v c) p q in
    omega arith
same_index o i (y ∷ c) m (suc j) (suc k) hj hk p q r s = ap suc (same_index o i c (omega arith) j k (omega arith) (omega arith) p q r s)

pub once_unique : (Q : Prog) → Once Q → OldPlacesUnique Q
once_unique Q on b j c k hj hk p q =
    let o = (instr_at Q b j).old_block in
    let i = (instr_at Q b j).old_index in
    let u = positive (Q b) j hj in
    let v = subst (λ z. 0 < count_old z (instr_at Q c k).old_index (Q c)) (sym p) (positive (Q c) k hk) in
    let v' = subst (λ z. 0 < count_old (instr_at Q b j).old_block z (Q c)) (sym q) v in
    let e = on.one (instr_at Q b j).old_block (instr_at Q b j).old_index b c u v' in (
      e,
      same_index (instr_at Q b j).old_block (instr_at Q b j).old_index (Q b) (on.most (instr_at Q b j).old_block (instr_at Q b j).old_index b) j k hj (subst (λ z. k < length (Q z)) (sym e) hk)
          refl refl (subst (λ z. (instr_at Q z k).old_block ≡ (instr_at Q b j).old_block) (sym e) (sym p)) (subst (λ z. (instr_at Q z k).old_index ≡ (instr_at Q b j).old_index) (sym e) (sym q)),
    )

-- ---- any number of rounds

pub rounds_once : (succ : ℕ → List ℕ) (P Q : Prog) → ScanRounds succ P Q → Once P → Once Q
rounds_once succ P Q begin on = on
rounds_once succ P Q (round {Q = M} R live x t chain X rs rnd li) on = once_round R succ live M Q x t chain X rnd (rounds_once succ P M rs on)

rounds_still : (succ : ℕ → List ℕ) (P Q : Prog) → ScanRounds succ P Q → (o i b : ℕ) → 0 < count_old o i (P b) → (c : ℕ) × (0 < count_old o i (Q c))
rounds_still succ P Q begin o i b h = (b, h)
rounds_still succ P Q (round {Q = M} R live x t chain X rs rnd li) o i b h =
    let r = rounds_still succ P M rs o i b h in
    still R succ live M Q x t chain X rnd o i r.0 r.1

-- each place before belongs to exactly one place after
pub places : (succ : ℕ → List ℕ) (P Q : Prog) → ScanRounds succ P Q → OwnPlaces P → (b i : ℕ) → i < length (P b)
    → (c : ℕ) × (j : ℕ) × (j < length (Q c)) × ((instr_at Q c j).old_block ≡ b) × ((instr_at Q c j).old_index ≡ i)
places succ P Q rs id b i h =
    let u = id b i h in
    let p = subst (λ z. 0 < count_old z (instr_at P b i).old_index (P b)) u.0 (positive (P b) i h) in
    let p' = subst (λ z. 0 < count_old b z (P b)) u.1 p in
    let r = rounds_still succ P Q rs b i b p' in
    let f = find b i (Q r.0) r.1 in
    (r.0, f.0, f.1, f.2, f.3)
