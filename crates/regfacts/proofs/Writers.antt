-- The only writer of a register, as a number: it stands for the list of writers. Assumes nothing.
use mathlib.Core.Bool.{Bool, true, false, cond}
use mathlib.Core.List.{List, [], ◌∷◌, map}
use mathlib.Core.Logic.{◌⊎◌, inl, inr}
use mathlib.Core.Path.{◌≡◌, refl, sym, ap, ◌∙◌, subst}
use Prim.Native.Nat.{ℕ, zero, suc, ◌+◌, ◌≤◌, ◌<◌}
use native.Mathlib.Numerals.{add-one}
use native.Mathlib.Omega.{arith}
use borrow.Author.Tests.{ne_eqb}
use lib.Dec.{eqb}
use lib.ListN.{get_or, length, replicate}
use Rattle.std.proofs.lemmas.List.{get_or-replicate, length-replicate}
use Rattle.words.specs.Lists.{mem, filter, range, upto}
use Rattle.model.specs.Picture.{Inst, inst, writes}
use Rattle.model.specs.Analyse.{unknown, known, from_writers}
use Rattle.defuse.specs.Writers.{many, noted, notes}
use Rattle.defuse.proofs.Noted.{note_at, length_notes}
use Rattle.regfacts.specs.Flags.{sole_of, known_from}

-- the number stands for the list of writers among the records from p up to n
data Stands (recs : List ℕ) (p n : ℕ) : ℕ → List Inst → Type 0 where
  nobody : Stands recs p n 0 []
  single : (q : ℕ) → p ≤ q → q < n → Stands recs p n (suc q) (inst recs q ∷ [])
  several : (i j : Inst) (is : List Inst) → Stands recs p n many (i ∷ j ∷ is)

-- ---- one record in front of the others

module _ (recs : List ℕ) (p n : ℕ) (few : n ≤ 32768) (h : p < n) where
  again : (q : ℕ) → p < q → cond (eqb (suc q) 0) (p + 1) (cond (eqb (suc q) (p + 1)) (suc q) many) ≡ many
  again q k = simp (ne_eqb (suc q) 0 (λ e. omega arith), ne_eqb (suc q) (p + 1) (λ e. omega arith))

  stands_more : (b : Bool) (v : ℕ) (l : List Inst) → Stands recs (suc p) n v l → Stands recs p n (cond b (noted p v) v) (cond b (inst recs p ∷ l) l)
  unfolding noted
  stands_more true v l nobody = subst (λ (x : ℕ). Stands recs p n x (inst recs p ∷ [])) (sym (add-one p)) (single p (omega arith) h)
  stands_more true v l (single q a b) = subst (λ (x : ℕ). Stands recs p n x (inst recs p ∷ inst recs q ∷ [])) (sym (again q a)) (several (inst recs p) (inst recs q) [])
  stands_more true v l (several i j is) =
      subst (λ (b : Bool). Stands recs p n (cond b many many) (inst recs p ∷ i ∷ j ∷ is)) (sym (ne_eqb many (p + 1) (λ e. omega arith))) (several (inst recs p) i (j ∷ is))
  stands_more false v l nobody = nobody
  stands_more false v l (single q a b) = single q (omega arith) b
  stands_more false v l (several i j is) = several i j is

-- ---- all of them

decodes : (recs : List ℕ) (p n v : ℕ) (l : List Inst) → n ≤ 32768 → Stands recs p n v l → sole_of recs v ≡ from_writers l
unfolding sole_of
decodes recs p n v l few nobody = refl
decodes recs p n v l few (single q a b) = ap (λ (b : Bool). cond b unknown (known (inst recs q))) (ne_eqb (suc q) many (λ e. omega arith))
decodes recs p n v l few (several i j is) = refl

small_by : (recs : List ℕ) (p n v : ℕ) (l : List Inst) → Stands recs p n v l → (v ≡ many) ⊎ (v ≤ n)
small_by recs p n v l nobody = inr (omega arith)
small_by recs p n v l (single q a b) = inr b
small_by recs p n v l (several i j is) = inl refl

module _ (recs : List ℕ) (n K r : ℕ) (few : n ≤ 32768) (h : r < K) where
  abbrev word : ℕ → ℕ → ℕ
  word p m = get_or (notes recs (replicate K 0) (range p m)) r 0

  abbrev writers : ℕ → ℕ → List Inst
  writers p m = filter (λ i. mem r (writes i)) (map (inst recs) (range p m))

  stands : (p m : ℕ) → p + m ≡ n → Stands recs p n (word p m) (writers p m)
  unfolding notes
  stands p zero e = subst (λ (v : ℕ). Stands recs p n v []) (sym (get_or-replicate K r 0 0 h)) nobody
  stands p (suc m) e =
      let ws = notes recs (replicate K 0) (range (suc p) m) in
      let long : length ws ≡ K = length_notes recs (replicate K 0) (range (suc p) m) ∙ length-replicate K 0 in
      subst (λ (v : ℕ). Stands recs p n v (writers p (suc m)))
      (sym (note_at p r (omega arith) (writes (inst recs p)) ws (omega arith)))
      (stands_more recs p n few (omega arith) (mem r (writes (inst recs p))) (word (suc p) m) (writers (suc p) m) (stands (suc p) m (omega arith)))

-- the words that are noted of n records
module _ (recs : List ℕ) {old : List ℕ} {n : ℕ} (few : n ≤ 32768) (noted_all : old ≡ notes recs (replicate (length old) 0) (upto n)) (r : ℕ) (h : r < length old) where
  stood : Stands recs 0 n (get_or old r 0) (writers recs n (length old) r few h 0 n)
  stood =
      subst (λ (v : ℕ). Stands recs 0 n v (writers recs n (length old) r few h 0 n))
      (sym (ap (λ (l : List ℕ). get_or l r 0) noted_all)) (stands recs n (length old) r few h 0 n (omega arith))

  pub sole_writer : sole_of recs (get_or old r 0) ≡ known_from recs n r
  unfolding known_from
  sole_writer = decodes recs 0 n (get_or old r 0) _ few stood

  pub sole_small : (get_or old r 0 ≡ many) ⊎ (get_or old r 0 ≤ n)
  sole_small = small_by recs 0 n (get_or old r 0) _ stood
