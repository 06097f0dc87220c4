-- 01, "The legal set", as the passes test it: the six rules for a member p over a chain of n positions. L₀ is the set that the
-- summary was made of, L the set now. Assumes nothing.
use Rattle.std.specs.Prelude.{Bool, false, not, ◌&&◌, ◌||◌, cond, List, [], ◌∷◌, ℕ, zero, suc, ◌+◌, ◌-◌, ◌/◌, ◌%◌, eqb, leb, ltb}
use Rattle.words.specs.Lists.{all, mem, conj}
use Rattle.words.specs.Last.{last_below}
use Rattle.legalset.specs.Chain.{View, writer}

-- the last kept position that passes, and 1
unfoldable pub last_kept : (ℕ → Bool) → (ℕ → Bool) → ℕ → ℕ
last_kept L f n = last_below (λ q. not (L q) && f q) n

-- the position before d, if there is one, is in L
unfoldable pub when_in : (ℕ → Bool) → ℕ → Bool
when_in L zero = false
when_in L (suc d) = L d

-- rule 6 by the number of the memory written: none, or Temp of a member
unfoldable pub own_memory : (ℕ → Bool) → ℕ → Bool
own_memory L o = eqb o 0 || (leb 5 o && eqb (o % 2) 1 && L ((o - 5) / 2))

-- ---- by numbers: what the summary says

-- rule 3 for a register: its writer is in the set, or it is written by no kept position after p
unfoldable pub read_fine : (ℕ → Bool) → ℕ → ℕ → ℕ → Bool
read_fine L p d k = when_in L d || leb k (p + 1)

-- rule 5 for an origin: readable; no kept barrier after p unless it is Ro; no kept write of memory nobody can place, and none of its own
unfoldable pub org_fine : ℕ → ℕ → ℕ → ℕ → ℕ → Bool
org_fine p bar any own o = conj ((eqb o 1 || leb 3 o) ∷ (leb bar (p + 1) || eqb o 1) ∷ leb any (p + 1) ∷ (leb o 2 || leb own (p + 1)) ∷ [])

-- rule 5 for what p creates or writes: then no kept barrier after p
unfoldable pub still_fine : ℕ → ℕ → Bool → ℕ → Bool
still_fine p bar creates wrote = leb bar (p + 1) || (not creates && eqb wrote 0)

-- ---- rule 1, over what the positions write and read

module _ (defs reads : ℕ → List ℕ) where
  -- r is read by a kept position among the k from q on, with no write in between
  unfoldable pub pending : (ℕ → Bool) → ℕ → ℕ → ℕ → Bool
  pending L r q zero = false
  pending L r q (suc k) = (not (L q) && mem r (reads q)) || (not (mem r (defs q)) && pending L r (suc q) k)

  unfoldable pub backward_ok : ℕ → (ℕ → Bool) → ℕ → Bool
  backward_ok n L p = all (λ r. not (pending L r (p + 1) (n - (p + 1)))) (defs p)

module _ (C : View) (n : ℕ) where
  -- rule 3
  unfoldable pub reads_ok : (ℕ → Bool) → (ℕ → Bool) → ℕ → Bool
  reads_ok L₀ L p = all (λ r. read_fine L p (writer C.defs r p) (last_kept L₀ (λ q. mem r (C.defs q)) n)) (C.reads p)

  -- rule 5 for what p reads
  unfoldable pub origins_ok : (ℕ → Bool) → ℕ → Bool
  origins_ok L₀ p =
      all (λ o. org_fine p (last_kept L₀ C.barrier n) (last_kept L₀ (λ q. eqb (C.wrote q) 1) n) (last_kept L₀ (λ q. eqb (C.wrote q) (o + 1)) n) o) (C.from p)

  -- rule 4
  unfoldable pub suspends_ok : (ℕ → Bool) → ℕ → Bool
  suspends_ok L₀ p = leb (last_kept L₀ C.suspends n) (p + 1)

  -- rule 5
  unfoldable pub memory_ok : (ℕ → Bool) → ℕ → Bool
  memory_ok L₀ p = still_fine p (last_kept L₀ C.barrier n) (C.creates p) (C.wrote p) && origins_ok L₀ p

  -- rule 6
  unfoldable pub own_ok : (ℕ → Bool) → ℕ → Bool
  own_ok L p = own_memory L (C.wrote p)

  -- rules 3 to 6
  unfoldable pub forward_ok : (ℕ → Bool) → (ℕ → Bool) → ℕ → Bool
  forward_ok L₀ L p = conj (reads_ok L₀ L p ∷ suspends_ok L₀ p ∷ memory_ok L₀ p ∷ own_ok L p ∷ [])

  -- ---- rule 2: a register that p writes last in the chain is not needed
  unfoldable pub result_ok : (ℕ → Bool) → ℕ → Bool
  result_ok needed p = all (λ r. not (needed r && eqb (writer C.defs r n) (p + 1))) (C.defs p)

  -- rules 1 and 3 to 6, which ask of the set
  unfoldable pub cycle_ok : (ℕ → Bool) → ℕ → Bool
  cycle_ok L p = forward_ok L L p && backward_ok C.defs C.reads n L p

  -- what a pass tests: forward rules 3 to 6, backward rule 1
  unfoldable pub pass_ok : Bool → (ℕ → Bool) → ℕ → Bool
  pass_ok ahead L p = cond ahead (forward_ok L L p) (backward_ok C.defs C.reads n L p)

  -- the positions to begin with: movable, among the first m, and by rule 2
  unfoldable pub begins : (ℕ → Bool) → ℕ → (ℕ → Bool) → ℕ → Bool
  begins mv m needed p = ltb p m && mv p && result_ok needed p
