-- 01, "The legal set": the six rules over any set L of positions, as a statement and as tests in order; legal sets; and the
-- greatest one. Assumes nothing.
use Rattle.std.specs.Prelude.{◌≡◌, Bool, true, false, not, ◌&&◌, ◌||◌, List, [], ◌∷◌, map, ℕ, suc, ◌-◌, ◌<◌, eqb, get_or, length, None, Some}
use Rattle.words.specs.Lists.{In, range, upto, any, all, mem, conj, ◌implies◌, iterate, member}
use Rattle.model.specs.Analyse.{Org, Unknown, Ro, Heap, Frame, Temp, Img, movable, Read, Fact, no_fact, alias, is_some, when_some, unless_some}

-- rule 5: p's reads are Ro, Frame, Img or Temp
abbrev pub readable : Org → Bool
readable Unknown = false
readable Ro = true
readable Heap = false
readable Frame = true
readable (Temp k) = true
readable (Img k) = true

-- rule 5: a barrier does not matter to what is read from Ro or Heap
abbrev pub steady : Org → Bool
steady Unknown = false
steady Ro = true
steady Heap = true
steady Frame = false
steady (Temp k) = false
steady (Img k) = false

-- ---- a chain's facts

module _ (run : List Fact) where
  abbrev pub fact_at : ℕ → Fact
  fact_at p = get_or run p no_fact

  -- the positions after p
  abbrev pub after : ℕ → List ℕ
  after p = range (suc p) (length run - suc p)

  -- q reads p's value
  abbrev pub reads_from : ℕ → ℕ → Bool
  reads_from q p = any (λ u. when_some (eqb p) u.writer) (fact_at q).uses

  -- no position after p writes r
  abbrev pub writes_last : ℕ → ℕ → Bool
  writes_last p r = all (λ q. not (mem r (fact_at q).defs)) (after p)

-- ---- the rules, over a chain's facts; the registers needed elsewhere, that is, live into the other branch, or live out of the
-- target and not written there; and a set L of positions

module _ (run : List Fact) (needed : ℕ → Bool) (L : ℕ → Bool) where
  -- q is a kept position after p ("kept" being outside L in the whole chain)
  pub record Kept (p q : ℕ) : Type 0 where
    pub later : p < q
    pub inside : q < length run
    pub outside : L q ≡ false

  -- what the paper asks of a member p
  pub record Legal (p : ℕ) : Type 0 where
    -- 1. whoever reads p's value in the chain is in L
    pub readers : (q : ℕ) → q < length run → reads_from run q p ≡ true → L q ≡ true
    -- 2. a register p writes last in the chain is not needed elsewhere
    pub results : (r : ℕ) → In r (fact_at run p).defs → writes_last run p r ≡ true → needed r ≡ false
    -- 3. a register p reads whose writer is not in L is written by no kept position after p
    pub operands : (u : Read) → In u (fact_at run p).uses → when_some L u.writer ≡ false → (q : ℕ) → Kept p q → mem u.reg (fact_at run q).defs ≡ false
    -- 4. no kept position after p may suspend
    pub suspensions : (q : ℕ) → Kept p q → (fact_at run q).suspends ≡ false
    -- 5. after p no kept barrier if p creates, writes memory, or reads other than Ro or Heap;
    pub barriers : (q : ℕ) → Kept p q → (fact_at run q).does.barrier ≡ true
        → ((fact_at run p).does.creates ≡ false) × ((fact_at run p).does.wrote ≡ None) × ((o : Org) → In o (fact_at run p).does.from → steady o ≡ true)
    --    no kept write that may alias p's reads;
    pub aliases : (q : ℕ) → Kept p q → (w o : Org) → (fact_at run q).does.wrote ≡ Some w → In o (fact_at run p).does.from → alias w o ≡ false
    --    p's reads are Ro, Frame, Img or Temp
    pub origins : (o : Org) → In o (fact_at run p).does.from → readable o ≡ true
    -- 6. memory p writes is Temp of a member
    pub memory : (w : Org) → (fact_at run p).does.wrote ≡ Some w → (k : ℕ) × (w ≡ Temp k) × (L k ≡ true)

  -- ---- the same as tests

  -- each kept position after p passes
  abbrev pub kept : ℕ → (ℕ → Bool) → Bool
  kept p f = all (λ q. L q || f q) (after run p)

  abbrev pub rule1 : ℕ → ℕ → Bool
  rule1 p q = reads_from run q p implies L q

  abbrev pub rule2 : ℕ → ℕ → Bool
  rule2 p r = needed r implies not (writes_last run p r)

  abbrev pub rule3 : ℕ → ℕ → Bool
  rule3 p q = all (λ u. when_some L u.writer || not (mem u.reg (fact_at run q).defs)) (fact_at run p).uses

  abbrev pub rule4 : ℕ → Bool
  rule4 q = not (fact_at run q).suspends

  -- a kept barrier at q
  abbrev pub rule5_barrier : ℕ → ℕ → Bool
  rule5_barrier p q =
      let e = (fact_at run p).does in
      (fact_at run q).does.barrier implies (not e.creates && not (is_some e.wrote) && all steady e.from)

  -- a kept write at q
  abbrev pub rule5_write : ℕ → ℕ → Bool
  rule5_write p q = unless_some (λ w. all (λ o. not (alias w o)) (fact_at run p).does.from) (fact_at run q).does.wrote

  abbrev pub rule6 : Org → Bool
  rule6 Unknown = false
  rule6 Ro = false
  rule6 Heap = false
  rule6 Frame = false
  rule6 (Temp k) = L k
  rule6 (Img k) = false

  -- the six, in order, so that the lowest that p breaks can be named
  abbrev pub tests : ℕ → List Bool
  tests p =
      all (rule1 p) (upto (length run))
      ∷ all (rule2 p) (fact_at run p).defs
      ∷ kept p (rule3 p)
      ∷ kept p rule4
      ∷ (kept p (rule5_barrier p) && kept p (rule5_write p) && all readable (fact_at run p).does.from)
      ∷ unless_some rule6 (fact_at run p).does.wrote
      ∷ []

  abbrev pub legal : ℕ → Bool
  legal p = conj (tests p)

  -- a legal set: movable positions in x, the first m of the chain, each of which keeps the rules
  pub record LegalSet (m : ℕ) : Type 0 where
    pub in_x : (p : ℕ) → L p ≡ true → p < m
    pub can_move : (p : ℕ) → L p ≡ true → movable (fact_at run p).does.class ≡ true
    pub lawful : (p : ℕ) → L p ≡ true → Legal p

-- ---- the greatest legal set: drop what breaks a rule, until none does

abbrev pub dropped : ((ℕ → Bool) → ℕ → Bool) → ℕ → List Bool → List Bool
dropped ok m S = map (λ p. member S p && ok (member S) p) (upto m)

-- the movable positions among the first m
abbrev pub candidates : ℕ → List Fact → List Bool
candidates m run = map (λ p. movable (get_or run p no_fact).does.class) (upto m)

abbrev pub greatest : List Fact → (ℕ → Bool) → ℕ → List Bool
greatest run needed m = iterate (dropped (legal run needed) m) m (candidates m run)
