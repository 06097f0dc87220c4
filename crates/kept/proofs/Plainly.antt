-- The plain machine over a picture's flat words is that over its program of the walk. Assumes nothing.
use Rattle.std.specs.Prelude.{Option, None, Some}
use mathlib.Core.Path.{◌≡◌, refl, sym, ap, ◌∙◌, subst}
use mathlib.Core.Bool.{Bool, true, false, not, ◌&&◌, cond}
use mathlib.Core.List.{List, [], ◌∷◌, map}
use Prim.Native.Nat.{ℕ, zero, suc, ◌+◌, ◌-◌, ◌≤◌, ◌<◌}
use native.Mathlib.Nat.{add-zero, add-suc, not-suc-le-zero, le_of_suc-le-suc}
use native.Mathlib.Omega.{arith}
use lib.Dec.{eqb}
use lib.ListN.{get_or, length, take, length-map}
use borrow.Author.Tests.{eq-eqb}
use Rattle.words.specs.Lists.{range, In}
use Rattle.words.proofs.Lists.{get_d_map, get_or-range, length_range, map_map, map_ext}
use Rattle.words.proofs.Members.{in_map}
use Rattle.model.specs.Kinds.{Role, writing}
use Rattle.model.specs.Picture.{Picture, inst, absent, roles, slots, chosen, reads, starts, size, places}
use Rattle.walk.specs.Machine.{Instr, Prog, LastWrite, State, put, store, latest_visit, first_slot, next_slots, run_plain, state_at, takes_from, takes, no_instr, instr_at}
use Rattle.walk.specs.Machine as M
use Rattle.walk.specs.Demand.{block_at}
use Rattle.kept.specs.Walk as W
use Rattle.kept.specs.Walk.{Write, stores, runs, enters, reaches}
use Rattle.kept.proofs.Program.{Spot, placed, prog, slots_at}

-- ---- the latest place

pub latest_same : (w : List ℕ) (n b : ℕ) → get_or w (latest_visit (block_at w) n b) 0 ≡ b → W.latest w n b ≡ Some (latest_visit (block_at w) n b)
unfolding latest_visit
latest_same w zero b e = ap (λ (c : Bool). elim c as (λ z. Option ℕ) [ true ↦ Some 0 | false ↦ None ]) (eq-eqb (get_or w 0 0) b e)
latest_same w (suc n) b e = go (latest_same w n b) (eqb (get_or w (suc n) 0) b) e
  where
    go : (get_or w (latest_visit (block_at w) n b) 0 ≡ b → W.latest w n b ≡ Some (latest_visit (block_at w) n b)) → (c : Bool) → get_or w (cond c (suc n) (latest_visit (block_at w) n b)) 0 ≡ b
        → ◌≡◌ {A = Option ℕ} (elim c as (λ z. Option ℕ) [ true ↦ Some (suc n) | false ↦ W.latest w n b ]) (Some (cond c (suc n) (latest_visit (block_at w) n b)))
    go k true e = refl
    go k false e = k e

-- ---- sources

module _ (P : Picture) (w : List ℕ) where
  abbrev pub as_write : LastWrite → Option Write
  as_write M.none = None
  as_write (M.write n j s) = Some (record { by = record { turn = n; at = starts P (get_or w n 0) + j }; slot = s })

  module _ (n i p : ℕ) (e : starts P (get_or w n 0) + i ≡ p) where
    stores_same : (k : ℕ) (os : List Role) (rs : List ℕ) (s : ℕ → Option Write) (σ : State) → ((x : ℕ) → s x ≡ as_write (σ x))
        → (x : ℕ) → stores (record { turn = n; at = p }) k os rs s x ≡ as_write (store n i (slots_at k os rs) (chosen writing os rs) σ x)
    unfolding put
    stores_same k [] rs s σ h x = h x
    stores_same k (o ∷ os) [] s σ h x = h x
    stores_same k (o ∷ os) (r ∷ rs) s σ h x = go (stores_same (suc k) os rs) (writing o && not (eqb r absent))
      where
        step : (y : ℕ) → (c : Bool) → cond c (Some (record { by = record { turn = n; at = p }; slot = k })) (s y) ≡ as_write (cond c (M.write n i k) (σ y))
        step y true = ap (λ (q : ℕ). Some (record { by = record { turn = n; at = q }; slot = k })) (sym e)
        step y false = h y

        on : (y : ℕ) → cond (eqb y r) (Some (record { by = record { turn = n; at = p }; slot = k })) (s y) ≡ as_write (put σ r (M.write n i k) y)
        on y = step y (eqb y r)

        go : ((s : ℕ → Option Write) (σ : State) → ((x : ℕ) → s x ≡ as_write (σ x)) → (x : ℕ) → stores (record { turn = n; at = p }) (suc k) os rs s x ≡ as_write (store n i (slots_at (suc k) os rs) (chosen writing os rs) σ x))
            → (c : Bool)
            → stores (record { turn = n; at = p }) (suc k) os rs (λ x. cond (c && eqb x r) (Some (record { by = record { turn = n; at = p }; slot = k })) (s x)) x
            ≡ as_write (store n i (cond c (k ∷ slots_at (suc k) os rs) (slots_at (suc k) os rs)) (cond c (r ∷ chosen writing os rs) (chosen writing os rs)) σ x)
        go rec true = rec (λ x. cond (eqb x r) (Some (record { by = record { turn = n; at = p }; slot = k })) (s x)) (put σ r (M.write n i k)) on x
        go rec false = rec s σ h x

  module _ (u : ℕ → Spot) where
    runs_same : (n j k : ℕ) (s : ℕ → Option Write) (σ : State) → ((x : ℕ) → s x ≡ as_write (σ x))
        → (x : ℕ) → runs P n s (range (starts P (get_or w n 0) + j) k) x ≡ as_write (run_plain n j (map (placed u P) (range (starts P (get_or w n 0) + j) k)) σ x)
    runs_same n j zero s σ h x = h x
    runs_same n j (suc k) s σ h x =
        let p = starts P (get_or w n 0) + j in
        let i = inst P.recs p in
        let e : suc p ≡ starts P (get_or w n 0) + suc j = sym (add-suc (starts P (get_or w n 0)) j) in
        ap (λ (q : ℕ). runs P n (stores (record { turn = n; at = p }) 0 (roles i) (slots i) s) (range q k) x) e
        ∙ runs_same n (suc j) k (stores (record { turn = n; at = p }) 0 (roles i) (slots i) s) (store n j (placed u P p).slots (placed u P p).writes σ) (stores_same n j p refl 0 (roles i) (slots i) s σ h) x
        ∙ ap (λ (q : ℕ). as_write (run_plain n (suc j) (map (placed u P) (range q k)) (store n j (placed u P p).slots (placed u P p).writes σ) x)) (sym e)

    from_start : (n k : ℕ) (s : ℕ → Option Write) (σ : State) → ((x : ℕ) → s x ≡ as_write (σ x))
        → (x : ℕ) → runs P n s (range (starts P (get_or w n 0)) k) x ≡ as_write (run_plain n 0 (map (placed u P) (range (starts P (get_or w n 0)) k)) σ x)
    from_start n k s σ h x = subst (λ (q : ℕ). runs P n s (range q k) x ≡ as_write (run_plain n 0 (map (placed u P) (range q k)) σ x)) (add-zero (starts P (get_or w n 0))) (runs_same n 0 k s σ h x)

    pub enters_same : (n : ℕ) (x : ℕ) → enters P w n x ≡ as_write (state_at (prog u P) (block_at w) n x)
    unfolding state_at
    enters_same zero x = refl
    enters_same (suc n) x = from_start n (size P (get_or w n 0)) (enters P w n) (state_at (prog u P) (block_at w) n) (enters_same n) x

    take_range : (s k n : ℕ) → k ≤ n → take k (map (placed u P) (range s n)) ≡ map (placed u P) (range s k)
    take_range s zero n h = refl
    take_range s (suc k) zero h = absurd (not-suc-le-zero h)
    take_range s (suc k) (suc n) h = ap (λ (l : List Instr). placed u P s ∷ l) (take_range (suc s) k n (le_of_suc-le-suc h))

    ptake_at : (n j : ℕ) (c : List Instr) (σ : State) (k : ℕ) → k < length c → takes_from n j c σ k ≡ map (run_plain n j (take k c) σ) (get_or c k no_instr).reads
    ptake_at n j [] σ k h = absurd (not-suc-le-zero h)
    ptake_at n j (i ∷ c) σ zero h = refl
    ptake_at n j (i ∷ c) σ (suc k) h = ptake_at n (suc j) c (store n j i.slots i.writes σ) k (le_of_suc-le-suc h)

    pub index_at : (b j : ℕ) → j < size P b → instr_at (prog u P) b j ≡ placed u P (starts P b + j)
    index_at b j h = get_d_map (placed u P) 0 no_instr (places P b) j (subst (λ (n : ℕ). j < n) (sym (length_range (starts P b) (size P b))) h) ∙ ap (placed u P) (get_or-range (starts P b) (size P b) j h)

    pub block_length : (b : ℕ) → length (prog u P b) ≡ size P b
    block_length b = length-map (places P b) (placed u P) ∙ length_range (starts P b) (size P b)

    -- what a run takes
    pub takes_same : (n j : ℕ) → j < size P (get_or w n 0) → W.takes P w (record { turn = n; at = starts P (get_or w n 0) + j }) ≡ map as_write (takes (prog u P) (block_at w) n j)
    takes_same n j h =
        let b = get_or w n 0 in
        let c = prog u P b in
        map_ext (reaches P w (record { turn = n; at = starts P b + j })) (λ r. as_write (run_plain n 0 (take j c) (state_at (prog u P) (block_at w) n) r))
        (λ r. ap (λ (k : ℕ). runs P n (enters P w n) (range (starts P b) k) r) (back (starts P b) j)
        ∙ from_start n j (enters P w n) (state_at (prog u P) (block_at w) n) (enters_same n) r
        ∙ ap (λ (l : List Instr). as_write (run_plain n 0 l (state_at (prog u P) (block_at w) n) r)) (sym (take_range (starts P b) j (size P b) (omega arith))))
        (reads P.ops (inst P.recs (starts P b + j)))
        ∙ ap (λ (i : Instr). map (λ r. as_write (run_plain n 0 (take j c) (state_at (prog u P) (block_at w) n) r)) i.reads) (sym (index_at b j h))
        ∙ sym (map_map as_write (run_plain n 0 (take j c) (state_at (prog u P) (block_at w) n)) (instr_at (prog u P) b j).reads)
        ∙ ap (map as_write) (sym (ptake_at n 0 c (state_at (prog u P) (block_at w) n) j (subst (λ (k : ℕ). j < k) (sym (block_length b)) h)))
      where
        back : (s j : ℕ) → s + j - s ≡ j
        back s j = omega arith

-- ---- only runs that there are are read

module _ (P : Prog) (w : ℕ → ℕ) (N : ℕ) where
  abbrev pub Valid : LastWrite → Type 0
  Valid M.none = Unit {0}
  Valid (M.write n j s) = (n < N) × (j < length (P (w n)))

  valid_pick : (c : Bool) (x y : LastWrite) → Valid x → Valid y → Valid (cond c x y)
  valid_pick true x y a b = a
  valid_pick false x y a b = b

  valid_put : (σ : State) (r : ℕ) (v : LastWrite) → Valid v → ((x : ℕ) → Valid (σ x)) → (x : ℕ) → Valid (put σ r v x)
  unfolding put
  valid_put σ r v a h x = valid_pick (eqb x r) v (σ x) a (h x)

  valid_writes : (n j : ℕ) → n < N → j < length (P (w n)) → (ss rs : List ℕ) (σ : State) → ((x : ℕ) → Valid (σ x)) → (x : ℕ) → Valid (store n j ss rs σ x)
  valid_writes n j a b ss [] σ h x = h x
  valid_writes n j a b ss (r ∷ rs) σ h x = valid_writes n j a b (next_slots ss) rs (put σ r (M.write n j (first_slot ss))) (valid_put σ r (M.write n j (first_slot ss)) (a, b) h) x

  valid_run : (n j : ℕ) (c : List Instr) → n < N → j + length c ≤ length (P (w n)) → (σ : State) → ((x : ℕ) → Valid (σ x)) → (x : ℕ) → Valid (run_plain n j c σ x)
  valid_run n j [] a b σ h x = h x
  valid_run n j (i ∷ c) a b σ h x = valid_run n (suc j) c a (omega arith) (store n j i.slots i.writes σ) (valid_writes n j a (omega arith) i.slots i.writes σ h) x

  valid_st : (n : ℕ) → n ≤ N → (x : ℕ) → Valid (state_at P w n x)
  unfolding state_at
  valid_st zero h x = tt
  valid_st (suc n) h x = valid_run n 0 (P (w n)) h (omega arith) (state_at P w n) (valid_st n (omega arith)) x

  valid_map : (σ : State) → ((x : ℕ) → Valid (σ x)) → (rs : List ℕ) (y : LastWrite) → In y (map σ rs) → Valid y
  valid_map σ h rs y i = let z = in_map σ y rs i in subst Valid (sym z.2) (h z.0)

  valid_take : (n j : ℕ) (c : List Instr) → n < N → j + length c ≤ length (P (w n)) → (σ : State) → ((x : ℕ) → Valid (σ x)) → (k : ℕ) (y : LastWrite) → In y (takes_from n j c σ k) → Valid y
  valid_take n j [] a b σ h k y i = absurd i
  valid_take n j (c ∷ cs) a b σ h zero y i = valid_map σ h c.reads y i
  valid_take n j (c ∷ cs) a b σ h (suc k) y i = valid_take n (suc j) cs a (omega arith) (store n j c.slots c.writes σ) (valid_writes n j a (omega arith) c.slots c.writes σ h) k y i

  pub valid_takes : (n j : ℕ) → n < N → (y : LastWrite) → In y (takes P w n j) → Valid y
  valid_takes n j a y i = valid_take n 0 (P (w n)) a (omega arith) (state_at P w n) (valid_st n (omega arith)) j y i
