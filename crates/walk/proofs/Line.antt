-- Straight-line code: kept code, the kept part of x, the moved code and the target's own code take after what they took before. These are the
-- four kinds of block in OneRound. Assumes nothing.
use mathlib.Core.Path.{◌≡◌, refl, sym, ◌∙◌, ap, subst}
use mathlib.Core.List.{List, [], ◌∷◌, ◌++◌, map, map-map}
use mathlib.Core.Logic.{inl, inr, ⊎_elim}
use Prim.Native.Nat.{ℕ, ◌<◌}
use native.Mathlib.Omega.{arith}
use Rattle.words.specs.Lists.{In}
use Rattle.words.proofs.Bools.{eq?}
use Rattle.words.proofs.Members.{in_left, in_right, map_on}
use Rattle.walk.specs.Machine.{put, Instr, LastWrite, write, State, first_slot, next_slots, store}
use Rattle.walk.specs.Rules.{written_by}
use Rattle.walk.proofs.Facts.{put_same, put_other, in_constant}
use Rattle.walk.proofs.Named.{step_named, run_named, Wanted, store_other, run_other}
use Rattle.walk.proofs.Scan.{Marked, kept, moved, Location, same, lost, fresh, Locations, after_writes, after_code, unless_reused, after_moved, scan, register_at, renamed, all_of, kept_of, rename_moved, moved_of, rename_own, ReadsInPlace, Findable, ScanAllows, OwnFindable}
use Rattle.walk.proofs.ScanLaws.{same≢fresh, fresh_inj, unless_same, unless_fresh, NewAbove, above_one, above_writes}

-- ---- what two states share. σ is the state before, κ the one after, μ the one after behind the moved code

-- what is in place is the same in both, of the registers K
abbrev AgreeOn : (ℕ → Type 0) → Locations → State → State → Type 0
AgreeOn K a σ κ = (r : ℕ) → K r → a r ≡ same → σ r ≡ κ r

abbrev pub AgreeInPlace : Locations → State → State → Type 0
AgreeInPlace a σ κ = (r : ℕ) → a r ≡ same → σ r ≡ κ r

-- what is in a new register is there
abbrev pub HeldInNew : Locations → State → State → Type 0
HeldInNew a σ μ = (r f : ℕ) → a r ≡ fresh f → μ f ≡ σ r

agree_one : (K : ℕ → Type 0) (a : Locations) (σ κ : State) (r : ℕ) (v : LastWrite) → AgreeOn K a σ κ → AgreeOn K (put a r same) (put σ r v) (put κ r v)
agree_one K a σ κ r v h s l e = ⊎_elim
    (λ p. subst (λ z. put σ r v z ≡ put κ r v z) (sym p) (put_same σ r v ∙ sym (put_same κ r v)))
    (λ n. put_other σ r v s n ∙ h s l (sym (put_other a r same s n) ∙ e) ∙ sym (put_other κ r v s n))
    (eq? s r)

agree_on_store : (K : ℕ → Type 0) (m i : ℕ) (k : List ℕ) (rs : List ℕ) (a : Locations) (σ κ : State) → AgreeOn K a σ κ → AgreeOn K (after_writes a rs) (store m i k rs σ) (store m i k rs κ)
agree_on_store K m i k [] a σ κ h = h
agree_on_store K m i k (r ∷ rs) a σ κ h =
    agree_on_store K m i (next_slots k) rs (put a r same) (put σ r (write m i (first_slot k))) (put κ r (write m i (first_slot k))) (agree_one K a σ κ r (write m i (first_slot k)) h)

agree_step : (visit : ℕ → ℕ) (i : Instr) (a : Locations) (σ κ : State) → AgreeInPlace a σ κ → AgreeInPlace (after_writes a i.writes) (step_named visit i σ) (step_named visit i κ)
agree_step visit i a σ κ h r e = agree_on_store (λ s. Unit {0}) (visit i.old_block) i.old_index i.slots i.writes a σ κ (λ s l. h s) r tt e

-- a moved instruction runs before, and its part after waits
agree_moved_one : (a : Locations) (σ κ : State) (f r : ℕ) (v : LastWrite) → AgreeInPlace a σ κ → AgreeInPlace (put (λ s. unless_reused f (a s)) r (fresh f)) (put σ r v) κ
agree_moved_one a σ κ f r v h s e = ⊎_elim
    (λ p. same≢fresh (sym (subst (λ z. put (λ s. unless_reused f (a s)) r (fresh f) z ≡ same) p e) ∙ put_same (λ s. unless_reused f (a s)) r (fresh f)))
    (λ n. put_other σ r v s n ∙ h s (unless_same f (a s) (sym (put_other (λ s. unless_reused f (a s)) r (fresh f) s n) ∙ e)))
    (eq? s r)

agree_moved_store : (m i : ℕ) (k : List ℕ) (f : ℕ) (rs : List ℕ) (a : Locations) (σ κ : State) → AgreeInPlace a σ κ → AgreeInPlace (after_moved a f rs) (store m i k rs σ) κ
agree_moved_store m i k f [] a σ κ h = h
agree_moved_store m i k f (r ∷ rs) a σ κ h =
    agree_moved_store m i (next_slots k) f rs (put (λ s. unless_reused f (a s)) r (fresh f)) (put σ r (write m i (first_slot k))) κ (agree_moved_one a σ κ f r (write m i (first_slot k)) h)

agree_moved : (visit : ℕ → ℕ) (f : ℕ) (i : Instr) (a : Locations) (σ κ : State) → AgreeInPlace a σ κ → AgreeInPlace (after_moved a f i.writes) (step_named visit i σ) κ
agree_moved visit f i a σ κ h = agree_moved_store (visit i.old_block) i.old_index i.slots f i.writes a σ κ h

-- kept code runs before, and the target's entry is still to come
held_one : (a : Locations) (σ μ : State) (r : ℕ) (v : LastWrite) → HeldInNew a σ μ → HeldInNew (put a r same) (put σ r v) μ
held_one a σ μ r v h s f e = ⊎_elim
    (λ p. same≢fresh (sym (put_same a r same) ∙ subst (λ z. put a r same z ≡ fresh f) p e))
    (λ n. h s f (sym (put_other a r same s n) ∙ e) ∙ sym (put_other σ r v s n))
    (eq? s r)

held_store : (m i : ℕ) (s : List ℕ) (rs : List ℕ) (a : Locations) (σ μ : State) → HeldInNew a σ μ → HeldInNew (after_writes a rs) (store m i s rs σ) μ
held_store m i s [] a σ μ h = h
held_store m i s (r ∷ rs) a σ μ h = held_store m i (next_slots s) rs (put a r same) (put σ r (write m i (first_slot s))) μ (held_one a σ μ r (write m i (first_slot s)) h)

held_step : (visit : ℕ → ℕ) (i : Instr) (a : Locations) (σ μ : State) → HeldInNew a σ μ → HeldInNew (after_writes a i.writes) (step_named visit i σ) μ
held_step visit i a σ μ h = held_store (visit i.old_block) i.old_index i.slots i.writes a σ μ h

pub held_code : (visit : ℕ → ℕ) (c : List Instr) (a : Locations) (σ μ : State) → HeldInNew a σ μ → HeldInNew (after_code a c) (run_named visit c σ) μ
held_code visit [] a σ μ h = h
held_code visit (i ∷ c) a σ μ h = held_code visit c (after_writes a i.writes) (step_named visit i σ) μ (held_step visit i a σ μ h)

-- a moved instruction runs after, too, now in its new register f
held-moved_one : (a : Locations) (σ μ : State) (f r : ℕ) (v : LastWrite) → HeldInNew a σ μ → HeldInNew (put (λ s. unless_reused f (a s)) r (fresh f)) (put σ r v) (put μ f v)
held-moved_one a σ μ f r v h s g e = ⊎_elim
    (λ p. let q = fresh_inj f g (sym (put_same (λ s. unless_reused f (a s)) r (fresh f)) ∙ subst (λ z. put (λ s. unless_reused f (a s)) r (fresh f) z ≡ fresh g) p e) in
    subst (λ z. put μ f v z ≡ put σ r v s) q (put_same μ f v ∙ sym (put_same σ r v) ∙ ap (put σ r v) (sym p)))
    (λ n. let k = unless_fresh f (a s) g (sym (put_other (λ s. unless_reused f (a s)) r (fresh f) s n) ∙ e) in
    put_other μ f v g k.1 ∙ h s g k.0 ∙ sym (put_other σ r v s n))
    (eq? s r)

held_moved : (m i : ℕ) (k : List ℕ) (f : ℕ) (rs : List ℕ) (a : Locations) (σ μ : State) → HeldInNew a σ μ
    → HeldInNew (after_moved a f rs) (store m i k rs σ) (store m i k (map (λ (r : ℕ). f) rs) μ)
held_moved m i k f [] a σ μ h = h
held_moved m i k f (r ∷ rs) a σ μ h =
    held_moved m i (next_slots k) f rs (put (λ s. unless_reused f (a s)) r (fresh f)) (put σ r (write m i (first_slot k))) (put μ f (write m i (first_slot k))) (held-moved_one a σ μ f r (write m i (first_slot k)) h)

-- ---- kept code: the same code from two states that agree where it reads

pub kept-code_run : (want : ℕ → ℕ → List LastWrite) (visit : ℕ → ℕ) (c : List Instr) (a : Locations) (σ κ : State)
    → AgreeInPlace a σ κ → ReadsInPlace a c → Wanted want visit c σ
    → Wanted want visit c κ × AgreeInPlace (after_code a c) (run_named visit c σ) (run_named visit c κ)
kept-code_run want visit [] a σ κ h o w = (tt, h)
kept-code_run want visit (i ∷ c) a σ κ h o w =
    let rest = kept-code_run want visit c (after_writes a i.writes) (step_named visit i σ) (step_named visit i κ) (agree_step visit i a σ κ h) o.1 w.1 in
    ((sym (map_on σ κ i.reads (λ r m. h r (o.0 r m))) ∙ w.0, rest.0), rest.1)

-- the kept part of x, against the whole of x
pub kept-part_run : (want : ℕ → ℕ → List LastWrite) (visit : ℕ → ℕ) (R : ℕ) (cw : List ℕ) (X : List Marked) (a : Locations) (σ κ : State)
    → AgreeInPlace a σ κ → ScanAllows R cw a X → Wanted want visit (all_of X) σ
    → Wanted want visit (kept_of X) κ × AgreeInPlace (scan a X) (run_named visit (all_of X) σ) (run_named visit (kept_of X) κ)
kept-part_run want visit R cw [] a σ κ h o w = (tt, h)
kept-part_run want visit R cw (kept i ∷ X) a σ κ h o w =
    let rest = kept-part_run want visit R cw X (after_writes a i.writes) (step_named visit i σ) (step_named visit i κ) (agree_step visit i a σ κ h) o.1 w.1 in
    ((sym (map_on σ κ i.reads (λ r m. h r (o.0 r m))) ∙ w.0, rest.0), rest.1)
kept-part_run want visit R cw (moved f i ∷ X) a σ κ h o w =
    kept-part_run want visit R cw X (after_moved a f i.writes) (step_named visit i σ) κ (agree_moved visit f i a σ κ h) o.2 w.1

-- ---- moved code

-- what a moved instruction's read finds; κE is the state behind x, κT at the target's entry
read_moved : (R : ℕ) (ws cw : List ℕ) (σ κ κE κT μ : State) (a : Locations) (r : ℕ)
    → AgreeInPlace a σ κ → HeldInNew a σ μ → (r < R → μ r ≡ κT r)
    → ((In r cw → ⊥) → κT r ≡ κE r) → ((In r ws → ⊥) → κE r ≡ κ r)
    → Findable R (ws ++ cw) (a r) r → μ (renamed a r) ≡ σ r
read_moved R ws cw σ κ κE κT μ a r ag ho lo ct ce re = go (a r) refl re
  where
    go : (l : Location) → a r ≡ l → Findable R (ws ++ cw) l r → μ (register_at l r) ≡ σ r
    go same e q = lo q.0 ∙ ct (λ z. q.1 (in_right r ws cw z)) ∙ ce (λ z. q.1 (in_left r ws cw z)) ∙ sym (ag r e)
    go lost e q = absurd q
    go (fresh f) e q = ho r f e

-- the moved code at the target's head, run from μ; it changes no register below R
pub moved_run : (want : ℕ → ℕ → List LastWrite) (visit visit' : ℕ → ℕ) (R : ℕ) (cw : List ℕ) (κT : State) (X : List Marked) (a : Locations) (σ κ μ : State)
    → AgreeInPlace a σ κ → HeldInNew a σ μ → ((r : ℕ) → r < R → μ r ≡ κT r)
    → ((r : ℕ) → (In r cw → ⊥) → κT r ≡ run_named visit (kept_of X) κ r)
    → ((i : Instr) → In i (all_of X) → visit' i.old_block ≡ visit i.old_block)
    → ScanAllows R cw a X → Wanted want visit (all_of X) σ
    → Wanted want visit' (moved_of a X) μ × HeldInNew (scan a X) (run_named visit (all_of X) σ) (run_named visit' (moved_of a X) μ) × ((r : ℕ) → r < R → run_named visit' (moved_of a X) μ r ≡ κT r)
moved_run want visit visit' R cw κT [] a σ κ μ ag ho lo ct la o w = (tt, ho, lo)
moved_run want visit visit' R cw κT (kept i ∷ X) a σ κ μ ag ho lo ct la o w =
    moved_run want visit visit' R cw κT X (after_writes a i.writes) (step_named visit i σ) (step_named visit i κ) μ
    (agree_step visit i a σ κ ag) (held_step visit i a σ μ ho) lo ct (λ j q. la j (inr q)) o.1 w.1
moved_run want visit visit' R cw κT (moved f i ∷ X) a σ κ μ ag ho lo ct la o w =
    let e : visit' i.old_block ≡ visit i.old_block = la i (inl refl) in
    let rest = moved_run want visit visit' R cw κT X (after_moved a f i.writes) (step_named visit i σ) κ (step_named visit' (rename_moved a f i) μ)
    (agree_moved visit f i a σ κ ag)
    (subst (λ m. HeldInNew (after_moved a f i.writes) (step_named visit i σ) (store m i.old_index i.slots (map (λ (r : ℕ). f) i.writes) μ)) (sym e) (held_moved (visit i.old_block) i.old_index i.slots f i.writes a σ μ ho))
    (λ r h. store_other (visit' i.old_block) i.old_index i.slots (map (λ (x : ℕ). f) i.writes) μ r (λ q. clash r h (in_constant f i.writes r q)) ∙ lo r h)
    ct (λ j q. la j (inr q)) o.2 w.1 in (
      (
        map-map μ (renamed a) i.reads ∙ map_on (λ r. μ (renamed a r)) σ i.reads
            (λ r q. read_moved R (written_by (kept_of X)) cw σ κ (run_named visit (kept_of X) κ) κT μ a r ag ho (lo r) (ct r) (λ z. run_other visit (kept_of X) κ r z) (o.1 r q))
            ∙ w.0 ∙ ap (λ m. want m i.old_index) (sym e),
        rest.0,
      ),
      rest.1,
      rest.2,
    )
  where
    clash : (r : ℕ) → r < R → r ≡ f → ⊥
    clash r h e = let q = o.0 in omega arith

-- ---- the target's own code, behind the moved code, which has changed no register below R

abbrev AgreeBelow : ℕ → Locations → State → State → Type 0
AgreeBelow R a σ μ = AgreeOn (λ r. r < R) a σ μ

held_both_one : (R : ℕ) (a : Locations) (σ μ : State) (r : ℕ) (v : LastWrite) → r < R → NewAbove R a → HeldInNew a σ μ → HeldInNew (put a r same) (put σ r v) (put μ r v)
held_both_one R a σ μ r v l hi h s f e = ⊎_elim
    (λ p. same≢fresh (sym (put_same a r same) ∙ subst (λ z. put a r same z ≡ fresh f) p e))
    (λ n. let q = sym (put_other a r same s n) ∙ e in
    let g = hi s f q in
    put_other μ r v f (λ z. omega arith) ∙ h s f q ∙ sym (put_other σ r v s n))
    (eq? s r)

held_both : (R m i : ℕ) (k : List ℕ) (rs : List ℕ) (a : Locations) (σ μ : State) → ((r : ℕ) → In r rs → r < R) → NewAbove R a → HeldInNew a σ μ
    → HeldInNew (after_writes a rs) (store m i k rs σ) (store m i k rs μ)
held_both R m i k [] a σ μ b hi h = h
held_both R m i k (r ∷ rs) a σ μ b hi h =
    held_both R m i (next_slots k) rs (put a r same) (put σ r (write m i (first_slot k))) (put μ r (write m i (first_slot k))) (λ s q. b s (inr q)) (above_one R a r hi)
    (held_both_one R a σ μ r (write m i (first_slot k)) (b r (inl refl)) hi h)

read_own : (R : ℕ) (σ μ : State) (a : Locations) (r : ℕ) → AgreeBelow R a σ μ → HeldInNew a σ μ → Findable R [] (a r) r → μ (renamed a r) ≡ σ r
read_own R σ μ a r lo ho re = go (a r) refl re
  where
    go : (l : Location) → a r ≡ l → Findable R [] l r → μ (register_at l r) ≡ σ r
    go same e q = sym (lo r q.0 e)
    go lost e q = absurd q
    go (fresh f) e q = ho r f e

pub own_run : (want : ℕ → ℕ → List LastWrite) (visit : ℕ → ℕ) (R : ℕ) (c : List Instr) (a : Locations) (σ μ : State)
    → AgreeBelow R a σ μ → HeldInNew a σ μ → NewAbove R a
    → OwnFindable R a c → Wanted want visit c σ
    → Wanted want visit (rename_own a c) μ × AgreeBelow R (after_code a c) (run_named visit c σ) (run_named visit (rename_own a c) μ)
own_run want visit R [] a σ μ ag ho hi o w = (tt, ag)
own_run want visit R (i ∷ c) a σ μ ag ho hi o w =
    let rest = own_run want visit R c (after_writes a i.writes) (step_named visit i σ) (step_named visit i μ)
    (agree_on_store (λ r. r < R) (visit i.old_block) i.old_index i.slots i.writes a σ μ ag) (held_both R (visit i.old_block) i.old_index i.slots i.writes a σ μ o.1 hi ho) (above_writes R i.writes a hi) o.2 w.1 in
    ((map-map μ (renamed a) i.reads ∙ map_on (λ r. μ (renamed a r)) σ i.reads (λ r q. read_own R σ μ a r ag ho (o.0 r q)) ∙ w.0, rest.0), rest.1)
