-- Laws of the scan's locations: what a piece of code does to them, and that new registers are above R. Line and OneRound run by them, and
-- FromRules compares them with the rules. Assumes nothing.
use mathlib.Core.Path.{◌≡◌, refl, sym, ◌∙◌, ap, subst}
use mathlib.Core.Bool.{Bool, true, false, cond}
use mathlib.Core.List.{List, [], ◌∷◌, ◌++◌}
use mathlib.Core.Logic.{inl, inr, ⊎_elim}
use Prim.Native.Nat.{ℕ, ◌≤◌, ◌<◌}
use native.Mathlib.Omega.{arith}
use lib.Dec.{eqb, T}
use Rattle.words.specs.Lists.{In}
use Rattle.words.proofs.Bools.{eq?}
use Rattle.words.proofs.Members.{in_left, in_right, in_split}
use Rattle.walk.specs.Machine.{put, Instr, Prog}
use Rattle.walk.specs.Rules.{written_by, Exposed}
use Rattle.walk.proofs.Facts.{eq→eqb, put_same, put_other, in?}
use Rattle.walk.proofs.Scan.{Marked, kept, moved, Location, same, lost, fresh, Locations, after_writes, after_code, unless_reused, after_moved, scan, after_chain, live_in_place, ReadsInPlace, ChainInPlace, Findable, ScanAllows, OwnFindable, written_along}

-- ---- locations

pub same≢fresh : {f : ℕ} {C : Type 0} → same ≡ fresh f → C
same≢fresh {f} e = let z : ◌≡◌ {A = ℕ} 0 1 = cc in absurd (omega arith)

lost≢fresh : {f : ℕ} {C : Type 0} → lost ≡ fresh f → C
lost≢fresh {f} e = let z : ◌≡◌ {A = ℕ} 0 1 = cc in absurd (omega arith)

lost≢same : {C : Type 0} → lost ≡ same → C
lost≢same e = let z : ◌≡◌ {A = ℕ} 0 1 = cc in absurd (omega arith)

pub fresh_inj : (f g : ℕ) → fresh f ≡ fresh g → f ≡ g
fresh_inj f g e = cc

pub unless_same : (f : ℕ) (l : Location) → unless_reused f l ≡ same → l ≡ same
unless_same f same e = refl
unless_same f lost e = e
unless_same f (fresh g) e = go (eqb g f) e
  where
    go : (b : Bool) → cond b lost (fresh g) ≡ same → fresh g ≡ same
    go true e' = lost≢same e'
    go false e' = e'

pub unless_fresh : (f : ℕ) (l : Location) (g : ℕ) → unless_reused f l ≡ fresh g → (l ≡ fresh g) × (g ≡ f → ⊥)
unless_fresh f same g e = same≢fresh e
unless_fresh f lost g e = lost≢fresh e
unless_fresh f (fresh h) g e = go (eqb h f) (eq→eqb h f) e
  where
    go : (b : Bool) → (h ≡ f → T b) → cond b lost (fresh h) ≡ fresh g → (fresh h ≡ fresh g) × (g ≡ f → ⊥)
    go true t e' = lost≢fresh e'
    go false t e' = (e', λ p. t (fresh_inj h g e' ∙ p))

-- ---- what kept code does at a register

pub after-writes_out : (ws : List ℕ) (a : Locations) (r : ℕ) → (In r ws → ⊥) → after_writes a ws r ≡ a r
after-writes_out [] a r h = refl
after-writes_out (x ∷ ws) a r h = after-writes_out ws (put a x same) r (λ q. h (inr q)) ∙ put_other a x same r (λ e. h (inl e))

pub after-writes_same : (ws : List ℕ) (a : Locations) (r : ℕ) → a r ≡ same → after_writes a ws r ≡ same
after-writes_same [] a r h = h
after-writes_same (x ∷ ws) a r h = after-writes_same ws (put a x same) r (⊎_elim (λ e. ap (put a x same) e ∙ put_same a x same) (λ n. put_other a x same r n ∙ h) (eq? r x))

pub after-writes_in : (ws : List ℕ) (a : Locations) (r : ℕ) → In r ws → after_writes a ws r ≡ same
after-writes_in [] a r h = absurd h
after-writes_in (x ∷ ws) a r (inl e) = after-writes_same ws (put a x same) r (ap (put a x same) e ∙ put_same a x same)
after-writes_in (x ∷ ws) a r (inr h) = after-writes_in ws (put a x same) r h

pub after_none : (a : Locations) (l : List ℕ) → l ≡ [] → after_writes a l ≡ a
after_none a l e = ap (after_writes a) e

pub after-code_out : (c : List Instr) (a : Locations) (r : ℕ) → (In r (written_by c) → ⊥) → after_code a c r ≡ a r
after-code_out [] a r h = refl
after-code_out (i ∷ c) a r h =
    after-code_out c (after_writes a i.writes) r (λ q. h (in_right r i.writes (written_by c) q)) ∙ after-writes_out i.writes a r (λ q. h (in_left r i.writes (written_by c) q))

after-code_same : (c : List Instr) (a : Locations) (r : ℕ) → a r ≡ same → after_code a c r ≡ same
after-code_same [] a r h = h
after-code_same (i ∷ c) a r h = after-code_same c (after_writes a i.writes) r (after-writes_same i.writes a r h)

pub after-code_in : (c : List Instr) (a : Locations) (r : ℕ) → In r (written_by c) → after_code a c r ≡ same
after-code_in [] a r h = absurd h
after-code_in (i ∷ c) a r h =
    ⊎_elim (λ q. after-code_same c (after_writes a i.writes) r (after-writes_in i.writes a r q)) (λ q. after-code_in c (after_writes a i.writes) r q) (in_split r i.writes (written_by c) h)

-- kept code reads in place if what it exposes is in place
pub exposed_in_place : (c : List Instr) (a : Locations) → ((r : ℕ) → Exposed r c → a r ≡ same) → ReadsInPlace a c
exposed_in_place [] a h = tt
exposed_in_place (i ∷ c) a h = (
  (λ r q. h r (inl q)),
  exposed_in_place c (after_writes a i.writes) (λ r q. ⊎_elim
      (λ z. after-writes_in i.writes a r z.0)
      (λ z. after-writes_out i.writes a r z.0 ∙ h r (inr (z.0, q)))
      (in? r i.writes)),
)

-- the target's own code finds its values if it finds those that it exposes
pub own_findable : (R : ℕ) (c : List Instr) (a : Locations) → ((r : ℕ) → Exposed r c → Findable R [] (a r) r)
    → ((i : Instr) → In i c → (r : ℕ) → In r i.writes → r < R) → OwnFindable R a c
own_findable R [] a h w = tt
own_findable R (i ∷ c) a h w = (
  (λ r q. h r (inl q)),
  w i (inl refl),
  own_findable R c (after_writes a i.writes)
      (λ r q. ⊎_elim
      (λ z. subst (λ v. Findable R [] v r) (sym (after-writes_in i.writes a r z.0)) (w i (inl refl) r z.0, λ y. y))
      (λ z. subst (λ v. Findable R [] v r) (sym (after-writes_out i.writes a r z.0)) (h r (inr (z.0, q))))
      (in? r i.writes))
      (λ j q. w j (inr q)),
)

-- ---- live registers at a block's entry

pub live_located : (l : ℕ → Bool) (r : ℕ) → l r ≡ true → live_in_place l r ≡ same
live_located l r e = ap (λ z. cond z same lost) e

pub live_same : (l : ℕ → Bool) (r : ℕ) → live_in_place l r ≡ same → l r ≡ true
live_same l r e = go (l r) e
  where
    go : (b : Bool) → cond b same lost ≡ same → b ≡ true
    go true q = refl
    go false q = lost≢same q

pub live-not_fresh : {C : Type 0} (l : ℕ → Bool) (r f : ℕ) → live_in_place l r ≡ fresh f → C
live-not_fresh {C} l r f e = go (l r) e
  where
    go : (b : Bool) → cond b same lost ≡ fresh f → C
    go true q = same≢fresh q
    go false q = lost≢fresh q

-- ---- along a chain

pub chain_in-place_at : (P : Prog) (a : Locations) (pre : List ℕ) (b : ℕ) (post : List ℕ) → ChainInPlace P a (pre ++ b ∷ post) → ReadsInPlace (after_chain P a pre) (P b)
chain_in-place_at P a [] b post o = o.0
chain_in-place_at P a (p ∷ pre) b post o = chain_in-place_at P (after_code a (P p)) pre b post o.1

pub after-chain_snoc : (P : Prog) (a : Locations) (pre : List ℕ) (b : ℕ) → after_chain P a (pre ++ b ∷ []) ≡ after_code (after_chain P a pre) (P b)
after-chain_snoc P a [] b = refl
after-chain_snoc P a (p ∷ pre) b = after-chain_snoc P (after_code a (P p)) pre b

pub unwritten_snoc : (P : Prog) (pre : List ℕ) (b r : ℕ) → (In r (written_along P (pre ++ b ∷ [])) → ⊥) → (In r (written_along P pre) → ⊥) × (In r (written_by (P b)) → ⊥)
unwritten_snoc P [] b r h = ((λ q. q), λ q. h (in_left r (written_by (P b)) [] q))
unwritten_snoc P (p ∷ pre) b r h =
    let k = unwritten_snoc P pre b r (λ q. h (in_right r (written_by (P p)) (written_along P (pre ++ b ∷ [])) q)) in
    (λ q. ⊎_elim (λ z. h (in_left r (written_by (P p)) (written_along P (pre ++ b ∷ [])) z)) k.0 (in_split r (written_by (P p)) (written_along P pre) q), k.1)

-- ---- new registers are above R

abbrev pub NewAbove : ℕ → Locations → Type 0
NewAbove R a = (r f : ℕ) → a r ≡ fresh f → R ≤ f

pub above_one : (R : ℕ) (a : Locations) (r : ℕ) → NewAbove R a → NewAbove R (put a r same)
above_one R a r h s f e = ⊎_elim
    (λ p. same≢fresh (sym (put_same a r same) ∙ subst (λ z. put a r same z ≡ fresh f) p e))
    (λ n. h s f (sym (put_other a r same s n) ∙ e))
    (eq? s r)

pub above_writes : (R : ℕ) (rs : List ℕ) (a : Locations) → NewAbove R a → NewAbove R (after_writes a rs)
above_writes R [] a h = h
above_writes R (r ∷ rs) a h = above_writes R rs (put a r same) (above_one R a r h)

above_code : (R : ℕ) (c : List Instr) (a : Locations) → NewAbove R a → NewAbove R (after_code a c)
above_code R [] a h = h
above_code R (i ∷ c) a h = above_code R c (after_writes a i.writes) (above_writes R i.writes a h)

above_moved_one : (R f : ℕ) (a : Locations) (r : ℕ) → R ≤ f → NewAbove R a → NewAbove R (put (λ s. unless_reused f (a s)) r (fresh f))
above_moved_one R f a r l h s g e = ⊎_elim
    (λ p. let q = fresh_inj f g (sym (put_same (λ s. unless_reused f (a s)) r (fresh f)) ∙ subst (λ z. put (λ s. unless_reused f (a s)) r (fresh f) z ≡ fresh g) p e) in omega arith)
    (λ n. h s g (unless_fresh f (a s) g (sym (put_other (λ s. unless_reused f (a s)) r (fresh f) s n) ∙ e)).0)
    (eq? s r)

above_moved : (R f : ℕ) (rs : List ℕ) (a : Locations) → R ≤ f → NewAbove R a → NewAbove R (after_moved a f rs)
above_moved R f [] a l h = h
above_moved R f (r ∷ rs) a l h = above_moved R f rs (put (λ s. unless_reused f (a s)) r (fresh f)) l (above_moved_one R f a r l h)

pub above_scan : (R : ℕ) (cw : List ℕ) (X : List Marked) (a : Locations) → ScanAllows R cw a X → NewAbove R a → NewAbove R (scan a X)
above_scan R cw [] a o h = h
above_scan R cw (kept i ∷ X) a o h = above_scan R cw X (after_writes a i.writes) o.1 (above_writes R i.writes a h)
above_scan R cw (moved f i ∷ X) a o h = above_scan R cw X (after_moved a f i.writes) o.2 (above_moved R f i.writes a o.0 h)

pub above_chain : (R : ℕ) (P : Prog) (a : Locations) (bs : List ℕ) → NewAbove R a → NewAbove R (after_chain P a bs)
above_chain R P a [] h = h
above_chain R P a (b ∷ bs) h = above_chain R P (after_code a (P b)) bs (above_code R (P b) a h)

-- nothing is in a new register at first
pub above_live : (R : ℕ) (l : ℕ → Bool) → NewAbove R (live_in_place l)
above_live R l r f e = live-not_fresh l r f e
