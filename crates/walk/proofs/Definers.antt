-- From the rules to the scan, 1: the scan's locations by position of the straight code. Who wrote a register says where its value is. RuleReads
-- goes by these cases. Assumes nothing.
use mathlib.Core.Path.{◌≡◌, refl, sym, ◌∙◌, ap, ap₂, subst}
use mathlib.Core.Bool.{Bool, true, false, cond}
use mathlib.Core.List.{List, [], ◌∷◌}
use mathlib.Core.Logic.{inl, inr, ⊎_elim}
use Prim.Native.Nat.{ℕ, zero, suc, ◌<◌}
use native.Mathlib.Omega.{arith}
use lib.Dec.{eqb, eqb→eq}
use lib.ListN.{get_or}
use Rattle.words.specs.Lists.{In}
use Rattle.words.proofs.Bools.{eq?}
use Rattle.walk.specs.Machine.{put, Instr, no_instr}
use Rattle.walk.specs.Rules.{entry, by, defined_by}
use Rattle.walk.proofs.Facts.{cond_no, put_same, put_other, in?}
use Rattle.walk.proofs.Scan.{Location, same, lost, fresh, Locations, after_writes, unless_reused, after_moved, live_in_place}
use Rattle.walk.proofs.ScanLaws.{after-writes_out, after-writes_in}

pub entry≢by : {C : Type 0} (p : ℕ) → entry ≡ by p → C
entry≢by p e = let z : ◌≡◌ {A = ℕ} 0 1 = cc in absurd (omega arith)

pub by_inj : (p q : ℕ) → by p ≡ by q → p ≡ q
by_inj p q e = cc

pub defined_here : (S : List Instr) (q r : ℕ) → In r (get_or S q no_instr).writes → defined_by S (suc q) r ≡ by q
unfolding defined_by
defined_here S q r h = ⊎_elim (λ z. ap (λ b. cond b (by q) (defined_by S q r)) z.1) (λ z. absurd (z.0 h)) (in? r (get_or S q no_instr).writes)

pub defined_before : (S : List Instr) (q r : ℕ) → (In r (get_or S q no_instr).writes → ⊥) → defined_by S (suc q) r ≡ defined_by S q r
unfolding defined_by
defined_before S q r h = ⊎_elim (λ z. absurd (h z.0)) (λ z. ap (λ b. cond b (by q) (defined_by S q r)) z.1) (in? r (get_or S q no_instr).writes)

pub defined_entry : (S : List Instr) (r : ℕ) → defined_by S zero r ≡ entry
unfolding defined_by
defined_entry S r = refl

-- what is as at entry has been written by nobody
pub entry_unwritten : (S : List Instr) (q r : ℕ) → defined_by S q r ≡ entry → (p : ℕ) → p < q → In r (get_or S p no_instr).writes → ⊥
entry_unwritten S zero r e p h g = omega arith
entry_unwritten S (suc q) r e p h g = ⊎_elim
    (λ z. entry≢by q (sym e ∙ defined_here S q r z.0))
    (λ z. ⊎_elim (λ f. z.0 (subst (λ v. In r (get_or S v no_instr).writes) f g)) (λ f. entry_unwritten S q r (sym (defined_before S q r z.0) ∙ e) p (omega arith) g) (eq? p q))
    (in? r (get_or S q no_instr).writes)

-- ---- the scan's locations, by position
abbrev pub locations_step : Bool → ℕ → List ℕ → Locations → Locations
locations_step true f ws a = after_moved a f ws
locations_step false f ws a = after_writes a ws

module _ (S : List Instr) (mark : ℕ → Bool) (new_reg : ℕ → ℕ) (l : ℕ → Bool) where
  pub locations_at : ℕ → Locations
  locations_at zero = live_in_place l
  locations_at (suc q) = locations_step (mark q) (new_reg q) (get_or S q no_instr).writes (locations_at q)

  -- where the value is, by who wrote it: nobody, a kept position, a member, or a member whose new register was reused since
  pub data Located (q r : ℕ) (v : Location) : Type 0 where
    at_entry : defined_by S q r ≡ entry → v ≡ live_in_place l r → Located q r v
    by_kept : (p : ℕ) → defined_by S q r ≡ by p → p < q → mark p ≡ false → v ≡ same → Located q r v
    by_moved : (p : ℕ) → defined_by S q r ≡ by p → p < q → mark p ≡ true → v ≡ fresh (new_reg p) → Located q r v
    reused : (p d s : ℕ) → defined_by S q r ≡ by p → p < q → mark p ≡ true → p < d → d < q → mark d ≡ true → new_reg d ≡ new_reg p → In s (get_or S d no_instr).writes → Located q r v

  -- a step that leaves the register's value where it is
  located_past : (q r : ℕ) (v v' : Location) → v' ≡ v → (In r (get_or S q no_instr).writes → ⊥) → Located q r v → Located (suc q) r v'
  located_past q r v v' e h (at_entry d z) = at_entry (defined_before S q r h ∙ d) (e ∙ z)
  located_past q r v v' e h (by_kept p d b m z) = by_kept p (defined_before S q r h ∙ d) (omega arith) m (e ∙ z)
  located_past q r v v' e h (by_moved p d b m z) = by_moved p (defined_before S q r h ∙ d) (omega arith) m (e ∙ z)
  located_past q r v v' e h (reused p d s f b m g g' m' k w) = reused p d s (defined_before S q r h ∙ f) (omega arith) m g (omega arith) m' k w

  unless_live : (f r : ℕ) → unless_reused f (live_in_place l r) ≡ live_in_place l r
  unless_live f r = go (l r)
    where
      go : (b : Bool) → unless_reused f (cond b same lost) ≡ cond b same lost
      go true = refl
      go false = refl

  -- a member that writes another register, and may reuse a new one
  located_unless : (q r s : ℕ) (v : Location) → mark q ≡ true → In s (get_or S q no_instr).writes → (In r (get_or S q no_instr).writes → ⊥) → Located q r v
      → Located (suc q) r (unless_reused (new_reg q) v)
  located_unless q r s v m w h (at_entry d z) = at_entry (defined_before S q r h ∙ d) (ap (unless_reused (new_reg q)) z ∙ unless_live (new_reg q) r)
  located_unless q r s v m w h (by_kept p d b mp z) = by_kept p (defined_before S q r h ∙ d) (omega arith) mp (ap (unless_reused (new_reg q)) z)
  located_unless q r s v m w h (by_moved p d b mp z) = ⊎_elim
      (λ e. reused p q s (defined_before S q r h ∙ d) (omega arith) mp b (omega arith) m e w)
      (λ n. by_moved p (defined_before S q r h ∙ d) (omega arith) mp (ap (unless_reused (new_reg q)) z ∙ cond_no (eqb (new_reg p) (new_reg q)) lost (fresh (new_reg p)) (λ t. n (sym (eqb→eq (new_reg p) (new_reg q) t)))))
      (eq? (new_reg q) (new_reg p))
  located_unless q r s v m w h (reused p d s' f b mp g g' md k w') = reused p d s' (defined_before S q r h ∙ f) (omega arith) mp g (omega arith) md k w'

  -- a member writes one register at most
  module _ (one : (p r s : ℕ) (rs : List ℕ) → mark p ≡ true → (get_or S p no_instr).writes ≡ r ∷ s ∷ rs → ⊥) where
    located_moved : (q r : ℕ) → mark q ≡ true → Located q r (locations_at q r) → (ws : List ℕ) → (get_or S q no_instr).writes ≡ ws
        → Located (suc q) r (after_moved (locations_at q) (new_reg q) ws r)
    located_moved q r m f [] e = located_past q r (locations_at q r) (locations_at q r) refl (λ h. subst (In r) e h) f
    located_moved q r m f (y ∷ []) e = ⊎_elim
        (λ g. by_moved q (defined_here S q r (subst (In r) (sym e) (inl g))) (omega arith) m (ap (put (λ s. unless_reused (new_reg q) (locations_at q s)) y (fresh (new_reg q))) g ∙ put_same (λ s. unless_reused (new_reg q) (locations_at q s)) y (fresh (new_reg q))))
        (λ g. subst (Located (suc q) r) (sym (put_other (λ s. unless_reused (new_reg q) (locations_at q s)) y (fresh (new_reg q)) r g))
        (located_unless q r y (locations_at q r) m (subst (In y) (sym e) (inl refl)) (λ h. out g (subst (In r) e h)) f))
        (eq? r y)
      where
        out : (r ≡ y → ⊥) → In r (y ∷ []) → ⊥
        out g (inl z) = g z
        out g (inr z) = z
    located_moved q r m f (y ∷ z ∷ ws) e = absurd (one q y z ws m e)

    pub located : (q r : ℕ) → Located q r (locations_at q r)
    unfolding locations_at
    located zero r = at_entry (defined_entry S r) refl
    located (suc q) r = go (mark q) refl (located q r)
      where
        go : (b : Bool) → mark q ≡ b → Located q r (locations_at q r) → Located (suc q) r (locations_step b (new_reg q) (get_or S q no_instr).writes (locations_at q) r)
        go true m f = located_moved q r m f (get_or S q no_instr).writes refl
        go false m f = ⊎_elim
            (λ h. by_kept q (defined_here S q r h.0) (omega arith) m (after-writes_in (get_or S q no_instr).writes (locations_at q) r h.0))
            (λ h. located_past q r (locations_at q r) (after_writes (locations_at q) (get_or S q no_instr).writes r) (after-writes_out (get_or S q no_instr).writes (locations_at q) r h.0) h.0 f)
            (in? r (get_or S q no_instr).writes)

-- one position further
pub locations_next : (S : List Instr) (mark : ℕ → Bool) (new_reg : ℕ → ℕ) (l : ℕ → Bool) (q : ℕ) (i : Instr) (b : Bool) → get_or S q no_instr ≡ i → mark q ≡ b
    → locations_at S mark new_reg l (suc q) ≡ locations_step b (new_reg q) i.writes (locations_at S mark new_reg l q)
unfolding locations_at
locations_next S mark new_reg l q i b e m = ap₂ (λ c z. locations_step c (new_reg q) z.writes (locations_at S mark new_reg l q)) m e

pub locations_entry : (S : List Instr) (mark : ℕ → Bool) (new_reg : ℕ → ℕ) (l : ℕ → Bool) → locations_at S mark new_reg l zero ≡ live_in_place l
unfolding locations_at
locations_entry S mark new_reg l = refl
