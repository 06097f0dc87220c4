-- From the rules to the scan, 3: the blocks of a chain, their predecessors, and what is live along them. Assumes nothing.
use mathlib.Core.Path.{◌≡◌, refl, sym, ◌∙◌, ap, subst}
use mathlib.Core.Bool.{Bool, true}
use mathlib.Core.List.{List, [], ◌∷◌, ◌++◌}
use mathlib.Core.Logic.{◌⊎◌, inl, inr, ⊎_elim}
use Prim.Native.Nat.{ℕ, ◌≤◌, ◌<◌}
use native.Mathlib.Omega.{arith}
use lib.ListN.{length, get_or}
use Rattle.words.specs.Lists.{In}
use Rattle.words.proofs.Bools.{eq?}
use Rattle.words.proofs.Members.{in_left, in_right, in_split}
use Rattle.walk.specs.Machine.{Instr, Prog, no_instr}
use Rattle.walk.specs.Rules.{written_by, Sole, Linked, ChainSteps, last_block, Exposed, LiveSolution}
use Rattle.walk.proofs.Facts.{none_in}
use Rattle.walk.proofs.Scan.{written_along}
use Rattle.walk.proofs.Align.{Align, align_end, align_take, align_skip, AlignChain, align_le}

pub last_block_snoc : (x : ℕ) (pre : List ℕ) (b : ℕ) → last_block x (pre ++ b ∷ []) ≡ b
last_block_snoc x [] b = refl
last_block_snoc x (p ∷ pre) b = last_block_snoc p pre b

pub steps_at : (succ : ℕ → List ℕ) (t x : ℕ) (pre : List ℕ) (b : ℕ) (q : List ℕ) → ChainSteps succ t x (pre ++ b ∷ q) → ChainSteps succ t b q
steps_at succ t x [] b q s = s.2
steps_at succ t x (p ∷ pre) b q s = steps_at succ t p pre b q s.2

pub steps_last : (succ : ℕ → List ℕ) (t x : ℕ) (cs : List ℕ) → ChainSteps succ t x cs → ChainSteps succ t (last_block x cs) []
steps_last succ t x [] s = s
steps_last succ t x (c ∷ cs) s = steps_last succ t c cs s.2

-- the predecessors of the path's blocks
pub path_predecessor : (succ : ℕ → List ℕ) (x t : ℕ) (cs : List ℕ) → Linked succ x (cs ++ t ∷ []) → (s : ℕ) → In s (cs ++ t ∷ []) → (p : ℕ) × Sole succ p s × In p (x ∷ cs)
path_predecessor succ x t [] li s (inl e) = (x, subst (Sole succ x) (sym e) li.0, inl refl)
path_predecessor succ x t [] li s (inr h) = absurd h
path_predecessor succ x t (c ∷ cs) li s (inl e) = (x, subst (Sole succ x) (sym e) li.0, inl refl)
path_predecessor succ x t (c ∷ cs) li s (inr h) = let k = path_predecessor succ c t cs li.1 s h in (k.0, k.1, inr k.2)

pub chain_predecessor : (succ : ℕ → List ℕ) (t x : ℕ) (cs : List ℕ) → Linked succ x (cs ++ t ∷ []) → ChainSteps succ t x cs → (s : ℕ) → In s cs
    → (p : ℕ) × Sole succ p s × ((v : ℕ) → In v (succ p) → v ≡ s)
chain_predecessor succ t x [] li steps s h = absurd h
chain_predecessor succ t x (c ∷ cs) li steps s (inl e) = (x, subst (Sole succ x) (sym e) li.0, λ v q. steps.1 v q ∙ sym e)
chain_predecessor succ t x (c ∷ cs) li steps s (inr h) = chain_predecessor succ t c cs li.1 steps.2 s h

-- exposure and writes, by list and by position
-- a read at position p of what is not written before: exposed in this code, or in what follows
exposed_at : (S : List Instr) (r p : ℕ) {q q' : ℕ} {c : List Instr} → Align S q c q' → q ≤ p → In r (get_or S p no_instr).reads → ((k : ℕ) → k < p → In r (get_or S k no_instr).writes → ⊥)
    → ((p < q') × Exposed r c) ⊎ ((q' ≤ p) × (In r (written_by c) → ⊥))
exposed_at S r p align_end le g f = inr (le, λ z. z)
exposed_at S r p (align_take {q = q} {i = i} {c = c} h e al) le g f = ⊎_elim
    (λ y. inl ((let z = align_le al in omega arith), inl (subst (λ z. In r z.reads) (ap (λ v. get_or S v no_instr) y ∙ e) g)))
    (λ n. ⊎_elim
    (λ z. inl (z.0, inr ((λ w. f q (lt n) (subst (λ v. In r v.writes) (sym e) w)), z.1)))
    (λ z. inr (z.0, λ w. ⊎_elim (λ v. f q (lt n) (subst (λ y. In r y.writes) (sym e) v)) z.1 (in_split r i.writes (written_by c) w)))
    (exposed_at S r p al (lt n) g f))
    (eq? p q)
  where
    lt : (p ≡ q → ⊥) → q < p
    lt n = omega arith
exposed_at S r p (align_skip {i = i} {c = c} rr ww al) le g f = ⊎_elim
    (λ z. inl (z.0, inr ((λ w. none_in i.writes r ww w), z.1)))
    (λ z. inr (z.0, λ w. ⊎_elim (λ v. none_in i.writes r ww v) z.1 (in_split r i.writes (written_by c) w)))
    (exposed_at S r p al le g f)

-- liveness along the chain
pub live_if_read : (R : ℕ) (succ : ℕ → List ℕ) (P : Prog) (live : ℕ → ℕ → Bool) → LiveSolution R succ P live → (t : ℕ) (S : List Instr) (r p : ℕ) → p < length S
    → In r (get_or S p no_instr).reads
    → ((k : ℕ) → k < p → In r (get_or S k no_instr).writes → ⊥)
    → (b : ℕ) (bs : List ℕ) → ChainSteps succ t b bs → (q m : ℕ) → q ≤ p → Align S q (P b) m → AlignChain P S m bs (length S) → live b r ≡ true
live_if_read R succ P live so t S r p lt g f b [] s q m le al ac = ⊎_elim
    (λ z. so.use_in b r z.1)
    (λ z. absurd (let y = z.0 in omega arith))
    (exposed_at S r p al le g f)
live_if_read R succ P live so t S r p lt g f b (c ∷ bs) s q m le al ac = ⊎_elim
    (λ z. so.use_in b r z.1)
    (λ z. so.pass b c r s.0 (live_if_read R succ P live so t S r p lt g f c bs s.2 m ac.0 z.0 ac.1 ac.2) z.1)
    (exposed_at S r p al le g f)

pub live_if_past : (R : ℕ) (succ : ℕ → List ℕ) (P : Prog) (live : ℕ → ℕ → Bool) → LiveSolution R succ P live → (t : ℕ) (b : ℕ) (bs : List ℕ) → ChainSteps succ t b bs
    → (v r : ℕ) → In v (succ (last_block b bs)) → live v r ≡ true → (In r (written_by (P b)) → ⊥) → (In r (written_along P bs) → ⊥) → live b r ≡ true
live_if_past R succ P live so t b [] s v r h e n k = so.pass b v r h e n
live_if_past R succ P live so t b (c ∷ bs) s v r h e n k =
    so.pass b c r s.0 (live_if_past R succ P live so t c bs s.2 v r h e (λ q. k (in_left r (written_by (P c)) (written_along P bs) q)) (λ q. k (in_right r (written_by (P c)) (written_along P bs) q))) n
