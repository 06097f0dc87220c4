-- Rounds keep each block's successors, and so the walks. Whole uses it for `walks` of demand 3, and to state all rounds over one set of
-- successors. Assumes nothing.
use mathlib.Core.Path.{◌≡◌, refl, sym, ◌∙◌, ap, subst}
use mathlib.Core.Bool.{Bool, true, false, cond}
use mathlib.Core.List.{List, [], ◌∷◌, ◌++◌, map}
use mathlib.Core.Logic.{inl, inr, ⊎_elim}
use Prim.Native.Nat.{ℕ, zero, suc, ◌+◌, ◌<◌}
use native.Mathlib.Omega.{arith}
use lib.Dec.{T}
use lib.ListN.{length, get_or}
use Rattle.words.specs.Lists.{In}
use Rattle.words.proofs.Bools.{eq?}
use Rattle.walk.specs.Machine.{Instr, with_registers, Prog, no_instr, instr_at, Walk}
use Rattle.walk.specs.Rules.{without_last, straight_code, defined_by, new_name, stays, goes, owns}
use Rattle.walk.specs.Demand.{last_goes_to, succs, GoesOn, IsWalk, block_at, FullRound, Sunk, none_yet, again}

-- ---- where the last instruction of the new code goes

last_append : (c : List Instr) (i : Instr) (d : List Instr) → last_goes_to (c ++ i ∷ d) ≡ last_goes_to (i ∷ d)
last_append [] i d = refl
last_append (x ∷ []) i d = refl
last_append (x ∷ y ∷ c) i d = last_append (y ∷ c) i d

last_none : (c : List Instr) → ((i : Instr) → In i c → i.goes_to ≡ []) → last_goes_to (c ++ []) ≡ []
last_none [] h = refl
last_none (x ∷ []) h = h x (inl refl)
last_none (x ∷ y ∷ c) h = last_none (y ∷ c) (λ i q. h i (inr q))

last_stays : (mark : ℕ → Bool) (q : ℕ) (i : Instr) (c : List Instr) → ((p : ℕ) → mark p ≡ true → suc p < q + length (i ∷ c))
    → (k : Instr) × (d : List Instr) × (stays mark q (i ∷ c) ≡ k ∷ d) × (last_goes_to (k ∷ d) ≡ last_goes_to (i ∷ c))
last_stays mark q i [] h = go (mark q) refl
  where
    go : (b : Bool) → mark q ≡ b → (k : Instr) × (d : List Instr) × (cond b [] (i ∷ []) ≡ k ∷ d) × (last_goes_to (k ∷ d) ≡ i.goes_to)
    go true m = absurd (let z = h q m in omega arith)
    go false m = (i, [], refl, refl)
last_stays mark q i (j ∷ c) h = go (last_stays mark (suc q) j c (λ p m. let z = h p m in omega arith)) (mark q)
  where
    go : ((k : Instr) × (d : List Instr) × (stays mark (suc q) (j ∷ c) ≡ k ∷ d) × (last_goes_to (k ∷ d) ≡ last_goes_to (j ∷ c))) → (b : Bool)
        → (k : Instr) × (d : List Instr) × (cond b (stays mark (suc q) (j ∷ c)) (i ∷ stays mark (suc q) (j ∷ c)) ≡ k ∷ d) × (last_goes_to (k ∷ d) ≡ last_goes_to (j ∷ c))
    go r true = r
    go r false = (i, r.0 ∷ r.1, ap (λ z. i ∷ z) r.2, r.3)

stays_to : (mark : ℕ → Bool) (c : List Instr) → ((p : ℕ) → mark p ≡ true → suc p < length c) → last_goes_to (stays mark 0 c) ≡ last_goes_to c
stays_to mark [] h = refl
stays_to mark (i ∷ c) h = let r = last_stays mark 0 i c (λ p m. let z = h p m in omega arith) in ap last_goes_to r.2 ∙ r.3

owns_to : (S : List Instr) (mark : ℕ → Bool) (new_reg : ℕ → ℕ) (ws : List ℕ) (c : List Instr) → last_goes_to (owns S mark new_reg ws c) ≡ last_goes_to c
owns_to S mark new_reg ws [] = refl
owns_to S mark new_reg ws (i ∷ []) = refl
owns_to S mark new_reg ws (i ∷ j ∷ c) = owns_to S mark new_reg (i.writes ++ ws) (j ∷ c)

goes_nowhere : (S : List Instr) (mark : ℕ → Bool) (new_reg : ℕ → ℕ) (q : ℕ) (c : List Instr) → ((p : ℕ) → p < length c → mark (q + p) ≡ true → (get_or c p no_instr).goes_to ≡ [])
    → (i : Instr) → In i (goes S mark new_reg q c) → i.goes_to ≡ []
goes_nowhere S mark new_reg q [] h i g = absurd g
goes_nowhere S mark new_reg q (j ∷ c) h i g =
    go (λ z. goes_nowhere S mark new_reg (suc q) c (λ p k m. h (suc p) (omega arith) (subst (λ y. mark y ≡ true) (omega arith) m)) i z) (mark q) refl g
  where
    go : (In i (goes S mark new_reg (suc q) c) → i.goes_to ≡ []) → (b : Bool) → mark q ≡ b
        → In i (cond b (with_registers (map (λ (r : ℕ). new_name mark new_reg (defined_by S q r) r) j.reads) (map (λ (r : ℕ). new_reg q) j.writes) j ∷ goes S mark new_reg (suc q) c) (goes S mark new_reg (suc q) c))
        → i.goes_to ≡ []
    go rec true m (inl e) = ap (λ z. z.goes_to) e ∙ h 0 (omega arith) (subst (λ y. mark y ≡ true) (omega arith) m)
    go rec true m (inr z) = rec z
    go rec false m z = rec z

target_to : (c T O : List Instr) → ((i : Instr) → In i c → i.goes_to ≡ []) → last_goes_to O ≡ last_goes_to T → (T ≡ [] → O ≡ []) → last_goes_to (c ++ O) ≡ last_goes_to T
target_to c T [] h e z = last_none c h ∙ e
target_to c T (o ∷ O) h e z = last_append c o O ∙ e

body_last : (c : List Instr) (p : ℕ) → p < length (without_last c) → suc p < length c
body_last [] p h = absurd (omega arith)
body_last (i ∷ []) p h = absurd (omega arith)
body_last (i ∷ j ∷ c) zero h = omega arith
body_last (i ∷ j ∷ c) (suc p) h = let z = body_last (j ∷ c) p (omega arith) in omega arith

-- the shape of a round alone keeps the successors
pub shape_succs : (P P' : Prog) (x t : ℕ) (S : List Instr) (mark : ℕ → Bool) (new_reg : ℕ → ℕ) → P' x ≡ stays mark 0 (P x)
    → P' t ≡ goes S mark new_reg 0 (P x) ++ owns S mark new_reg [] (P t)
    → ((b : ℕ) → (b ≡ x → ⊥) → (b ≡ t → ⊥) → P' b ≡ P b) → ((p : ℕ) → mark p ≡ true → p < length (without_last (P x))) → ((p : ℕ) → mark p ≡ true → (instr_at P x p).goes_to ≡ [])
    → (b : ℕ) → succs P' b ≡ succs P b
shape_succs P P' x t S mark new_reg ax at ao inside no_branch b = ⊎_elim
    (λ e. subst (λ z. succs P' z ≡ succs P z) (sym e) (ap last_goes_to ax ∙ stays_to mark (P x) (λ p m. body_last (P x) p (inside p m))))
    (λ nx. ⊎_elim
    (λ e. subst (λ z. succs P' z ≡ succs P z) (sym e) (ap last_goes_to at
    ∙ target_to (goes S mark new_reg 0 (P x)) (P t) (owns S mark new_reg [] (P t))
    (goes_nowhere S mark new_reg 0 (P x) (λ p h m. no_branch p (subst (λ y. mark y ≡ true) (omega arith) m)))
    (owns_to S mark new_reg [] (P t)) (λ z. ap (owns S mark new_reg []) z)))
    (λ nt. ap last_goes_to (ao b nx nt))
    (eq? b t))
    (eq? b x)

same_succs : (R : ℕ) (P P' : Prog) → FullRound R P P' → (b : ℕ) → succs P' b ≡ succs P b
same_succs R P P' fu = shape_succs P P' fu.is_round.x fu.is_round.t (straight_code P fu.is_round.x fu.is_round.chain) fu.is_round.mark fu.is_round.new_reg
    fu.is_round.after_x fu.is_round.after_t fu.is_round.after_other fu.is_round.legal.inside fu.no_branch

pub sunk_succs : (P Q : Prog) → Sunk P Q → (b : ℕ) → succs Q b ≡ succs P b
sunk_succs P Q none_yet b = refl
sunk_succs P Q (again {Q = M} R s fu) b = same_succs R M Q fu b ∙ sunk_succs P M s b

-- ---- walks

goes_same : (P Q : Prog) → ((b : ℕ) → succs P b ≡ succs Q b) → (b : ℕ) (ws : List ℕ) → GoesOn P b ws → GoesOn Q b ws
goes_same P Q e b [] g = tt
goes_same P Q e b (c ∷ ws) g = (subst (In c) (e b) g.0, goes_same P Q e c ws g.1)

pub walk_same : (P Q : Prog) → ((b : ℕ) → succs P b ≡ succs Q b) → (ws : List ℕ) → IsWalk P ws → IsWalk Q ws
walk_same P Q e [] g = tt
walk_same P Q e (b ∷ ws) g = (g.0, goes_same P Q e b ws g.1)

goes_at : (P : Prog) (b : ℕ) (ws : List ℕ) → GoesOn P b ws → (n : ℕ) → suc n < length (b ∷ ws) → In (block_at (b ∷ ws) (suc n)) (succs P (block_at (b ∷ ws) n))
goes_at P b [] g n h = absurd (omega arith)
goes_at P b (c ∷ ws) g zero h = g.0
goes_at P b (c ∷ ws) g (suc n) h = goes_at P c ws g.1 n (omega arith)

-- a walk as a list is a walk by places
pub list_walk : (P : Prog) (ws : List ℕ) → IsWalk P ws → Walk (succs P) (block_at ws) (length ws)
list_walk P [] g = record { starts = refl; goes = λ n h. absurd (omega arith) }
list_walk P (b ∷ ws) g = record { starts = g.0; goes = λ n h. goes_at P b ws g.1 n h }
