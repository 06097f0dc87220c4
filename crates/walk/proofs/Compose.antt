-- Any number of rounds. Names of runs stay through a round, since the latest visit to an old block is found by going back along sole
-- predecessors; with OneRound this carries what is wanted through all rounds. Claim starts from `rounds_wanted`. Assumes nothing.
use mathlib.Core.Path.{◌≡◌, refl, sym, ◌∙◌, ap, subst}
use mathlib.Core.Bool.{Bool}
use mathlib.Core.List.{List, [], ◌∷◌, ◌++◌}
use mathlib.Core.Logic.{⊎_elim}
use Prim.Native.Nat.{ℕ, zero, suc, ◌+◌, ◌≤◌, ◌<◌}
use native.Mathlib.Omega.{arith}
use lib.Dec.{eqb, eqb→eq}
use lib.ListN.{length}
use Rattle.words.specs.Lists.{In}
use Rattle.words.proofs.Bools.{eq?}
use Rattle.walk.specs.Machine.{Instr, Prog, LastWrite, latest_visit, Walk}
use Rattle.walk.specs.Rules.{Sole, Linked}
use Rattle.walk.proofs.Facts.{eq→eqb, cond_yes, cond_no}
use Rattle.walk.proofs.Named.{WantedAlong}
use Rattle.walk.proofs.Scan.{Marked, ScanRound, ScanRounds, begin, round}
use Rattle.walk.proofs.OneRound.{one_round}
use Rattle.walk.proofs.Alike.{came_from}

-- from b to c by d steps, each to a block that the one before alone leads to
pub data SolePath (succ : ℕ → List ℕ) (b : ℕ) : ℕ → ℕ → Type 0 where
  stop : {c : ℕ} → b ≡ c → SolePath succ b c zero
  more : {p c d : ℕ} → SolePath succ b p d → Sole succ p c → SolePath succ b c (suc d)

-- every instruction's old block leads to the block where it stands
abbrev pub OldBlockLeads : (ℕ → List ℕ) → Prog → Type 0
OldBlockLeads succ P = (b : ℕ) (i : Instr) → In i (P b) → (d : ℕ) × SolePath succ i.old_block b d

-- ---- the latest visit

pub latest_here : (w : ℕ → ℕ) (n b : ℕ) → w n ≡ b → latest_visit w n b ≡ n
unfolding latest_visit
latest_here w zero b e = refl
latest_here w (suc n) b e = cond_yes (eqb (w (suc n)) b) (suc n) (latest_visit w n b) (eq→eqb (w (suc n)) b e)

latest_past : (w : ℕ → ℕ) (n b : ℕ) → (w (suc n) ≡ b → ⊥) → latest_visit w (suc n) b ≡ latest_visit w n b
unfolding latest_visit
latest_past w n b h = cond_no (eqb (w (suc n)) b) (suc n) (latest_visit w n b) (λ t. h (eqb→eq (w (suc n)) b t))

-- it is the greatest
pub latest_max : (w : ℕ → ℕ) (n b k : ℕ) → k ≤ n → w k ≡ b → (w (latest_visit w n b) ≡ b) × (k ≤ latest_visit w n b) × (latest_visit w n b ≤ n)
latest_max w zero b k h e =
    let z : k ≡ 0 = omega arith in
    let f : w 0 ≡ b = ap w (sym z) ∙ e in
    let l = latest_here w zero b f in
    (ap w l ∙ f, omega arith, omega arith)
latest_max w (suc n) b k h e = ⊎_elim
    (λ f. let l = latest_here w (suc n) b f in (ap w l ∙ f, omega arith, omega arith))
    (λ ne. let l = latest_past w n b ne in
    let r = latest_max w n b k (le ne) e in
    (ap w l ∙ r.0, (let z = r.1 in omega arith), (let z = r.2 in omega arith)))
    (eq? (w (suc n)) b)
  where
    le : (w (suc n) ≡ b → ⊥) → k ≤ n
    le ne = ⊎_elim (λ q. absurd (ne (ap w (sym q) ∙ e))) (λ q. omega arith) (eq? k (suc n))

-- ---- going back along sole predecessors

module _ (succ : ℕ → List ℕ) (w : ℕ → ℕ) (N : ℕ) (wk : Walk succ w N) where
  -- one step back
  back_one : (p c n : ℕ) → n < N → w n ≡ c → Sole succ p c → (k : ℕ) × (n ≡ suc k) × (w k ≡ p)
  back_one p c zero h e s = absurd (s.nonzero (sym e ∙ wk.starts))
  back_one p c (suc n) h e s = (n, refl, s.only (w n) (subst (λ z. In z (succ (w n))) e (wk.goes n h)))

  -- all the way back
  pub back_all : (b c d n : ℕ) → n < N → w n ≡ c → SolePath succ b c d → (k : ℕ) × (n ≡ k + d) × (w k ≡ b)
  back_all b c zero n h e (stop q) = (n, omega arith, e ∙ sym q)
  back_all b c (suc d) n h e (more {p = p} q s) =
      let o = back_one p c n h e s in
      let r = back_all b p d o.0 (let z = o.1 in omega arith) o.2 q in
      (r.0, (let y = o.1 in let z = r.1 in omega arith), r.2)

  -- a walk has a first place, so no block leads back to itself
  no_cycle : (f b d n : ℕ) → n < f → n < N → w n ≡ b → SolePath succ b b (suc d) → ⊥
  no_cycle zero b d n h l e q = omega arith
  no_cycle (suc f) b d n h l e q =
      let r = back_all b b (suc d) n l e q in
      no_cycle f b d r.0 (let z = r.1 in omega arith) (let z = r.1 in omega arith) r.2 q

  -- the latest visit to the block at the path's other end
  pub latest_back : (b c d n : ℕ) → n < N → w n ≡ c → SolePath succ b c d → n ≡ latest_visit w n b + d
  latest_back b c zero n h e (stop q) = let z = latest_here w n b (e ∙ sym q) in omega arith
  latest_back b c (suc d) n h e (more {p = p} q s) =
      let o = back_one p c n h e s in
      let y = o.1 in
      let r = latest_back b p d o.0 (omega arith) o.2 q in
      let z : latest_visit w n b ≡ latest_visit w o.0 b = ap (λ z. latest_visit w z b) y ∙ latest_past w o.0 b
      (λ g. no_cycle (suc n) b d n (omega arith) h (ap w y ∙ g) (subst (λ v. SolePath succ b v (suc d)) (sym e ∙ ap w y ∙ g) (more q s))) in
      omega arith

-- ---- rounds

-- a path, and then the chain to the target
pub along : (succ : ℕ → List ℕ) (b p : ℕ) (cs : List ℕ) (t d : ℕ) → SolePath succ b p d → Linked succ p (cs ++ t ∷ []) → (g : ℕ) × (g ≡ d + suc (length cs)) × SolePath succ b t g
along succ b p [] t d q l = (suc d, omega arith, more q l.0)
along succ b p (c ∷ cs) t d q l =
    let r = along succ b c cs t (suc d) (more q l.0) l.1 in
    (r.0, (let z = r.1 in omega arith), r.2)

-- members keep their names: at the target the latest visit to an old block is the one that x saw
names_kept : (succ : ℕ → List ℕ) (P : Prog) (x t : ℕ) (chain : List ℕ) (w : ℕ → ℕ) (N : ℕ) → Walk succ w N → OldBlockLeads succ P → Linked succ x (chain ++ t ∷ [])
    → (m n : ℕ) → w m ≡ x → w n ≡ t → n ≡ suc (m + length chain) → n < N → (i : Instr) → In i (P x) → latest_visit w n i.old_block ≡ latest_visit w m i.old_block
names_kept succ P x t chain w N wk pl li m n ex et en h i q =
    let b = pl x i q in
    let a = along succ i.old_block x chain t b.0 b.1 li in
    let u = latest_back succ w N wk i.old_block x b.0 m (omega arith) ex b.1 in
    let v = latest_back succ w N wk i.old_block t a.0 n h et a.2 in
    let g = a.1 in
    omega arith

-- after a round, too, each old block leads to where its instructions stand
leads_round : (R : ℕ) (succ : ℕ → List ℕ) (live : ℕ → ℕ → Bool) (P P' : Prog) (x t : ℕ) (chain : List ℕ) (X : List Marked)
    → ScanRound R succ live P P' x t chain X → Linked succ x (chain ++ t ∷ []) → OldBlockLeads succ P → OldBlockLeads succ P'
leads_round R succ live P P' x t chain X rnd li pl b i q =
    let r = came_from R succ live P P' x t chain X rnd b i q in
    let p : (d : ℕ) × SolePath succ r.0.old_block b d = ⊎_elim
    (λ z. pl b r.0 z)
    (λ z. let v = pl x r.0 z.1 in
    let a = along succ r.0.old_block x chain t v.0 v.1 li in
    (a.0, subst (λ y. SolePath succ r.0.old_block y a.0) (sym z.0) a.2))
    r.2 in
    (p.0, subst (λ z. SolePath succ z b p.0) (sym r.1.same_old_block) p.1)

-- any number of rounds: every run takes what its name took
pub rounds_wanted : (want : ℕ → ℕ → List LastWrite) (succ : ℕ → List ℕ) (P Q : Prog) → ScanRounds succ P Q → (w : ℕ → ℕ) (N : ℕ) → Walk succ w N
    → OldBlockLeads succ P → WantedAlong want P w N → OldBlockLeads succ Q × WantedAlong want Q w N
rounds_wanted want succ P Q begin w N wk pl gd = (pl, gd)
rounds_wanted want succ P Q (round {Q = M} R live x t chain X rs rnd li) w N wk pl gd =
    let r = rounds_wanted want succ P M rs w N wk pl gd in (
      leads_round R succ live M Q x t chain X rnd li r.0,
      one_round want R succ live M Q x t chain X rnd w N wk r.1 (names_kept succ M x t chain w N wk r.0 li),
    )
