-- The claim of document 01 along one walk, from rounds of the scan: what Compose says of names, said of the plain machine's runs. Whole uses it
-- for each walk. Assumes nothing.
use mathlib.Core.Path.{◌≡◌, refl, sym, ◌∙◌, ap, ap₂, subst}
use mathlib.Core.List.{List, [], ◌∷◌, map}
use mathlib.Core.Logic.{inl, inr}
use Prim.Native.Nat.{ℕ, ◌≤◌, ◌<◌}
use native.Mathlib.Omega.{arith}
use lib.ListN.{length}
use Rattle.words.specs.Lists.{In}
use Rattle.words.proofs.Members.{in_get_or, in_index}
use Rattle.walk.specs.Machine.{Prog, no_instr, instr_at, LastWrite, none, write, takes, latest_visit, Walk}
use Rattle.walk.specs.Demand.{OwnPlaces, RunsMatch, WritesMatch, Pointwise, Claim}
use Rattle.walk.proofs.Named.{WantedAlong}
use Rattle.walk.proofs.Scan.{ScanRounds}
use Rattle.walk.proofs.Compose.{stop, OldBlockLeads, latest_max, back_all, latest_back, rounds_wanted}
use Rattle.walk.proofs.Plain.{name_of, named_takes, own-wanted_along}
use Rattle.walk.proofs.Real.{Real, real_takes}

-- no two places after have one old place
abbrev pub OldPlacesUnique : Prog → Type 0
OldPlacesUnique Q =
    (b j c k : ℕ) → j < length (Q b) → k < length (Q c) → (instr_at Q b j).old_block ≡ (instr_at Q c k).old_block → (instr_at Q b j).old_index ≡ (instr_at Q c k).old_index → (b ≡ c) × (j ≡ k)

-- a name is the run that it matches
name_match : (Q : Prog) (w : ℕ → ℕ) (x y : LastWrite) → name_of Q w x ≡ y → WritesMatch Q w x y
name_match Q w none none e = tt
name_match Q w none (write m i z) e = let q : ◌≡◌ {A = ℕ} 0 1 = cc in omega arith
name_match Q w (write n j s) none e = let q : ◌≡◌ {A = ℕ} 0 1 = cc in omega arith
name_match Q w (write n j s) (write m i z) e = ((cc, cc), cc)

name_each : (Q : Prog) (w : ℕ → ℕ) (xs ys : List LastWrite) → map (name_of Q w) xs ≡ ys → Pointwise (WritesMatch Q w) xs ys
name_each Q w [] [] e = tt
name_each Q w [] (y ∷ ys) e = let q : ◌≡◌ {A = ℕ} 0 1 = cc in omega arith
name_each Q w (x ∷ xs) [] e = let q : ◌≡◌ {A = ℕ} 0 1 = cc in omega arith
name_each Q w (x ∷ xs) (y ∷ ys) e = (name_match Q w x y (cc), name_each Q w xs ys (cc))

-- what stands on the right has a partner on the left
each_right : (M : LastWrite → LastWrite → Type 0) (xs ys : List LastWrite) → Pointwise M xs ys → (y : LastWrite) → In y ys → (x : LastWrite) × In x xs × M x y
each_right M [] [] e y h = absurd h
each_right M [] (z ∷ ys) e y h = absurd e
each_right M (x ∷ xs) [] e y h = absurd h
each_right M (x ∷ xs) (z ∷ ys) e y (inl q) = (x, inl refl, subst (M x) (sym q) e.0)
each_right M (x ∷ xs) (z ∷ ys) e y (inr h) = let r = each_right M xs ys e.1 y h in (r.0, inr r.1, r.2)

-- the claim of document 01 along one walk, from the pieces
pub claim : (succ : ℕ → List ℕ) (P Q : Prog) → ScanRounds succ P Q → OwnPlaces P → OldPlacesUnique Q → (w : ℕ → ℕ) (N : ℕ) → Walk succ w N → Claim P Q w N
claim succ P Q rs id un w N wk = record { there = there; reads = reads; single = single; matched = matched }
  where
    own_place : OldBlockLeads succ P
    own_place b i q = let k = in_index no_instr i (P b) q in (0, stop (sym (ap (λ z. z.old_block) k.2) ∙ (id b k.0 k.1).0))

    all : OldBlockLeads succ Q × WantedAlong (takes P w) Q w N
    all = rounds_wanted (takes P w) succ P Q rs w N wk own_place (own-wanted_along P w id N)

    there : (n j : ℕ) → n < N → j < length (Q (w n)) →
        (latest_visit w n (instr_at Q (w n) j).old_block ≤ n) × (w (latest_visit w n (instr_at Q (w n) j).old_block) ≡ (instr_at Q (w n) j).old_block)
        × ((k : ℕ) → k ≤ n → w k ≡ (instr_at Q (w n) j).old_block → k ≤ latest_visit w n (instr_at Q (w n) j).old_block)
    there n j h q =
        let i = instr_at Q (w n) j in
        let p = all.0 (w n) (instr_at Q (w n) j) (in_get_or no_instr (Q (w n)) j q) in
        let b = back_all succ w N wk (instr_at Q (w n) j).old_block (w n) p.0 n h refl p.1 in
        let z = b.1 in
        let l = latest_max w n (instr_at Q (w n) j).old_block b.0 (omega arith) b.2 in
        (l.2, l.0, λ k g e. (latest_max w n (instr_at Q (w n) j).old_block k g e).1)

    reads : (n j m i : ℕ) → n < N → j < length (Q (w n)) → RunsMatch Q w n j m i → Pointwise (WritesMatch Q w) (takes Q w n j) (takes P w m i)
    reads n j m i h q e = name_each Q w (takes Q w n j) (takes P w m i) (named_takes Q w (takes P w) N all.1 n j h q ∙ ap₂ (takes P w) e.0 e.1)

    single : (n j n' j' m i : ℕ) → n < N → n' < N → j < length (Q (w n)) → j' < length (Q (w n'))
        → RunsMatch Q w n j m i → RunsMatch Q w n' j' m i → (n ≡ n') × (j ≡ j')
    single n j n' j' m i h h' q q' e e' =
        let same_block : (instr_at Q (w n) j).old_block ≡ (instr_at Q (w n') j').old_block = sym (there n j h q).1 ∙ ap w (e.0 ∙ sym e'.0) ∙ (there n' j' h' q').1 in
        let u = un (w n) j (w n') j' q q' same_block (e.1 ∙ sym e'.1) in
        let p = all.0 (w n) (instr_at Q (w n) j) (in_get_or no_instr (Q (w n)) j q) in
        let b = latest_back succ w N wk (instr_at Q (w n) j).old_block (w n) p.0 n h refl p.1 in
        let b' = latest_back succ w N wk (instr_at Q (w n) j).old_block (w n) p.0 n' h' (sym u.0) p.1 in
        let f = e.0 in
        let f' : latest_visit w n' (instr_at Q (w n) j).old_block ≡ m = ap (latest_visit w n') same_block ∙ e'.0 in
        (omega arith, u.1)

    matched : (n j m i : ℕ) → n < N → j < length (Q (w n)) → RunsMatch Q w n j m i
        → (m' i' s : ℕ) → In (write m' i' s) (takes P w m i)
        → (n' : ℕ) × (j' : ℕ) × (n' < N) × (j' < length (Q (w n'))) × RunsMatch Q w n' j' m' i'
    matched n j m i h q e m' i' s g =
        let r = each_right (WritesMatch Q w) (takes Q w n j) (takes P w m i) (reads n j m i h q e) (write m' i' s) g in
        go r.0 (real_takes Q w N n j h r.0 r.1) r.2
      where
        go : (x : LastWrite) → Real Q w N x → WritesMatch Q w x (write m' i' s) → (n' : ℕ) × (j' : ℕ) × (n' < N) × (j' < length (Q (w n'))) × RunsMatch Q w n' j' m' i'
        go none a b = absurd b
        go (write n' j' z) a b = (n', j', a.0, a.1, b.0)
