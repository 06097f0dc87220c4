-- Where an instruction after one round comes from, and that it is the same but for registers (Compose); so through any number of rounds
-- (Whole, for `old` of demand 3). Assumes nothing.
use mathlib.Core.Path.{◌≡◌, refl, sym, ◌∙◌, ap, subst}
use mathlib.Core.Bool.{Bool}
use mathlib.Core.List.{List, [], ◌∷◌, map}
use mathlib.Core.Logic.{◌⊎◌, inl, inr, ⊎_elim}
use Prim.Native.Nat.{ℕ}
use lib.ListN.{length, length-map}
use Rattle.words.specs.Lists.{In}
use Rattle.words.proofs.Bools.{eq?}
use Rattle.words.proofs.Members.{in_split}
use Rattle.walk.specs.Machine.{Instr, with_registers, Prog}
use Rattle.walk.specs.Demand.{Alike}
use Rattle.walk.proofs.Scan.{Marked, kept, moved, Locations, after_writes, after_moved, scan, after_chain, live_in_place, renamed, all_of, kept_of, moved_of, rename_own, ScanRound, ScanRounds, begin, round}

-- what no round changes
alike_self : (i : Instr) → Alike i i
alike_self i = record { same_old_block = refl; same_old_index = refl; same_what = refl; same_goes_to = refl; same_slots = refl; as_many_reads = refl; as_many_writes = refl }

alike_trans : (i j k : Instr) → Alike i j → Alike j k → Alike i k
alike_trans i j k a b = record {
  same_old_block = a.same_old_block ∙ b.same_old_block;
  same_old_index = a.same_old_index ∙ b.same_old_index;
  same_what = a.same_what ∙ b.same_what;
  same_goes_to = a.same_goes_to ∙ b.same_goes_to;
  same_slots = a.same_slots ∙ b.same_slots;
  as_many_reads = a.as_many_reads ∙ b.as_many_reads;
  as_many_writes = a.as_many_writes ∙ b.as_many_writes;
}

-- with other registers, as many as before
alike_with : (rs ws : List ℕ) (j : Instr) → length rs ≡ length j.reads → length ws ≡ length j.writes → Alike (with_registers rs ws j) j
alike_with rs ws j p q = record { same_old_block = refl; same_old_index = refl; same_what = refl; same_goes_to = refl; same_slots = refl; as_many_reads = p; as_many_writes = q }

kept_of_alike : (X : List Marked) (i : Instr) → In i (kept_of X) → (j : Instr) × In j (all_of X) × Alike i j
kept_of_alike [] i h = absurd h
kept_of_alike (kept j ∷ X) i (inl e) = (j, inl refl, subst (λ z. Alike z j) (sym e) (alike_self j))
kept_of_alike (kept j ∷ X) i (inr h) = let r = kept_of_alike X i h in (r.0, inr r.1, r.2)
kept_of_alike (moved f j ∷ X) i h = let r = kept_of_alike X i h in (r.0, inr r.1, r.2)

moved_of_alike : (X : List Marked) (a : Locations) (i : Instr) → In i (moved_of a X) → (j : Instr) × In j (all_of X) × Alike i j
moved_of_alike [] a i h = absurd h
moved_of_alike (kept j ∷ X) a i h = let r = moved_of_alike X (after_writes a j.writes) i h in (r.0, inr r.1, r.2)
moved_of_alike (moved f j ∷ X) a i (inl e) =
    (j, inl refl, subst (λ z. Alike z j) (sym e) (alike_with (map (renamed a) j.reads) (map (λ (r : ℕ). f) j.writes) j (length-map j.reads (renamed a)) (length-map j.writes (λ (r : ℕ). f))))
moved_of_alike (moved f j ∷ X) a i (inr h) = let r = moved_of_alike X (after_moved a f j.writes) i h in (r.0, inr r.1, r.2)

rename_own_alike : (c : List Instr) (a : Locations) (i : Instr) → In i (rename_own a c) → (j : Instr) × In j c × Alike i j
rename_own_alike [] a i h = absurd h
rename_own_alike (j ∷ c) a i (inl e) = (j, inl refl, subst (λ z. Alike z j) (sym e) (alike_with (map (renamed a) j.reads) j.writes j (length-map j.reads (renamed a)) refl))
rename_own_alike (j ∷ c) a i (inr h) = let r = rename_own_alike c (after_writes a j.writes) i h in (r.0, inr r.1, r.2)

-- an instruction of the program after comes from one of the same block or, at the target, from one of x
pub came_from : (R : ℕ) (succ : ℕ → List ℕ) (live : ℕ → ℕ → Bool) (P P' : Prog) (x t : ℕ) (chain : List ℕ) (X : List Marked)
    → ScanRound R succ live P P' x t chain X → (b : ℕ) (i : Instr) → In i (P' b) → (j : Instr) × Alike i j × (In j (P b) ⊎ ((b ≡ t) × In j (P x)))
came_from R succ live P P' x t chain X rnd b i q = ⊎_elim
    (λ e. let r = kept_of_alike X i (subst (In i) (ap P' e ∙ rnd.new_x) q) in (r.0, r.2, inl (subst (In r.0) (sym (ap P e ∙ rnd.code_x)) r.1)))
    (λ nx. ⊎_elim
    (λ e. ⊎_elim
    (λ h. let r = moved_of_alike X (live_in_place (live x)) i h in (r.0, r.2, inr (e, subst (In r.0) (sym rnd.code_x) r.1)))
    (λ h. let r = rename_own_alike (P t) (after_chain P (scan (live_in_place (live x)) X) chain) i h in (r.0, r.2, inl (subst (λ z. In r.0 (P z)) (sym e) r.1)))
    (in_split i (moved_of (live_in_place (live x)) X) (rename_own (after_chain P (scan (live_in_place (live x)) X) chain) (P t)) (subst (In i) (ap P' e ∙ rnd.new_t) q)))
    (λ nt. (i, alike_self i, inl (subst (In i) (rnd.new_other b nx nt) q)))
    (eq? b t))
    (eq? b x)

-- so it does through any number of rounds
pub alike_rounds : (succ : ℕ → List ℕ) (P Q : Prog) → ScanRounds succ P Q → (b : ℕ) (i : Instr) → In i (Q b) → (c : ℕ) × (j : Instr) × In j (P c) × Alike i j
alike_rounds succ P Q begin b i q = (b, i, q, alike_self i)
alike_rounds succ P Q (round {Q = M} R live x t chain X rs rnd li) b i q =
    let r = came_from R succ live M Q x t chain X rnd b i q in
    let h : (c : ℕ) × In r.0 (M c) = ⊎_elim (λ z. (b, z)) (λ z. (x, z.1)) r.2 in
    let s = alike_rounds succ P M rs h.0 r.0 h.1 in
    (s.0, s.1, s.2, alike_trans i r.0 s.1 r.1 s.3)
