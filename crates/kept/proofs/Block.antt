-- A picture's blocks as the walk's: successors, liveness, registers. Assumes nothing.
use mathlib.Core.Path.{◌≡◌, refl, sym, ap, ap₂, ◌∙◌, subst, fun_ext}
use mathlib.Core.Logic.{inl, inr, ⊎_elim}
use mathlib.Core.Bool.{Bool, true, false, not, ◌&&◌, ◌||◌, or-true}
use mathlib.Core.List.{List, [], ◌∷◌, map}
use Prim.Native.Nat.{ℕ, zero, suc, ◌+◌, ◌-◌, ◌≤◌, ◌<◌}
use native.Mathlib.Nat.{add-zero, suc-add, add-suc}
use native.Mathlib.Omega.{arith}
use lib.Dec.{T, eqb, ltb, ltb→lt, lt→ltb}
use Rattle.words.specs.Lists.{range, any, mem, In}
use Rattle.words.proofs.Bools.{T_true, true_T, lt?}
use Rattle.words.proofs.Members.{in_left, in_right, in_map, mem_in, in_mem, not_in_mem, any_in}
use Rattle.model.specs.Picture.{Picture, Inst, inst, reads, writes, nblocks, starts, ends, size, places, code, End, goes, stops, end_of, ending, end_succs}
use Rattle.model.specs.Picture as Pic
use Rattle.model.specs.Live.{read_first, written, live_in}
use Rattle.laws.proofs.Accepted.{Accepted, Admitted}
use Rattle.laws.proofs.Blocks.{places_past, succs_past, last_place}
use Rattle.laws.proofs.Sizes.{admitted_at, admitted_in}
use Rattle.laws.proofs.Admitted.{reads_low, writes_low, br_quiet, ends_goes}
use Rattle.laws.proofs.Liveness.{live_solves, live_least}
use Rattle.walk.specs.Machine.{Instr}
use Rattle.walk.specs.Rules.{written_by, Exposed, LiveSolution, RegistersBelow, LastQuiet}
use Rattle.walk.specs.Demand.{last_goes_to, succs}
use Rattle.kept.proofs.Program.{Spot, placed, prog}

module _ (was : ℕ → Spot) (P : Picture) where
  abbrev pub F : ℕ → Instr
  F = placed was P

  -- ---- successors

  last_range : (s n : ℕ) → last_goes_to (map F (range s (suc n))) ≡ (F (s + n)).goes_to
  last_range s zero = ap (λ (k : ℕ). (F k).goes_to) (sym (add-zero s))
  last_range s (suc n) = last_range (suc s) n ∙ ap (λ (k : ℕ). (F k).goes_to) (suc-add s n ∙ sym (add-suc s n))

  pub succs_same : (b : ℕ) → succs (prog was P) b ≡ Pic.succs P b
  succs_same b = go (size P b) refl
    where
      go : (n : ℕ) → size P b ≡ n → succs (prog was P) b ≡ Pic.succs P b
      go zero e =
          ap (λ (k : ℕ). last_goes_to (map F (range (starts P b) k))) e
          ∙ sym (ap (λ (c : Bool). end_succs P (elim c as (λ z. End) [ true ↦ stops | false ↦ end_of (inst P.recs (ends P b - 1)) ])) (ap (λ (k : ℕ). eqb k 0) e))
      go (suc n) e =
          ap (λ (k : ℕ). last_goes_to (map F (range (starts P b) k))) e ∙ last_range (starts P b) n
          ∙ ap (λ (k : ℕ). end_succs P (end_of (inst P.recs k))) (near (starts P b) (ends P b) n e)
          ∙ sym (ap (λ (c : Bool). end_succs P (elim c as (λ z. End) [ true ↦ stops | false ↦ end_of (inst P.recs (ends P b - 1)) ])) (ap (λ (k : ℕ). eqb k 0) e ∙ not_zero n))
        where
          near : (s e n : ℕ) → e - s ≡ suc n → s + n ≡ e - 1
          near s e n q = omega arith

          not_zero : (n : ℕ) → eqb (suc n) 0 ≡ false
          not_zero n = lib.Dec.eqb-suc-zero n

  pub succs_are : succs (prog was P) ≡ Pic.succs P
  succs_are = fun_ext succs_same

  -- ---- liveness

  exposed_read : (r : ℕ) (ps : List ℕ) → Exposed r (map F ps) → read_first P.ops r (map (inst P.recs) ps) ≡ true
  exposed_read r [] x = absurd x
  exposed_read r (p ∷ ps) (inl i) = ap (λ (b : Bool). b || (not (mem r (writes (inst P.recs p))) && read_first P.ops r (map (inst P.recs) ps))) (in_mem r (reads P.ops (inst P.recs p)) i)
  exposed_read r (p ∷ ps) (inr x) =
      ap₂ (λ (b c : Bool). mem r (reads P.ops (inst P.recs p)) || (not b && c)) (not_in_mem r (writes (inst P.recs p)) x.0) (exposed_read r ps x.1)
      ∙ or-true (mem r (reads P.ops (inst P.recs p)))

  pub not_written : (r : ℕ) (ps : List ℕ) → (In r (written_by (map F ps)) → ⊥) → written r (map (inst P.recs) ps) ≡ false
  not_written r [] n = refl
  not_written r (p ∷ ps) n =
      ap₂ ◌||◌ (not_in_mem r (writes (inst P.recs p)) (λ i. n (in_left r (writes (inst P.recs p)) (written_by (map F ps)) i)))
      (not_written r ps (λ i. n (in_right r (writes (inst P.recs p)) (written_by (map F ps)) i)))

  -- live into a successor
  pub live_next : (b s r : ℕ) → In s (Pic.succs P b) → live_in P s r ≡ true → any (λ s. live_in P s r) (Pic.succs P b) ≡ true
  live_next b s r i e = T_true (any (λ s. live_in P s r) (Pic.succs P b)) (any_in (λ s. live_in P s r) s (Pic.succs P b) i (true_T (live_in P s r) e))

  read_low : Accepted P → (r b : ℕ) → T (read_first P.ops r (code P b)) → r < P.regs
  read_low good r b t = go (places P b) (λ i j. admitted_in P good b i j) t
    where
      go : (ps : List ℕ) → ((i : Inst) → In i (map (inst P.recs) ps) → Admitted P i) → T (read_first P.ops r (map (inst P.recs) ps)) → r < P.regs
      go [] h t = absurd t
      go (p ∷ ps) h t = at (go ps (λ i j. h i (inr j))) (mem r (reads P.ops (inst P.recs p))) (not (mem r (writes (inst P.recs p)))) refl t
        where
          at : (T (read_first P.ops r (map (inst P.recs) ps)) → r < P.regs) → (a c : Bool) → mem r (reads P.ops (inst P.recs p)) ≡ a
              → T (a || (c && read_first P.ops r (map (inst P.recs) ps))) → r < P.regs
          at k true c e t = reads_low P good (inst P.recs p) (h (inst P.recs p) (inl refl)) r (mem_in r (reads P.ops (inst P.recs p)) e)
          at k false true e t = k t
          at k false false e t = absurd t

  pub live_low : Accepted P → (b r : ℕ) → live_in P b r ≡ true → r < P.regs
  live_low good b r e = ltb→lt r P.regs (live_least P r (λ c. ltb r P.regs) step b (true_T (live_in P b r) e))
    where
      const : (c : Bool) (l : List ℕ) → T (any (λ s. c) l) → T c
      const true l t = tt
      const false [] t = t
      const false (x ∷ l) t = const false l t

      step : (b : ℕ) → b < nblocks P → T (read_first P.ops r (code P b) || (not (written r (code P b)) && any (λ c. ltb r P.regs) (Pic.succs P b))) → T (ltb r P.regs)
      step b h t = at (read_first P.ops r (code P b)) (not (written r (code P b))) refl t
        where
          at : (a c : Bool) → read_first P.ops r (code P b) ≡ a → T (a || (c && any (λ c. ltb r P.regs) (Pic.succs P b))) → T (ltb r P.regs)
          at true c e t = lt→ltb r P.regs (read_low good r b (true_T (read_first P.ops r (code P b)) e))
          at false true e t = const (ltb r P.regs) (Pic.succs P b) t
          at false false e t = absurd t

  pub solves : Accepted P → LiveSolution P.regs (Pic.succs P) (prog was P) (live_in P)
  solves good = record {
    use_in = λ b r x. ⊎_elim
        (λ (h : b < nblocks P). live_solves P r b h ∙ ap (λ (c : Bool). c || (not (written r (code P b)) && any (λ s. live_in P s r) (Pic.succs P b))) (exposed_read r (places P b) x))
        (λ (h : nblocks P ≤ b). absurd (subst (λ (ps : List ℕ). Exposed r (map F ps)) (places_past P b h) x))
        (lt? b (nblocks P));
    pass = λ b s r i e n. ⊎_elim
        (λ (h : b < nblocks P). live_solves P r b h
        ∙ ap₂ (λ (c d : Bool). read_first P.ops r (code P b) || (not c && d)) (not_written r (places P b) n) (live_next b s r i e)
        ∙ or-true (read_first P.ops r (code P b)))
        (λ (h : nblocks P ≤ b). absurd (subst (In s) (succs_past P b h) i))
        (lt? b (nblocks P));
    low = live_low good;
  }

  pub below : Accepted P → RegistersBelow P.regs (prog was P)
  below good b i j =
      let z = in_map F i (places P b) j in
      let f = admitted_at P good b z.0 z.1 in
      let k = inst P.recs z.0 in
      ((λ r y. reads_low P good k f r (subst (In r) (ap (λ (y : Instr). y.reads) z.2) y)), (λ r y. writes_low P k f r (subst (In r) (ap (λ (y : Instr). y.writes) z.2) y)))

  -- ---- the last instruction of an inner block

  quiet_range : (s n : ℕ) → ((F (s + n)).reads ≡ []) × ((F (s + n)).writes ≡ []) → LastQuiet (map F (range s (suc n)))
  quiet_range s zero h = (ap (λ (k : ℕ). (F k).reads) (sym (add-zero s)) ∙ h.0, ap (λ (k : ℕ). (F k).writes) (sym (add-zero s)) ∙ h.1)
  quiet_range s (suc n) h = quiet_range (suc s) n (subst (λ (k : ℕ). ((F k).reads ≡ []) × ((F k).writes ≡ [])) (add-suc s n ∙ sym (suc-add s n)) h)

  pub last_quiet : Accepted P → (b d : ℕ) → ending P b ≡ goes d → LastQuiet (prog was P b)
  last_quiet good b d e = go (size P b) refl
    where
      go : (n : ℕ) → size P b ≡ n → LastQuiet (prog was P b)
      go zero f = subst (λ (k : ℕ). LastQuiet (map F (range (starts P b) k))) (sym f) tt
      go (suc n) f =
          let z = ends_goes P good b d e in
          subst (λ (k : ℕ). LastQuiet (map F (range (starts P b) k))) (sym f)
          (quiet_range (starts P b) n
          (subst (λ (k : ℕ). ((F k).reads ≡ []) × ((F k).writes ≡ [])) (sym (last_place P b n f).0) (br_quiet P (inst P.recs (ends P b - 1)) z.1 d z.2)))
