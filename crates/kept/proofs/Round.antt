-- A round of the pass is a round of the walk. Assumes nothing.
use mathlib.Core.Path.{◌≡◌, refl, sym, ap, ap₂, ◌∙◌, subst}
use mathlib.Core.Logic.{◌⊎◌, inl, inr}
use mathlib.Core.Bool.{Bool, true, false, not, ◌&&◌, ◌||◌, or-true}
use mathlib.Core.List.{List, [], ◌∷◌, ◌++◌, map, append_assoc}
use Prim.Native.Nat.{ℕ, suc, ◌+◌, ◌-◌, ◌≤◌, ◌<◌}
use native.Mathlib.Nat.{add-zero, zero-add}
use native.Mathlib.Omega.{arith}
use lib.ListN.{get_or, length, take, length-map}
use lib.Seq.{length-take-le}
use Rattle.words.specs.Lists.{range, member, lookup, In}
use Rattle.words.proofs.Lists.{get_or-made, get_d_map, get_or-range, length_range}
use Rattle.model.specs.Picture.{Picture, inst, starts, size, places, code, end_succs, writes}
use Rattle.model.specs.Picture as Pic
use Rattle.model.specs.Live.{live_in, live_out, written}
use Rattle.model.specs.Analyse.{Facts, Fact, analyse}
use Rattle.model.specs.Move.{Plan, chain_places, needed, needed_of, apply}
use Rattle.laws.proofs.Sizes.{regs_lent, admitted_at}
use Rattle.model.proofs.Results.{movable_writes_one}
use Rattle.laws.proofs.Admitted.{mover_stops}
use Rattle.laws.proofs.Chains.{links_inner, ends_succs, lead, lead_length}
use Rattle.laws.proofs.Moving.{Moving, found, rest, run_is, member_inside, member_is_movable, member_may}
use Rattle.laws.proofs.Ordered.{at_x}
use Rattle.laws.proofs.Applied as A
use Rattle.walk.specs.Machine.{Instr, Prog, no_instr, instr_at}
use Rattle.walk.specs.Rules.{written_by, without_last, straight_code, Quiet, Exposed, LiveSolution, Chain, last_block, Legal, NewRegisters, stays, goes, owns}
use Rattle.walk.specs.Demand.{succs, FullRound}
use Rattle.kept.proofs.Program.{Spot, placed, prog}
use Rattle.kept.proofs.Straight.{Tied}
use Rattle.kept.proofs.Lawful.{lawful}
use Rattle.kept.proofs.Fresh as Fresh
use Rattle.kept.proofs.Chained.{is_chain, last_same}
use Rattle.kept.proofs.Block.{succs_same, succs_are, solves, below, live_low, live_next, last_quiet, not_written}
use Rattle.kept.proofs.Ties.{tied, straight, body_places}
use Rattle.kept.proofs.Renames.{goes_made, stays_made, owns_made, name_behind}
use Rattle.kept.proofs.After as After

module _ (was : ℕ → Spot) (P : Picture) (G : Facts) (a : Plan) (mv : Moving P G a) where
  abbrev x : ℕ
  x = a.x

  abbrev t : ℕ
  t = a.into

  abbrev m : ℕ
  m = size P x - 1

  abbrev mark : ℕ → Bool
  mark = member a.set

  abbrev cs : List ℕ
  cs = rest P G a mv

  abbrev other : ℕ
  other = mv.choice.other

  abbrev PW : Prog
  PW = prog was P

  abbrev S : List Instr
  S = straight_code PW x cs

  -- ---- the facts are tied to the straight code

  knot : Tied a.run S
  knot = subst (λ (r : List Fact). Tied r S) (sym (run_is P G a mv)) (subst (Tied (analyse G P.ops [] (map (inst P.recs) (chain_places P (x ∷ cs))))) (sym (straight was P G x cs)) (tied was P G (chain_places P (x ∷ cs))))

  S_length : length S ≡ length (chain_places P (x ∷ cs))
  S_length = ap length (straight was P G x cs) ∙ length-map (chain_places P (x ∷ cs)) (placed was P)

  short : m ≤ length S
  short = let e = S_length in let l = lead_length P x cs in omega arith

  in_x : m ≤ size P x
  in_x = omega arith

  in_S : (p : ℕ) → p < m → get_or S p no_instr ≡ placed was P (starts P x + p)
  in_S p h =
      let l = lead P x cs p h in
      ap (λ (s : List Instr). get_or s p no_instr) (straight was P G x cs) ∙ get_d_map (placed was P) 0 no_instr (chain_places P (x ∷ cs)) p l.0 ∙ ap (placed was P) l.1

  inside : (p : ℕ) → mark p ≡ true → p < m
  inside = member_inside P G a mv

  single : (p r s : ℕ) (rs : List ℕ) → mark p ≡ true → (get_or S p no_instr).writes ≡ r ∷ s ∷ rs → ⊥
  single p r s rs k e =
      let i = inst P.recs (starts P x + p) in
      let h = inside p k in
      let z = member_is_movable P G a mv p k in
      let l = movable_writes_one G P.ops z.0 i (admitted_at P mv.ok x (starts P x + p) (at_x P G a mv p (omega arith))).kind_fits z.1 in
      let f : length (writes i) ≡ suc (suc (length rs)) = ap length (sym (ap (λ (i : Instr). i.writes) (in_S p h)) ∙ e) in
      absurd (omega arith)

  -- ---- what a result must not be in

  want : (r : ℕ) → r < P.regs → needed P t other r ≡ true → member (needed_of P t other) r ≡ true
  want r h e = get_or-made (needed P t other) false 0 P.regs r h ∙ ap (needed P t other) (zero-add r) ∙ e

  abbrev LiveU : ℕ → Type 0
  LiveU r = (s : ℕ) × In s (succs PW (last_block x cs)) × (s ≡ t → ⊥) × (live_in P s r ≡ true)

  abbrev OutT : ℕ → Type 0
  OutT r = (In r (written_by (PW t)) → ⊥) × ((s : ℕ) × In s (succs PW t) × (live_in P s r ≡ true))

  -- the chain's end goes to the target and to the other branch
  end_succs_are : succs PW (last_block x cs) ≡ mv.choice.c.t ∷ mv.choice.c.f ∷ []
  end_succs_are = succs_same was P (last_block x cs) ∙ ap (Pic.succs P) (sym (last_same x cs)) ∙ ends_succs P x mv.choice.c (found P G a mv)

  u_needed : (r : ℕ) → LiveU r → member (needed_of P t other) r ≡ true
  u_needed r z =
      want r (live_low was P mv.ok z.0 r z.3)
      (ap (λ (b : Bool). b || (live_out P t r && not (written r (code P t)))) (subst (λ (s : ℕ). live_in P s r ≡ true) (away mv.choice.sides (subst (In z.0) end_succs_are z.1)) z.3))
    where
      away : ((t ≡ mv.choice.c.t) × (other ≡ mv.choice.c.f)) ⊎ ((t ≡ mv.choice.c.f) × (other ≡ mv.choice.c.t)) → In z.0 (mv.choice.c.t ∷ mv.choice.c.f ∷ []) → z.0 ≡ other
      away (inl s) (inl e) = absurd (z.2 (e ∙ sym s.0))
      away (inl s) (inr (inl e)) = e ∙ sym s.1
      away (inl s) (inr (inr j)) = absurd j
      away (inr s) (inl e) = e ∙ sym s.1
      away (inr s) (inr (inl e)) = absurd (z.2 (e ∙ sym s.0))
      away (inr s) (inr (inr j)) = absurd j

  t_needed : (r : ℕ) → OutT r → member (needed_of P t other) r ≡ true
  t_needed r z =
      want r (live_low was P mv.ok z.1.0 r z.1.2)
      (ap₂ (λ (b d : Bool). live_in P other r || (b && not d)) (live_next was P t z.1.0 r (subst (In z.1.0) (succs_same was P t) z.1.1) z.1.2) (not_written was P r (places P t) z.0)
      ∙ or-true (live_in P other r))

  body_length : length (without_last (PW x)) ≡ m
  body_length = ap length (body_places was P G x) ∙ length-map (take m (places P x)) (placed was P) ∙ length-take-le m (places P x) (let e = length_range (starts P x) (size P x) in omega arith)

  rules : Legal S (length (without_last (PW x))) mark LiveU OutT
  rules = subst (λ (n : ℕ). Legal S n mark LiveU OutT) (sym body_length)
      (subst (λ (s : List Bool). Legal S m (member s) LiveU OutT) (sym mv.choice.set_is) (lawful a.run S knot (member (needed_of P t other)) m short LiveU OutT u_needed t_needed))

  -- ---- the new registers

  abbrev there : ℕ → Bool
  there = A.read_there P G a mv

  abbrev ts : List ℕ
  ts = take P.regs P.types

  abbrev given : List (ℕ × ℕ)
  given = A.given P G a mv

  live : LiveSolution P.regs (Pic.succs P) PW (live_in P)
  live = solves was P mv.ok

  seen : (r : ℕ) → Exposed r (PW t) → there r ≡ true
  seen r e =
      let l = live.use_in t r e in
      get_or-made (live_in P t) false 0 P.regs r (live.low t r l) ∙ ap (live_in P t) (zero-add r) ∙ l

  abbrev fr : ℕ → ℕ
  fr = Fresh.fr a.run S (PW t) knot mark m (size P x) there ts short in_x inside single seen

  new_ones : NewRegisters P.regs S (PW t) mark fr
  new_ones = subst (λ (n : ℕ). NewRegisters n S (PW t) mark fr) (length-take-le P.regs P.types (regs_lent P mv.ok)) (Fresh.fresh a.run S (PW t) knot mark m (size P x) there ts short in_x inside single seen)

  gift : (p r d : ℕ) → mark p ≡ true → In r (get_or S p no_instr).writes → lookup given p d ≡ fr p
  gift = Fresh.gift a.run S (PW t) knot mark m (size P x) there ts short in_x inside single seen

  -- ---- the code

  abbrev pub was_now : ℕ → Spot
  was_now = After.was_now P G a mv was

  abbrev PN : Prog
  PN = prog was_now (apply P a)

  at_zero : PW x ≡ map (placed was P) (range (starts P x + 0) (size P x))
  at_zero = ap (λ (n : ℕ). map (placed was P) (range n (size P x))) (sym (add-zero (starts P x)))

  after_x : PN x ≡ stays mark 0 (PW x)
  after_x = After.after_at_x P G a mv was ∙ sym (ap (stays mark 0) at_zero ∙ stays_made P a S knot given fr m short in_x inside gift was in_S 0 (size P x))

  after_t : PN t ≡ goes S mark fr 0 (PW x) ++ owns S mark fr [] (PW t)
  after_t =
      After.after_at_t P G a mv was
      ∙ ap₂ ◌++◌ (sym (ap (goes S mark fr 0) at_zero ∙ goes_made P a S knot given fr m short in_x inside gift was in_S 0 (size P x)))
      (owns_made P a S knot given fr m short in_x inside gift was in_S (A.behind P G a mv) [] (places P t) (name_behind P a S knot given fr m short in_x inside gift))

  quiet_from : (pre : List ℕ) (b : ℕ) (ds : List ℕ) → x ∷ cs ≡ pre ++ b ∷ ds → Quiet PW b ds
  quiet_from pre b [] e = tt
  quiet_from pre b (d ∷ ds) e =
      (last_quiet was P mv.ok b d (links_inner P (x ∷ []) x cs (found P G a mv).links pre b d ds e), quiet_from (pre ++ b ∷ []) d ds (e ∙ sym (append_assoc pre (b ∷ []) (d ∷ ds))))

  no_branch : (p : ℕ) → mark p ≡ true → (instr_at PW x p).goes_to ≡ []
  no_branch p k =
      let l = inside p k in
      ap (λ (i : Instr). i.goes_to) (get_d_map (placed was P) 0 no_instr (places P x) p (subst (λ (n : ℕ). p < n) (sym (length_range (starts P x) (size P x))) (omega arith)) ∙ ap (placed was P) (get_or-range (starts P x) (size P x) p (omega arith)))
      ∙ ap (end_succs P) (mover_stops (inst P.recs (starts P x + p)) (member_may P G a mv p k))

  -- A ROUND OF THE PASS IS A ROUND OF THE WALK
  pub full_round : FullRound P.regs PW PN
  full_round = record {
    is_round = record {
      x = x;
      t = t;
      chain = cs;
      live = live_in P;
      mark = mark;
      new_reg = fr;
      below = below was P mv.ok;
      solves = subst (λ (z : ℕ → List ℕ). LiveSolution P.regs z PW (live_in P)) (sym (succs_are was P)) live;
      is_chain = subst (λ (z : ℕ → List ℕ). Chain z x t cs) (sym (succs_are was P)) (is_chain P G a mv);
      quiet = quiet_from [] x cs refl;
      legal = rules;
      fresh = new_ones;
      after_x = after_x;
      after_t = after_t;
      after_other = After.after_else P G a mv was;
    };
    no_branch = no_branch;
  }
