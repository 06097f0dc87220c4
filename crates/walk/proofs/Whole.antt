-- Demand 3 whole: the theorem of this crate. Rounds by the rules are rounds of the scan; the parts come from Alike, Places, Successors and
-- Claim. Assumes nothing.
use mathlib.Core.Path.{◌≡◌, sym, ◌∙◌, ap, ap₂, subst, fun_ext}
use mathlib.Core.List.{List}
use mathlib.Core.Logic.{◌↔◌}
use Prim.Native.Nat.{ℕ, ◌<◌}
use native.Mathlib.Omega.{arith}
use lib.ListN.{length}
use Rattle.words.proofs.Members.{in_get_or, in_index}
use Rattle.walk.specs.Machine.{Prog, no_instr, instr_at}
use Rattle.walk.specs.Rules.{Round}
use Rattle.walk.specs.Demand.{succs, IsWalk, block_at, Sunk, none_yet, again, OwnPlaces, Claim, Alike, Demand3}
use Rattle.walk.proofs.Scan.{ScanRounds, begin, round}
use Rattle.walk.proofs.Alike.{alike_rounds}
use Rattle.walk.proofs.Claim.{OldPlacesUnique, claim}
use Rattle.walk.proofs.Places.{once_ident, once_unique, rounds_once, places}
use Rattle.walk.proofs.FromRules.{X, scan_round}
use Rattle.walk.proofs.Successors.{sunk_succs, walk_same, list_walk}

-- the rounds, as rounds of the scan over the first program's successors
sunk_rounds : (P Q : Prog) → Sunk P Q → ScanRounds (succs P) P Q
sunk_rounds P Q none_yet = begin
sunk_rounds P Q (again {Q = M} R s fu) =
    let rnd : Round R (succs P) M Q = subst (λ z. Round R z M Q) (fun_ext (sunk_succs P M s)) fu.is_round in
    round R rnd.live rnd.x rnd.t rnd.chain (X R (succs P) M Q rnd) (sunk_rounds P M s) (scan_round R (succs P) M Q rnd) rnd.is_chain.linked

-- DEMAND 3
pub demand : (P Q : Prog) → Sunk P Q → OwnPlaces P → Demand3 P Q
demand P Q s id = record { old = old; stands = places (succs P) P Q rs id; once = unique; walks = walks; along = along }
  where
    rs : ScanRounds (succs P) P Q
    rs = sunk_rounds P Q s

    unique : OldPlacesUnique Q
    unique = once_unique Q (rounds_once (succs P) P Q rs (once_ident P id))

    old : (c j : ℕ) → j < length (Q c) → ((instr_at Q c j).old_index < length (P (instr_at Q c j).old_block)) × Alike (instr_at Q c j) (instr_at P (instr_at Q c j).old_block (instr_at Q c j).old_index)
    old c j h =
        let f = alike_rounds (succs P) P Q rs c (instr_at Q c j) (in_get_or no_instr (Q c) j h) in
        let k = in_index no_instr f.1 (P f.0) f.2 in
        let u = id f.0 k.0 k.1 in
        let e : (instr_at Q c j).old_block ≡ f.0 = f.3.same_old_block ∙ ap (λ z. z.old_block) (sym k.2) ∙ u.0 in
        let g : (instr_at Q c j).old_index ≡ k.0 = f.3.same_old_index ∙ ap (λ z. z.old_index) (sym k.2) ∙ u.1 in (
          subst (λ z. (instr_at Q c j).old_index < length (P z)) (sym e) (let z = k.1 in omega arith),
          subst (Alike (instr_at Q c j)) (sym (ap₂ (instr_at P) e g ∙ k.2)) f.3,
        )

    walks : (ws : List ℕ) → IsWalk P ws ↔ IsWalk Q ws
    walks ws = (walk_same P Q (λ b. sym (sunk_succs P Q s b)) ws, walk_same Q P (sunk_succs P Q s) ws)

    along : (ws : List ℕ) → IsWalk P ws → Claim P Q (block_at ws) (length ws)
    along ws g = claim (succs P) P Q rs id unique (block_at ws) (length ws) (list_walk P ws g)
