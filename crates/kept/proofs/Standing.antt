-- What any number of rounds leaves stands to the picture lent as demand 3 asks: each instruction exactly once, and as programs of the
-- walk the one is sunk from the other. Assumes nothing.
use mathlib.Core.Path.{◌≡◌, refl, sym, ap, ap₂, ◌∙◌, subst, fun_ext}
use mathlib.Core.Bool.{Bool, ◌&&◌}
use mathlib.Core.List.{List, [], ◌∷◌}
use Prim.Native.Nat.{ℕ, zero, suc, ◌<◌}
use native.Mathlib.Nat.{zero-add}
use lib.Dec.{eqb, ltb}
use lib.ListN.{get_or, length, length-map}
use Rattle.words.specs.Lists.{upto, mem, concat}
use Rattle.words.proofs.Lists.{get_or-range, length_range}
use Rattle.words.proofs.Members.{map_on, in_index}
use Rattle.model.specs.Picture.{Picture, inst, nblocks, places, succs}
use Rattle.model.specs.Analyse.{Facts, facts}
use Rattle.model.specs.Move.{Plan, order, apply}
use Rattle.laws.proofs.Accepted.{Accepted}
use Rattle.laws.proofs.Sizes.{place_below}
use Rattle.laws.proofs.Moving.{Moving}
use Rattle.laws.proofs.Ordered.{order_inj, order_low, order_length, order_has}
use Rattle.laws.proofs.Endings.{succs_kept}
use Rattle.laws.proofs.Unchanged.{read_at, via_now, same_blocks, same_locs, same_vias}
use Rattle.laws.proofs.Keeps.{moving, move_keeps}
use Rattle.laws.proofs.Rounds.{Next, no_move, no_room, goes_on}
use Rattle.laws.proofs.Rounds as Rounds
use Rattle.walk.specs.Demand.{Sunk, none_yet, again}
use Rattle.kept.specs.Walk.{Stage, carried, stage, after, bare, home, steps, is_walk, Once}
use Rattle.kept.proofs.Program.{Spot, spot, ins, placed, prog, before, behind}
use Rattle.kept.proofs.Stages.{further, stage_done, stage_short, stage_more}
use Rattle.kept.proofs.After.{bares_in}
use Rattle.kept.proofs.Round as Round
use Rattle.kept.proofs.Home.{in_home, home_places}

-- only the old places of positions that there are matter
prog_same : (P : Picture) → Accepted P → (u v : ℕ → Spot) → ((p : ℕ) → p < length P.locs → u p ≡ v p) → prog u P ≡ prog v P
prog_same P ok u v h = fun_ext (λ b. map_on (placed u P) (placed v P) (places P b) (λ p i. ap (λ (s : Spot). ins P s (inst P.recs p)) (h p (place_below P ok b p i).1)))

-- ---- walks

steps_same : (L Q : Picture) → ((b : ℕ) → succs Q b ≡ succs L b) → (b : ℕ) (w : List ℕ) → steps Q b w ≡ steps L b w
steps_same L Q h b [] = refl
steps_same L Q h b (c ∷ w) = ap₂ ◌&&◌ (ap (mem c) (h b)) (steps_same L Q h c w)

walks_same : (L Q : Picture) → nblocks Q ≡ nblocks L → ((b : ℕ) → succs Q b ≡ succs L b) → (w : List ℕ) → is_walk Q w ≡ is_walk L w
walks_same L Q e h [] = refl
walks_same L Q e h (b ∷ w) = ap₂ (λ (n : ℕ) (t : Bool). eqb b 0 && ltb b n && t) e (steps_same L Q h b w)

-- ---- one round

module _ (P : Picture) (G : Facts) (a : Plan) (mv : Moving P G a) where
  bare_now : (p : ℕ) → p < length (concat (order P a)) → bare (inst (apply P a).recs p) ≡ bare (inst P.recs (get_or (concat (order P a)) p 0))
  bare_now p h =
      let ok = move_keeps P G a mv in
      let l : p < length (apply P a).locs = subst (λ (n : ℕ). p < n) (order_length P G a mv ∙ sym (same_locs P G a mv)) h in
      bares_in P G a mv (home (apply P a) p) p (subst (λ (n : ℕ). home (apply P a) p < n) (same_blocks P G a mv) (in_home (apply P a) ok p l).0) (home_places (apply P a) ok p l)

-- ---- a picture Q that some rounds have made of L

pub record Standing (L Q : Picture) (was : List ℕ) : Type 0 where
  pub fine : Accepted Q
  pub once : Once L Q was
  pub same_count : nblocks Q ≡ nblocks L
  pub sunk : Sunk (before L) (behind L Q was)

module _ (L : Picture) (G : Facts) where
  -- one round more
  next : (P : Picture) (was : List ℕ) → Standing L P was → (a : Plan) → Moving P G a → Standing L (apply P a) (carried was (concat (order P a)))
  next P was s a mv = record {
    fine = ok;
    once = record {
      as_many = (lw ∙ order_length P G a mv ∙ o.as_many.1, same_locs P G a mv ∙ o.as_many.1);
      old_place = λ p h. subst (λ (n : ℕ). n < length L.locs) (sym (old p (in_ps p h))) (o.old_place (get_or ps p 0) (low p (in_ps p h)));
      stands = λ n h.
          let z = o.stands n h in
          let y = in_index 0 z.0 ps (order_has P G a mv z.0 (subst (λ (m : ℕ). z.0 < m) wl z.1)) in
          (y.0, subst (λ (m : ℕ). y.0 < m) (sym lw) y.1, old y.0 y.1 ∙ ap (λ (q : ℕ). get_or was q 0) y.2 ∙ z.2);
      once = λ p q h k e.
          order_inj P G a mv p q (in_ps p h) (in_ps q k)
          (o.once (get_or ps p 0) (get_or ps q 0) (low p (in_ps p h)) (low q (in_ps q k)) (sym (old p (in_ps p h)) ∙ e ∙ old q (in_ps q k)));
      same_but_registers = λ p h. bare_now P G a mv p (in_ps p h) ∙ o.same_but_registers (get_or ps p 0) (low p (in_ps p h)) ∙ ap (λ (n : ℕ). bare (inst L.recs n)) (sym (old p (in_ps p h)));
      same_loc = λ p h. read_at P.locs ps p (in_ps p h) ∙ o.same_loc (get_or ps p 0) (low p (in_ps p h)) ∙ ap (λ (n : ℕ). get_or L.locs n 0) (sym (old p (in_ps p h)));
      same_via = (
        same_vias P G a mv ∙ o.same_via.0,
        λ p h. via_now P G a mv p (in_ps p h) ∙ o.same_via.1 (get_or ps p 0) (low p (in_ps p h)) ∙ ap (λ (n : ℕ). get_or L.vias n 0) (sym (old p (in_ps p h))),
      );
      same_succs = λ b. succs_kept P G a mv b ∙ o.same_succs b;
      same_walks = walks_same L (apply P a) (same_blocks P G a mv ∙ s.same_count) (λ b. succs_kept P G a mv b ∙ o.same_succs b);
    };
    same_count = same_blocks P G a mv ∙ s.same_count;
    sunk = subst (Sunk (before L))
        (prog_same (apply P a) ok (Round.was_now u P G a mv) (λ p. spot L (get_or (carried was ps) p 0))
        (λ p h. ap (spot L) (sym (old p (subst (λ (m : ℕ). p < m) (same_locs P G a mv ∙ sym (order_length P G a mv)) h)))))
        (again P.regs s.sunk (Round.full_round u P G a mv));
  }
    where
      ok : Accepted (apply P a)
      ok = move_keeps P G a mv

      o : Once L P was
      o = s.once

      ps : List ℕ
      ps = concat (order P a)

      u : ℕ → Spot
      u p = spot L (get_or was p 0)

      lw : length (carried was ps) ≡ length ps
      lw = length-map ps (λ p. get_or was p 0)

      wl : length was ≡ length P.locs
      wl = o.as_many.0 ∙ sym o.as_many.1

      in_ps : (p : ℕ) → p < length (carried was ps) → p < length ps
      in_ps p h = subst (λ (m : ℕ). p < m) lw h

      low : (p : ℕ) → p < length ps → get_or ps p 0 < length was
      low p h = subst (λ (m : ℕ). get_or ps p 0 < m) (sym wl) (order_low P G a mv p h)

      old : (p : ℕ) → p < length ps → get_or (carried was ps) p 0 ≡ get_or was (get_or ps p 0) 0
      old p h = read_at was ps p h

  pub stands : (k : ℕ) (P : Picture) (was : List ℕ) → Standing L P was → Standing L (stage G k P was).now (stage G k P was).was
  stands zero P was s = s
  stands (suc k) P was s = go (λ a. stands k (apply P a) (carried was (concat (order P a)))) (Rounds.next P G)
    where
      Fine : Stage → Type 0
      Fine t = Standing L t.now t.was

      go : ((a : Plan) → Standing L (apply P a) (carried was (concat (order P a))) → Fine (further G k P was a)) → Next P G → Fine (stage G (suc k) P was)
      go rec (no_move e) = subst Fine (sym (stage_done G k P was e)) s
      go rec (no_room a e f) = subst Fine (sym (stage_short G k P was a e f)) s
      go rec (goes_on a e f) = subst Fine (sym (stage_more G k P was a e f)) (rec a (next P was s a (moving P G a s.fine e f)))

module _ (P : Picture) (ok : Accepted P) where
  abbrev own : List ℕ
  own = upto (length P.locs)

  own_is : (p : ℕ) → p < length P.locs → get_or own p 0 ≡ p
  own_is p h = get_or-range 0 (length P.locs) p h ∙ zero-add p

  in_own : (p : ℕ) → p < length own → p < length P.locs
  in_own p h = subst (λ (n : ℕ). p < n) (length_range 0 (length P.locs)) h

  -- before the first round
  at_first : Standing P P own
  at_first = record {
    fine = ok;
    once = record {
      as_many = (length_range 0 (length P.locs), refl);
      old_place = λ p h. subst (λ (n : ℕ). n < length P.locs) (sym (own_is p (in_own p h))) (in_own p h);
      stands = λ o h. (o, subst (λ (n : ℕ). o < n) (sym (length_range 0 (length P.locs))) h, own_is o h);
      once = λ p q h k e. sym (own_is p (in_own p h)) ∙ e ∙ own_is q (in_own q k);
      same_but_registers = λ p h. ap (λ (n : ℕ). bare (inst P.recs n)) (sym (own_is p (in_own p h)));
      same_loc = λ p h. ap (λ (n : ℕ). get_or P.locs n 0) (sym (own_is p (in_own p h)));
      same_via = (refl, λ p h. ap (λ (n : ℕ). get_or P.vias n 0) (sym (own_is p (in_own p h))));
      same_succs = λ b. refl;
      same_walks = λ w. refl;
    };
    same_count = refl;
    sunk = subst (Sunk (before P)) (prog_same P ok (spot P) (λ p. spot P (get_or own p 0)) (λ p h. ap (spot P) (sym (own_is p h)))) none_yet;
  }

  pub standing : (k : ℕ) → Standing P (after P k).now (after P k).was
  standing k = stands P (facts P) k P own at_first
