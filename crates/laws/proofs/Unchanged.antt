-- What a move keeps: the number of blocks, and the lengths of all that is lent; registers and operands in use only grow, within the
-- room; via travels with its instruction. Assumes nothing.
use mathlib.Core.Path.{◌≡◌, refl, sym, ap, ap₂, ◌∙◌, subst}
use mathlib.Core.Logic.{⊎_elim}
use mathlib.Core.List.{List, [], ◌∷◌, ◌++◌, map}
use Prim.Native.Nat.{ℕ, zero, suc, ◌+◌, ◌*◌, ◌/◌, ◌≤◌, ◌<◌}
use native.Mathlib.Omega.{arith}
use lib.ListN.{get_or, length, take, drop, length-append, length-map, length-drop}
use Rattle.words.specs.Lists.{concat}
use Rattle.words.proofs.Lists.{length-concat_same, get_d_map}
use Rattle.model.specs.Picture.{Picture, Inst, nblocks}
use Rattle.model.specs.Refusal.{work64, work32}
use Rattle.model.specs.Analyse.{Facts}
use Rattle.model.specs.Move.{Plan, fresh, order_of, order, new_code, apply}
use Rattle.laws.proofs.Sizes.{vias_length}
use Rattle.laws.proofs.Laid.{Whole}
use Rattle.laws.proofs.Moving.{Moving, regs_room, opers_room}
use Rattle.laws.proofs.Ordered.{order_length}
use Rattle.laws.proofs.Applied as Applied

length_whole : (is : List Inst) → Whole is → length (concat is) ≡ 16 * length is
length_whole [] w = refl
length_whole (i ∷ is) w = let h = w.0 in omega (arith, length-append i (concat is), length_whole is w.1)

-- a list read through places: by position
pub read_at : (xs : List ℕ) (o : List ℕ) (p : ℕ) → p < length o → get_or (map (λ q. get_or xs q 0) o) p 0 ≡ get_or xs (get_or o p 0) 0
read_at xs o p h = get_d_map (λ q. get_or xs q 0) 0 0 o p h

module _ (P : Picture) (G : Facts) (a : Plan) (mv : Moving P G a) where
  abbrev Q : Picture
  Q = apply P a

  pub same_blocks : nblocks Q ≡ nblocks P
  same_blocks = Applied.same_blocks P G a mv

  pub locs_order : length Q.locs ≡ length (concat (order P a))
  locs_order = length-map (concat (order P a)) (λ p. get_or P.locs p 0)

  pub same_locs : length Q.locs ≡ length P.locs
  same_locs = locs_order ∙ order_length P G a mv

  pub same_vias : length Q.vias ≡ length P.vias
  same_vias = go (length P.vias) refl
    where
      go : (n : ℕ) → length P.vias ≡ n → length {A = ℕ} (elim n as (λ z. List ℕ) [ zero ↦ [] | suc n ↦ map (λ p. get_or P.vias p 0) (concat (order P a)) ]) ≡ n
      go zero e = refl
      go (suc n) e =
          length-map (concat (order P a)) (λ p. get_or P.vias p 0) ∙ order_length P G a mv
          ∙ ⊎_elim (λ (z : length P.vias ≡ 0). absurd (omega arith)) (λ (z : length P.vias ≡ length P.locs). sym z ∙ e) (vias_length P mv.ok)

  pub same_types : length Q.types ≡ length P.types
  same_types =
      let ts = (fresh P a).types in
      omega (arith, length-append ts (drop (length ts) P.types), length-drop (length ts) P.types, regs_room P G a mv)

  pub same_ops : length Q.ops ≡ length P.ops
  same_ops =
      let old = take P.opers P.ops in
      let more = Applied.extra P G a mv in
      let left = drop (P.opers + length more) P.ops in
      omega (arith, length-append (old ++ more) left, length-append old more, Applied.taken P G a mv, length-drop (P.opers + length more) P.ops, opers_room P G a mv)

  pub code_length : length (concat (Applied.cs P G a mv)) ≡ length Q.locs
  code_length = length-concat_same (new_code P a (Applied.js P G a mv)) (order_of P a) 0 (nblocks P) (Applied.same_length P G a mv) ∙ sym locs_order

  pub recs_after : length Q.recs ≡ 16 * length Q.locs
  recs_after = length_whole (concat (Applied.cs P G a mv)) (Applied.all_whole P G a mv) ∙ ap (λ (n : ℕ). 16 * n) code_length

  -- more in use, within the room
  pub regs_more : (P.regs ≤ Q.regs) × (Q.regs ≤ length Q.types)
  regs_more = (Applied.regs_grow P G a mv, (let e = same_types in let h = regs_room P G a mv in omega arith))

  pub opers_more : (P.opers ≤ Q.opers) × (Q.opers ≤ length Q.ops)
  opers_more = (omega arith, (let e = same_ops in let h = opers_room P G a mv in omega arith))

  -- the work slices that were long enough still are
  pub same_work64 : work64 Q ≡ work64 P
  same_work64 = ap₂ (λ (b k : ℕ). 4 * b * ((k + 63) / 64) + 2 * k) same_blocks same_types

  pub same_work32 : work32 Q ≡ work32 P
  same_work32 = ap₂ (λ (b k : ℕ). 8 * k + 16 * b + 8000) same_blocks same_types

  -- what stands at p after is what stood at its place before
  pub via_now : (p : ℕ) → p < length (concat (order P a)) → get_or (apply P a).vias p 0 ≡ get_or P.vias (get_or (concat (order P a)) p 0) 0
  via_now p h = go P.vias refl
    where
      go : (vs : List ℕ) → P.vias ≡ vs → get_or (apply P a).vias p 0 ≡ get_or P.vias (get_or (concat (order P a)) p 0) 0
      go [] e = subst (λ (vs : List ℕ). get_or {A = ℕ} (elim (length vs) as (λ z. List ℕ) [ zero ↦ [] | suc n ↦ map (λ q. get_or vs q 0) (concat (order P a)) ]) p 0 ≡ get_or vs (get_or (concat (order P a)) p 0) 0) (sym e) refl
      go (v ∷ vs) e =
          subst (λ (vs : List ℕ). get_or {A = ℕ} (elim (length vs) as (λ z. List ℕ) [ zero ↦ [] | suc n ↦ map (λ q. get_or vs q 0) (concat (order P a)) ]) p 0 ≡ get_or vs (get_or (concat (order P a)) p 0) 0) (sym e)
          (read_at (v ∷ vs) (concat (order P a)) p h)
