-- The order of places that a move makes: block by block, each place once, and where each stands after. Assumes nothing.
use mathlib.Core.Path.{◌≡◌, refl, sym, ap, ap₂, ◌∙◌, subst}
use mathlib.Core.Logic.{◌⊎◌, inl, inr, ⊎_elim}
use mathlib.Core.Bool.{Bool, true, false, not}
use mathlib.Core.List.{List, ◌++◌, map}
use Prim.Native.Nat.{ℕ, ◌+◌, ◌<◌}
use native.Mathlib.Omega.{arith}
use lib.Dec.{eqb}
use lib.ListN.{get_or, length}
use borrow.Author.Tests.{ne_eqb}
use Rattle.words.specs.Lists.{In, upto, filter, concat, member}
use Rattle.words.proofs.Bools.{eq?, eqb_self}
use Rattle.words.proofs.Members.{in_map, in_split, in_range, range_in, filter_in, in_get_or, concat_in}
use Rattle.words.proofs.Sums.{once_in, once_place}
use Rattle.model.specs.Picture.{Picture, nblocks, starts, size, places}
use Rattle.model.specs.Analyse.{Facts}
use Rattle.model.specs.Move.{Plan, members, order_of, order}
use Rattle.laws.proofs.Sizes.{place_below}
use Rattle.laws.proofs.Moving.{Moving, x_block, into_block, apart, member_below}
use Rattle.laws.proofs.Once as Once

module _ (P : Picture) (G : Facts) (a : Plan) (mv : Moving P G a) where
  -- what stays in x
  abbrev pub stayers : List ℕ
  stayers = filter (λ p. not (member a.set p)) (upto (size P a.x))

  abbrev pub in_x : ℕ → ℕ
  in_x p = starts P a.x + p

  pub order_x : order_of P a a.x ≡ map in_x stayers
  order_x = ap (λ (c : Bool). elim c as (λ z. List ℕ) [
    | true ↦ map in_x stayers
    | false ↦ elim (eqb a.x a.into) as (λ z. List ℕ) [ true ↦ map in_x (members P a) ++ places P a.x | false ↦ places P a.x ]
  ]) (eqb_self a.x)

  pub order_into : order_of P a a.into ≡ map in_x (members P a) ++ places P a.into
  order_into = ap₂ (λ (c d : Bool). elim c as (λ z. List ℕ) [
    | true ↦ map (λ p. starts P a.into + p) (filter (λ p. not (member a.set p)) (upto (size P a.into)))
    | false ↦ elim d as (λ z. List ℕ) [ true ↦ map in_x (members P a) ++ places P a.into | false ↦ places P a.into ]
  ]) (ne_eqb a.into a.x (λ e. apart P G a mv (sym e))) (eqb_self a.into)

  pub order_else : (b : ℕ) → (b ≡ a.x → ⊥) → (b ≡ a.into → ⊥) → order_of P a b ≡ places P b
  order_else b n k = ap₂ (λ (c d : Bool). elim c as (λ z. List ℕ) [
    | true ↦ map (λ p. starts P b + p) (filter (λ p. not (member a.set p)) (upto (size P b)))
    | false ↦ elim d as (λ z. List ℕ) [ true ↦ map in_x (members P a) ++ places P b | false ↦ places P b ]
  ]) (ne_eqb b a.x n) (ne_eqb b a.into k)

  -- ---- places before

  pub at_x : (p : ℕ) → p < size P a.x → In (in_x p) (places P a.x)
  at_x p h = in_range (in_x p) (starts P a.x) (size P a.x) (omega arith) (omega arith)

  pub stayer_at : (p : ℕ) → In p (map in_x stayers) → In p (places P a.x)
  stayer_at p i =
      let z = in_map in_x p stayers i in
      let y = range_in z.0 0 (size P a.x) (filter_in (λ p. not (member a.set p)) z.0 (upto (size P a.x)) z.1).0 in
      let l = y.1 in
      subst (λ (q : ℕ). In q (places P a.x)) (sym z.2) (at_x z.0 (omega arith))

  pub mover_at : (p : ℕ) → In p (map in_x (members P a)) → In p (places P a.x)
  mover_at p i = let z = in_map in_x p (members P a) i in subst (λ (q : ℕ). In q (places P a.x)) (sym z.2) (at_x z.0 (member_below P G a mv z.0 z.1))

  pub order_place : (b p : ℕ) → In p (order_of P a b) → p < length P.locs
  order_place b p i = go (eq? b a.x) (eq? b a.into)
    where
      low : (c : ℕ) → In p (places P c) → p < length P.locs
      low c j = (place_below P mv.ok c p j).1

      go : (b ≡ a.x) ⊎ (b ≡ a.x → ⊥) → (b ≡ a.into) ⊎ (b ≡ a.into → ⊥) → p < length P.locs
      go (inl e) d = low a.x (stayer_at p (subst (In p) (ap (order_of P a) e ∙ order_x) i))
      go (inr n) (inl e) = ⊎_elim (λ j. low a.x (mover_at p j)) (low a.into) (in_split p (map in_x (members P a)) (places P a.into) (subst (In p) (ap (order_of P a) e ∙ order_into) i))
      go (inr n) (inr k) = low b (subst (In p) (order_else b n k) i)

  -- ---- the order as a whole

  pub order_low : (p : ℕ) → p < length (concat (order P a)) → get_or (concat (order P a)) p 0 < length P.locs
  order_low p h =
      let z = concat_in (get_or (concat (order P a)) p 0) (order P a) (in_get_or 0 (concat (order P a)) p h) in
      let y = in_map (order_of P a) z.0 (upto (nblocks P)) z.2 in
      order_place y.0 (get_or (concat (order P a)) p 0) (subst (In (get_or (concat (order P a)) p 0)) y.2 z.1)

  pub order_length : length (concat (order P a)) ≡ length P.locs
  order_length = Once.order_length P mv.ok.laid a (apart P G a mv) (x_block P G a mv) (into_block P G a mv)

  pub order_has : (o : ℕ) → o < length P.locs → In o (concat (order P a))
  order_has o h = once_in o (concat (order P a)) (Once.order_once P mv.ok.laid a (apart P G a mv) (x_block P G a mv) (into_block P G a mv) o h)

  pub order_inj : (p q : ℕ) → p < length (concat (order P a)) → q < length (concat (order P a)) → get_or (concat (order P a)) p 0 ≡ get_or (concat (order P a)) q 0 → p ≡ q
  order_inj p q h k e =
      let o = get_or (concat (order P a)) p 0 in
      once_place o (concat (order P a)) (Once.order_once P mv.ok.laid a (apart P G a mv) (x_block P G a mv) (into_block P G a mv) o (order_low p h)) p q h k refl (sym e)
