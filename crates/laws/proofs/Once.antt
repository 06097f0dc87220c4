-- A round's order of places: each position before stands in it exactly once. Assumes nothing.
use mathlib.Core.Path.{◌≡◌, refl, sym, ap, ap₂, ◌∙◌, subst}
use mathlib.Core.Logic.{◌≢◌}
use mathlib.Core.Bool.{Bool, true, false, not, cond}
use mathlib.Core.List.{List, ◌++◌, map}
use Prim.Native.Nat.{ℕ, ◌+◌, ◌<◌}
use native.Mathlib.Nat.{add-zero}
use native.Mathlib.Omega.{arith}
use lib.Dec.{T, eqb, eqb→eq}
use lib.ListN.{length}
use Rattle.words.specs.Lists.{range, upto, filter, concat, member, hit}
use Rattle.words.proofs.Lists.{shift_range, length_range}
use Rattle.words.proofs.Sums.{sum, sum_append, sum_concat, sum_map, sum_split, sum_on, sum_add, sum_hit, once_range, sum_ones}
use Rattle.model.specs.Picture.{Picture, nblocks, starts, size, places}
use Rattle.model.specs.Refusal.{gaps}
use Rattle.model.specs.Move.{Plan, members, order_of, order}
use Rattle.laws.proofs.Blocks.{all_places}

-- ---- the order, over any sum

module _ (P : Picture) (a : Plan) (v : ℕ → ℕ) (apart : a.x ≢ a.into) where
  abbrev in_x : ℕ → ℕ
  in_x p = starts P a.x + p

  abbrev moved : ℕ
  moved = sum v (map in_x (members P a))

  in_order : (b : ℕ) → sum v (order_of P a b) + cond (eqb b a.x) moved 0 ≡ sum v (places P b) + cond (eqb b a.into) moved 0
  in_order b = go (eqb b a.x) (eqb b a.into) refl refl
    where
      at_x : (y : ℕ) → y ≡ a.x → sum v (map (λ p. starts P y + p) (filter (λ p. not (member a.set p)) (upto (size P y)))) + moved ≡ sum v (places P y)
      at_x y e =
          subst (λ (z : ℕ). sum v (map (λ p. starts P z + p) (filter (λ p. not (member a.set p)) (upto (size P z)))) + moved ≡ sum v (places P z)) (sym e)
          (ap₂ ◌+◌ (sum_map v in_x (filter (λ p. not (member a.set p)) (upto (size P a.x)))) (sum_map v in_x (members P a))
          ∙ sum_split (λ p. v (in_x p)) (member a.set) (upto (size P a.x)) ∙ sym (sum_map v in_x (upto (size P a.x)))
          ∙ ap (sum v) (shift_range (starts P a.x) 0 (size P a.x) ∙ ap (λ (k : ℕ). range k (size P a.x)) (add-zero (starts P a.x))))

      go : (c d : Bool) → eqb b a.x ≡ c → eqb b a.into ≡ d
          → sum v (elim c as (λ e. List ℕ) [
            | true ↦ map (λ p. starts P b + p) (filter (λ p. not (member a.set p)) (upto (size P b)))
            | false ↦ elim d as (λ e. List ℕ) [ true ↦ map in_x (members P a) ++ places P b | false ↦ places P b ]
          ])
          + cond c moved 0 ≡ sum v (places P b) + cond d moved 0
      go true true e f = absurd (apart (sym (eqb→eq b a.x (subst T (sym e) tt)) ∙ eqb→eq b a.into (subst T (sym f) tt)))
      go true false e f = at_x b (eqb→eq b a.x (subst T (sym e) tt)) ∙ sym (add-zero (sum v (places P b)))
      go false true e f = omega (arith, sum_append v (map in_x (members P a)) (places P b))
      go false false e f = refl

  by_blocks : (f : ℕ → List ℕ) → sum v (concat (map f (upto (nblocks P)))) ≡ sum (λ b. sum v (f b)) (upto (nblocks P))
  by_blocks f = sum_concat v (map f (upto (nblocks P))) ∙ sum_map (λ xs. sum v xs) f (upto (nblocks P))

  -- what is gone from x has come to the target
  pub order_sum : a.x < nblocks P → a.into < nblocks P → sum v (concat (order P a)) ≡ sum v (concat (map (places P) (upto (nblocks P))))
  order_sum h k =
      let B = nblocks P in
      let f : ℕ → ℕ = λ b. sum v (order_of P a b) in
      let g : ℕ → ℕ = λ b. cond (eqb b a.x) moved 0 in
      let f' : ℕ → ℕ = λ b. sum v (places P b) in
      let g' : ℕ → ℕ = λ b. cond (eqb b a.into) moved 0 in
      let s : sum f (upto B) + sum g (upto B) ≡ sum f' (upto B) + sum g' (upto B) =
      sym (sum_add f g (upto B)) ∙ sum_on (λ b. f b + g b) (λ b. f' b + g' b) (upto B) (λ b i. in_order b) ∙ sum_add f' g' (upto B) in
      let x = sum_hit a.x moved 0 B (omega arith) (omega arith) in
      let y = sum_hit a.into moved 0 B (omega arith) (omega arith) in
      let c = by_blocks (order_of P a) in
      let d = by_blocks (places P) in
      omega arith

-- ---- each place once, and nothing else

module _ (P : Picture) (laid : gaps 0 (length P.locs) P.bounds ≡ false) (a : Plan) (apart : a.x ≢ a.into) (h : a.x < nblocks P) (k : a.into < nblocks P) where
  pub order_once : (o : ℕ) → o < length P.locs → sum (λ x. hit (eqb o x)) (concat (order P a)) ≡ 1
  order_once o l =
      order_sum P a (λ x. hit (eqb o x)) apart h k ∙ ap (sum (λ x. hit (eqb o x))) (all_places P laid)
      ∙ once_range o 0 (length P.locs) (omega arith) (omega arith)

  pub order_length : length (concat (order P a)) ≡ length P.locs
  order_length =
      sym (sum_ones (concat (order P a))) ∙ order_sum P a (λ x. 1) apart h k ∙ ap (sum (λ x. 1)) (all_places P laid) ∙ sum_ones (upto (length P.locs)) ∙ length_range 0 (length P.locs)
