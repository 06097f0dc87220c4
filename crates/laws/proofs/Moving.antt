-- A move: a plan that the round has chosen in an accepted picture, and that fits the lent room. Its chain, its two blocks, its
-- members. Assumes nothing.
use mathlib.Core.Path.{◌≡◌, sym, ap, ◌∙◌, subst}
use mathlib.Core.Logic.{inl, ⊎_elim}
use mathlib.Core.Bool.{Bool, true}
use mathlib.Core.List.{List, [], ◌∷◌, map}
use Prim.Native.Nat.{ℕ, ◌+◌, ◌-◌, ◌≤◌, ◌<◌}
use native.Mathlib.Omega.{arith}
use lib.Dec.{T, leb, leb→le}
use lib.ListN.{get_or, length, take, length-map}
use Rattle.words.specs.Lists.{In, upto, member}
use Rattle.words.proofs.Bools.{left, right, T_true, true_T}
use Rattle.words.proofs.Lists.{get_d_map}
use Rattle.words.proofs.Members.{mem-not_in, filter_in, range_in}
use Rattle.model.specs.Kinds.{row}
use Rattle.model.specs.Picture.{Picture, Inst, inst, kind, nblocks, starts, size}
use Rattle.model.specs.Analyse.{Facts, Fact, fact, analyse, movable}
use Rattle.model.specs.Legal.{fact_at}
use Rattle.model.specs.Move.{chain_places, needed_of, Plan, members, fresh, apply}
use Rattle.model.specs.Pass.{fits}
use Rattle.model.specs.Results.{is_movable}
use Rattle.model.proofs.Movable.{may_move, fact_moves}
use Rattle.laws.proofs.Accepted.{Accepted}
use Rattle.laws.proofs.Admitted.{ends_parts}
use Rattle.laws.proofs.Analysed.{fact_of}
use Rattle.laws.proofs.Chains.{Found, chain_found, last_of_chain, lead}
use Rattle.laws.proofs.Greatest.{greatest_movable}
use Rattle.laws.proofs.Planned.{Chosen}

pub record Moving (P : Picture) (G : Facts) (a : Plan) : Type 0 where
  pub ok : Accepted P
  pub choice : Chosen P G a
  pub room : fits P (apply P a) ≡ true

module _ (P : Picture) (G : Facts) (a : Plan) (mv : Moving P G a) where
  -- the chain, whose blocks behind x are `rest`
  pub found : Found P (a.x ∷ []) a.x mv.choice.c
  found = chain_found P a.x mv.choice.c mv.choice.is_chain

  abbrev pub rest : List ℕ
  rest = found.rest

  -- x and the target are two blocks, and the target is not in the chain
  pub x_block : a.x < nblocks P
  x_block = mv.choice.x_block

  pub into_block : a.into < nblocks P
  into_block =
      let z = ends_parts P mv.ok (last_of_chain a.x rest) mv.choice.c.t mv.choice.c.f found.ends_in in
      ⊎_elim (λ s. subst (λ (n : ℕ). n < nblocks P) (sym s.0) z.0) (λ s. subst (λ (n : ℕ). n < nblocks P) (sym s.0) z.1) mv.choice.sides

  pub into_out : In a.into (a.x ∷ rest) → ⊥
  into_out i = mem-not_in a.into mv.choice.c.blocks mv.choice.apart (subst (In a.into) (sym found.blocks_are) i)

  pub apart : a.x ≡ a.into → ⊥
  apart e = into_out (inl (sym e))

  -- the lent room holds what is then in use
  abbrev regs_fit : Bool
  regs_fit = leb (apply P a).regs (length P.types)

  abbrev opers_fit : Bool
  opers_fit = leb (apply P a).opers (length P.ops)

  pub regs_room : length (fresh P a).types ≤ length P.types
  regs_room = leb→le (apply P a).regs (length P.types) (left regs_fit opers_fit (true_T (fits P (apply P a)) mv.room))

  pub opers_room : (apply P a).opers ≤ length P.ops
  opers_room = leb→le (apply P a).opers (length P.ops) (right regs_fit opers_fit (true_T (fits P (apply P a)) mv.room))

  -- the facts are those along the chain
  pub run_is : a.run ≡ analyse G P.ops [] (map (inst P.recs) (chain_places P (a.x ∷ rest)))
  run_is = mv.choice.run_is ∙ ap (λ (l : List ℕ). analyse G P.ops [] (map (inst P.recs) (chain_places P l))) found.blocks_are

  -- members stand before x's last instruction, and are movable
  member_movable : (p : ℕ) → member a.set p ≡ true → (p < size P a.x - 1) × T (movable (fact_at a.run p).does.class)
  member_movable p k = greatest_movable a.run (member (needed_of P a.into mv.choice.other)) (size P a.x - 1) p (subst (λ (s : List Bool). T (member s p)) mv.choice.set_is (true_T (member a.set p) k))

  pub member_inside : (p : ℕ) → member a.set p ≡ true → p < size P a.x - 1
  member_inside p k = (member_movable p k).0

  pub member_is_movable : (p : ℕ) → member a.set p ≡ true → (past : List Fact) × (is_movable G P.ops past (inst P.recs (starts P a.x + p)) ≡ true)
  member_is_movable p k =
      let ps = chain_places P (a.x ∷ rest) in
      let is = map (inst P.recs) ps in
      let l = lead P a.x rest p (member_inside p k) in
      let past = take p (analyse G P.ops [] is) in
      let its : fact_at a.run p ≡ fact G P.ops past (get_or is p []) = ap (λ (r : List Fact). fact_at r p) run_is ∙ fact_of G P.ops is p (subst (λ (n : ℕ). p < n) (sym (length-map ps (inst P.recs))) l.0) in (
        past,
        subst (λ (i : Inst). is_movable G P.ops past i ≡ true) (get_d_map (inst P.recs) 0 [] ps p l.0 ∙ ap (inst P.recs) l.1)
            (ap (λ (f : Fact). movable f.does.class) (sym its) ∙ T_true (movable (fact_at a.run p).does.class) (member_movable p k).1),
      )

  -- so they are of a kind that may move
  pub member_may : (p : ℕ) → member a.set p ≡ true → T (may_move (row (kind (inst P.recs (starts P a.x + p)))).arm)
  member_may p k =
      let z = member_is_movable p k in
      let i = inst P.recs (starts P a.x + p) in
      fact_moves G P.ops z.0 i (true_T (is_movable G P.ops z.0 i) z.1)

  -- as places of x
  pub member_below : (p : ℕ) → In p (members P a) → p < size P a.x
  member_below p i = let z = range_in p 0 (size P a.x) (filter_in (member a.set) p (upto (size P a.x)) i).0 in let h = z.1 in omega arith
