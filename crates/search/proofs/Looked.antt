-- The search for the next block whose chain is to be tried (01, "A round": "the first block, in number order, of more than 3 instructions
-- for which a move exists"): the blocks that it passes over have no move, so that block by block it is `model`'s `first_plan`. Assumes nothing.
use Rattle.std.proofs.lemmas.Option.{none-some}
use Rattle.std.specs.Prelude.{Option, Some, None}
use mathlib.Core.Path.{◌≡◌, refl, sym, ap, ap₂, ◌∙◌, subst}
use mathlib.Core.Bool.{Bool, true, false}
use mathlib.Core.List.{List, [], ◌∷◌, ◌++◌}
use Prim.Native.Nat.{ℕ, suc, ◌+◌, ◌-◌, ◌*◌, ◌≤◌, ◌<◌}
use native.Mathlib.Nat.{zero-add, le_refl}
use native.Mathlib.Numerals.{add-one}
use native.Mathlib.Omega.{arith}
use lib.Dec.{ltb}
use lib.ListN.{get_or, length, take, drop}
use Rattle.words.specs.Lists.{range, upto}
use Rattle.words.proofs.Lists.{range_append, range_snoc}
use Rattle.model.specs.Picture.{Picture, nblocks, size}
use Rattle.model.specs.Refusal.{records}
use Rattle.model.specs.Analyse.{Facts}
use Rattle.model.specs.Move as M
use Rattle.model.specs.Move.{Plan, chain, min_replay, minimum, replays, worth_a_look, plan, run_of, plan_chain, try_block}
use Rattle.model.specs.Pass.{first_plan}
use Rattle.laws.proofs.Accepted.{Accepted, accepted}
use Rattle.laws.proofs.Admitted.{ends_goes, ends_parts}
use Rattle.laws.proofs.Sizes.{recs_length, block_within}
use Rattle.flow.proofs.Accepted.{graph_given}
use Rattle.chains.specs.declared.chain.Chain.{Chain}
use Rattle.chains.specs.Chain as C
use Rattle.chains.specs.Chain.{ended, chain_of, SoundOf, Sound, Blocks}
use Rattle.chains.specs.Places.{Pair, Laid, end_past}
use Rattle.chains.proofs.Laid.{laid_in}
use Rattle.analyse.proofs.Accepted.{pair_given}
use Rattle.worth.specs.Worth.{Worth}
use Rattle.sizes.specs.declared.Sizes.{Sizes}
use Rattle.sizes.specs.Parts.{preds_at}
use Rattle.chainwords.specs.Work.{Lists, Shown}
use Rattle.chains.specs.Chain.{chain_in}
use Rattle.worth.specs.Worth.{Chosen}
use Rattle.chainwords.proofs.Rooms.{Room, room, preds_lent, preds_room}
use Rattle.worth.proofs.Looks.{worth_long}
use Rattle.inst.specs.declared.index.BlockId.{BlockId}
use Rattle.search.specs.declared.find.Look.{Look}
use Rattle.search.specs.Search.{Sees, Seeking, IsLooked, Looked, IsPassed, Sought}

-- ---- `first_plan`, one block more

module _ (P : Picture) (G : Facts) where
  abbrev one_of : Option Plan → Option Plan → Option Plan
  one_of o rest = elim o as (λ z. Option Plan) [ Some a ↦ Some a | None ↦ rest ]

  abbrev pick : Bool → Option Plan → Option Plan → Option Plan
  pick b o rest = elim b as (λ z. Option Plan) [ false ↦ rest | true ↦ one_of o rest ]

  first_on : (xs ys : List ℕ) → first_plan P G xs ≡ None → first_plan P G (xs ++ ys) ≡ first_plan P G ys
  first_on [] ys e = refl
  first_on (x ∷ xs) ys e = go (first_on xs ys) (ltb min_replay (size P x)) (try_block P G x) e
    where
      go : (first_plan P G xs ≡ None → first_plan P G (xs ++ ys) ≡ first_plan P G ys) → (b : Bool) (o : Option Plan) → pick b o (first_plan P G xs) ≡ None
          → pick b o (first_plan P G (xs ++ ys)) ≡ first_plan P G ys
      go k false o q = k q
      go k true None q = k q
      go k true (Some a) q = absurd (none-some a (sym q))

  first_here : (x : ℕ) (ys : List ℕ) (a : Plan) → ltb min_replay (size P x) ≡ true → try_block P G x ≡ Some a → first_plan P G (x ∷ ys) ≡ Some a
  first_here x ys a l t = ap₂ (λ (b : Bool) (o : Option Plan). pick b o (first_plan P G ys)) l t

  first_skip : (x : ℕ) (ys : List ℕ) → (ltb min_replay (size P x) ≡ true → try_block P G x ≡ None) → first_plan P G (x ∷ ys) ≡ first_plan P G ys
  first_skip x ys h = go (ltb min_replay (size P x)) refl
    where
      go : (b : Bool) → ltb min_replay (size P x) ≡ b → pick b (try_block P G x) (first_plan P G ys) ≡ first_plan P G ys
      go true e = ap (λ (o : Option Plan). one_of o (first_plan P G ys)) (h e)
      go false e = refl

  upto_at : (b n : ℕ) → b < n → upto n ≡ upto b ++ (b ∷ range (suc b) (n - suc b))
  upto_at b n h =
      let e : n ≡ b + suc (n - suc b) = omega arith in
      ap (range 0) e ∙ sym (range_append 0 b (suc (n - suc b))) ∙ ap (λ (z : ℕ). range 0 b ++ range z (suc (n - suc b))) (zero-add b)

  pub first_at : (b n : ℕ) (a : Plan) → b < n → first_plan P G (upto b) ≡ None → ltb min_replay (size P b) ≡ true → try_block P G b ≡ Some a → first_plan P G (upto n) ≡ Some a
  first_at b n a h e l t =
      ap (first_plan P G) (upto_at b n h) ∙ first_on (upto b) (b ∷ range (suc b) (n - suc b)) e ∙ first_here b (range (suc b) (n - suc b)) a l t

  pub none_more : (b : ℕ) → first_plan P G (upto b) ≡ None → (ltb min_replay (size P b) ≡ true → try_block P G b ≡ None) → first_plan P G (upto (b + 1)) ≡ None
  none_more b e h =
      ap (λ (n : ℕ). first_plan P G (upto n)) (add-one b) ∙ ap (first_plan P G) (range_snoc 0 b) ∙ first_on (upto b) ((0 + b) ∷ []) e
      ∙ ap (λ (x : ℕ). first_plan P G (x ∷ [])) (zero-add b) ∙ first_skip b [] h

-- ---- one block, by its chain

module _ (P : Picture) (G : Facts) (x : ℕ) where
  abbrev by_chain : Option M.Chain → Option Plan
  by_chain o = elim o as (λ z. Option Plan) [ None ↦ None | Some c ↦ plan_chain P G x c ]

  abbrev by_worth : M.Chain → Bool → Option Plan
  by_worth c b = elim b as (λ z. Option Plan) [
    | false ↦ None
    | true ↦ elim (plan P (run_of P G c) x c (minimum (replays P c)) c.t c.f) as (λ z. Option Plan) [ Some a ↦ Some a | None ↦ plan P (run_of P G c) x c (minimum (replays P c)) c.f c.t ]
  ]

  no_chain : chain P x ≡ None → try_block P G x ≡ None
  no_chain e = ap by_chain e

  not_worth : (c : M.Chain) → chain P x ≡ Some c → worth_a_look P x c ≡ false → try_block P G x ≡ None
  not_worth c e f = ap by_chain e ∙ ap (by_worth c) f

  too_short : size P x ≤ 3 → try_block P G x ≡ None
  too_short h = go (chain P x) refl
    where
      low : (c : M.Chain) (b : Bool) → worth_a_look P x c ≡ b → worth_a_look P x c ≡ false
      low c true f = absurd (let a = worth_long P x c f in omega arith)
      low c false f = f

      go : (o : Option M.Chain) → chain P x ≡ o → try_block P G x ≡ None
      go None e = no_chain e
      go (Some c) e = not_worth c e (low c (worth_a_look P x c) refl)

sized : (P : Picture) {bounds : List ℕ} → bounds ≡ P.bounds → (x : ℕ) → get_or bounds (2 * x + 1) 0 - get_or bounds (2 * x) 0 ≡ size P x
sized P h x = ap (λ (l : List ℕ). get_or l (2 * x + 1) 0 - get_or l (2 * x) 0) h

-- with work slices of these lengths
pub shown_at : {bounds recs ops pairs targets replay : List ℕ} {s : Sizes} {P : Picture} {a b a' b' : ℕ} → a' ≡ a → b' ≡ b → Shown P bounds recs ops pairs targets replay s a b → Shown P bounds recs ops pairs targets replay s a' b'
shown_at {bounds} {recs} {ops} {pairs} {targets} {replay} {s} {P} {a} {b} {a'} {b'} e f h =
    subst (λ (z : ℕ). Shown P bounds recs ops pairs targets replay s z b') (sym e) (subst (λ (z : ℕ). Shown P bounds recs ops pairs targets replay s a z) (sym f) h)

-- what the parts of `look_from` ask
module _ {bounds recs replay : List ℕ} {s : Sizes} {work32 : List ℕ} (g : Seeking bounds recs replay s work32) where
  abbrev lists : Lists g.P bounds recs g.P.ops s g.sees.w64 (length work32)
  lists = g.sees.shown.lists

  good : Accepted g.P
  good = accepted g.P g.sees.w64 (length work32) records lists.accepted

  pub rooms : Room s.blocks s.regs s.lent g.sees.w64 (length work32)
  rooms = room lists

  pub preds_there : {p : ℕ} → p ≡ preds_at s → 2 * s.blocks ≤ length (take (length work32 - p) (drop p work32))
  preds_there e = subst (λ (p : ℕ). 2 * s.blocks ≤ length (take (length work32 - p) (drop p work32))) (sym e) (preds_room work32 lists)

  pair_ask : (x : ℕ) → x < s.blocks → Pair bounds x
  pair_ask x h = subst (λ (b : List ℕ). Pair b x) (sym lists.bounds_are) (pair_given g.P good x (let z = lists.blocks_are in omega arith))

  pub chain_asks : Blocks bounds recs s.blocks
  chain_asks =
      let P = g.P in
      let e = recs_length P good in
      let z : Blocks P.bounds P.recs (nblocks P) = record {
        block = λ b h. let y = (block_within P good b h).1 in record {
          pair = omega arith;
          whole = omega arith;
          kind = λ (l : get_or P.bounds (2 * b) 0 < get_or P.bounds (2 * b + 1) 0). ((graph_given P good).known (get_or P.bounds (2 * b + 1) 0 - 1) (omega (arith, l, y, e))).kind;
        };
        goes_in = λ b t h q. (ends_goes P good b t q).0;
        parts_in = λ b t f h q. ends_parts P good b t f q;
      } in
      subst (λ (b : List ℕ). Blocks b recs s.blocks) (sym lists.bounds_are)
      (subst (λ (r : List ℕ). Blocks P.bounds r s.blocks) (sym lists.recs_are) (subst (Blocks P.bounds P.recs) (sym lists.blocks_are) z))

  -- block x's bounds
  pub bounds_long : (x : ℕ) → x < s.blocks → 2 * x + 1 < length bounds
  bounds_long x h = let z = (pair_ask x h).size in omega arith

  pub bounds_order : (x : ℕ) → x < s.blocks → get_or bounds (2 * x) 0 ≤ get_or bounds (2 * x + 1) 0
  bounds_order x h = (pair_ask x h).order

  pub worth_asks : (x : ℕ) {r : Option Chain} {c : Chain} → x < s.blocks → SoundOf r s.blocks → r ≡ Some c
      → Laid bounds c × Pair bounds x × (16 * end_past bounds x ≤ length recs)
  worth_asks x h u f = (laid_in (subst (λ (y : Option Chain). SoundOf y s.blocks) f u) pair_ask, pair_ask x h, (chain_asks.block x h).whole)

-- what the chain search answers
abbrev Chains : List ℕ → List ℕ → Sizes → List ℕ → ℕ → Option Chain → Type 0
Chains bounds recs s work32 x r = C.Found bounds recs (take (length work32 - preds_at s) (drop (preds_at s) work32)) x s.blocks r

pub chains_at : {bounds recs : List ℕ} (s : Sizes) (work32 : List ℕ) {x : ℕ} {r : Option Chain} {p : ℕ} → p ≡ preds_at s → C.Found bounds recs (take (length work32 - p) (drop p work32)) x s.blocks r → Chains bounds recs s work32 x r
chains_at {bounds} {recs} s work32 {x} {r} e f = subst (λ (p : ℕ). C.Found bounds recs (take (length work32 - p) (drop p work32)) x s.blocks r) e f

-- what it answers
module _ {bounds recs replay : List ℕ} {s : Sizes} {work32 : List ℕ} (x : ℕ) where
  pub looked_short : get_or bounds (2 * x + 1) 0 - get_or bounds (2 * x) 0 ≤ 3 → Looked bounds recs replay s work32 x None
  looked_short h = record { is = λ P v G. too_short P G x (let z = sized P v.shown.lists.bounds_are x in omega arith) }

  chain_is : {r : Option Chain} (P : Picture) → Sees P bounds recs replay s work32 → Chains bounds recs s work32 x r → chain_of r ≡ chain P x
  chain_is P v f =
      f.is P (record { bounds_are = sym v.shown.lists.bounds_are; recs_are = sym v.shown.lists.recs_are; preds_are = preds_lent work32 v.shown.lists v.preds })

  pub looked_none : {r : Option Chain} → Chains bounds recs s work32 x r → r ≡ None → Looked bounds recs replay s work32 x None
  unfolding chain_of
  looked_none f e = record { is = λ P v G. no_chain P G x (sym (chain_is P v f) ∙ ap chain_of e) }

  this_chain : {r : Option Chain} {c : Chain} (P : Picture) → Sees P bounds recs replay s work32 → Chains bounds recs s work32 x r → r ≡ Some c → chain P x ≡ Some (chain_in c)
  unfolding chain_of ended
  this_chain P v f e = sym (chain_is P v f) ∙ ap chain_of e

  worth_is : {c : Chain} {b : Bool} (P : Picture) → Sees P bounds recs replay s work32 → Worth bounds recs replay c x b → b ≡ worth_a_look P x (chain_in c)
  worth_is {c} P v w = w.is P (sym v.shown.lists.bounds_are) (sym v.shown.lists.recs_are) (sym v.shown.replay_are)

  pub looked_low : {r : Option Chain} {c : Chain} {b : Bool} → Chains bounds recs s work32 x r → r ≡ Some c → Worth bounds recs replay c x b → b ≡ false → Looked bounds recs replay s work32 x None
  looked_low {r} {c} f e w z = record { is = λ P v G. not_worth P G x (chain_in c) (this_chain P v f e) (sym (worth_is P v w) ∙ z) }

  pub looked_here : {r : Option Chain} {c : Chain} {b : Bool} {y : BlockId} → y.0 ≡ x → x < s.blocks → Chains bounds recs s work32 x r → r ≡ Some c → Worth bounds recs replay c x b → b ≡ true
      → Looked bounds recs replay s work32 x (Some (record { x = y; c = c }))
  looked_here {r} {c} {b} {y} ey h f e w z = record {
    is = λ P v. (
      ey,
      record {
        x_block = subst (λ (n : ℕ). x < n) v.shown.lists.blocks_are h;
        sound = subst (Sound c) v.shown.lists.blocks_are (subst (λ (y : Option Chain). SoundOf y s.blocks) e f.sound);
        is_chain = this_chain P v f e;
        worth = sym (worth_is P v w) ∙ z;
      },
    );
  }

-- ---- the loop: no block from `from` up to b has a move

pub record Passing (bounds recs replay : List ℕ) (s : Sizes) (work32 : List ℕ) (from b : ℕ) : Type 0 where
  pub past : (P : Picture) → Sees P bounds recs replay s work32 → IsPassed P from b
  pub after : from ≤ b
  pub within : b ≤ s.blocks

module _ {bounds recs replay : List ℕ} {s : Sizes} {work32 : List ℕ} {from : ℕ} where
  pub passing_start : from ≤ s.blocks → Passing bounds recs replay s work32 from from
  passing_start h = record { past = λ P v G e. e; after = le_refl from; within = h }

  module _ {b : ℕ} (l : Passing bounds recs replay s work32 from b) (x : ℕ) (e : b ≡ x) {r : Option Look} (u : Looked bounds recs replay s work32 x r) where
    pub passing_more : b < s.blocks → r ≡ None → Passing bounds recs replay s work32 from (b + 1)
    passing_more h q = record {
      past = λ P v G z.
          none_more P G b (l.past P v G z)
          (λ y. subst (λ (i : ℕ). try_block P G i ≡ None) (sym e) (subst (IsLooked P x) q (u.is P v) G));
      after = let a = l.after in omega arith;
      within = omega arith;
    }

    pub passing_found : {k : Look} → r ≡ Some k → Sought bounds recs replay s work32 from (Some k)
    passing_found {k} q = record {
      is = λ P v.
          let w : IsLooked P x (Some k) = subst (IsLooked P x) q (u.is P v) in
          let a : b ≡ k.x.0 = e ∙ sym w.0 in
          (subst (λ (i : ℕ). from ≤ i) a l.after, subst (IsPassed P from) a (l.past P v), subst (λ (i : ℕ). Chosen P i k.c) (sym w.0) w.1);
    }

  pub passing_end : {b : ℕ} → Passing bounds recs replay s work32 from b → s.blocks ≤ b → Sought bounds recs replay s work32 from None
  passing_end {b} l h = record {
    is = λ P v. let w = l.within in let n = v.shown.lists.blocks_are in let e : b ≡ nblocks P = omega arith in subst (IsPassed P from) e (l.past P v);
  }
