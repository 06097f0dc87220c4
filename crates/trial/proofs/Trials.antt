-- `try_chain`: the chain from the block, which is worth a look, is tried, and the answer is `model`'s `try_block`. Assumes nothing.
use Rattle.std.specs.Prelude.{Option, Some, None}
use mathlib.Core.Path.{◌≡◌, refl, sym, ap, ap₂, ◌∙◌, subst}
use mathlib.Core.Bool.{Bool, true, false}
use mathlib.Core.List.{List, [], ◌∷◌}
use Prim.Native.Nat.{ℕ, ◌+◌, ◌-◌, ◌*◌, ◌≤◌, ◌<◌}
use native.Mathlib.Omega.{arith}
use lib.ListN.{get_or, length}
use Rattle.model.specs.Picture.{Picture, nblocks, size}
use Rattle.model.specs.Refusal.{records}
use Rattle.model.specs.Analyse.{Facts}
use Rattle.model.specs.Move as M
use Rattle.model.specs.Move.{Plan, chain, chain_places, replays, worth_a_look, plan_chain, try_block}
use Rattle.laws.proofs.Accepted.{Accepted, accepted}
use Rattle.laws.proofs.Admitted.{ends_parts}
use Rattle.laws.proofs.Chains.{Found, chain_found, last_of_chain, lead_length}
use Rattle.laws.proofs.Planned.{minimum_some}
use Rattle.chains.specs.declared.chain.Chain.{Chain}
use Rattle.chains.specs.Chain.{blocks_of}
use Rattle.facts.specs.declared.Fact as F
use Rattle.facts.specs.Marks.{bare}
use Rattle.apply.specs.Apply.{Stands}
use Rattle.sizes.specs.declared.Sizes.{Sizes}
use Rattle.search.specs.declared.find.Look.{Look}
use Rattle.trial.specs.declared.target.Goal.{Goal}
use Rattle.apply.specs.declared.moves.Move.{Move}
use Rattle.chainwords.specs.Work.{chain_words, Lists, Shown}
use Rattle.chainwords.specs.Along.{Along, Chained, Learning, Learnt}
use Rattle.chains.specs.Chain.{chain_in}
use Rattle.trial.specs.Target.{Trying, TargetTried}
use Rattle.trial.specs.Trial.{IsTried, toward_t, toward_f, found, Following, Followed}
use Rattle.worth.specs.Worth.{Chosen}
use Rattle.worth.proofs.Looks.{worth_facts, worth_long}
use Rattle.trial.proofs.Planned.{along_behind, lists_of}
use Rattle.trial.proofs.Moves.{plan_in, MovesBy, held_both, first_plan}

-- ---- the chain from x

module _ (P : Picture) (k : Look) (e : chain P k.x.0 ≡ Some (chain_in k.c)) where
  abbrev x : ℕ
  x = k.x.0

  abbrev c : Chain
  c = k.c

  on_chain : Found P (x ∷ []) x (chain_in c)
  on_chain = chain_found P x (chain_in c) e

  first_is : get_or (blocks_of c) 0 0 ≡ x
  first_is = ap (λ (l : List ℕ). get_or l 0 0) on_chain.blocks_are

  inner : size P x - 1 ≤ length (chain_places P (blocks_of c))
  inner = subst (λ (l : List ℕ). size P x - 1 ≤ length (chain_places P l)) (sym on_chain.blocks_are) (lead_length P x on_chain.rest)

  branches : Accepted P → (c.t.0 < nblocks P) × (c.f.0 < nblocks P)
  branches ok = ends_parts P ok (last_of_chain x on_chain.rest) c.t.0 c.f.0 on_chain.ends_in

  -- ---- `model`'s answer for it

  module _ (G : Facts) (n : ℕ) (f : worth_a_look P x (chain_in c) ≡ true) where
    -- what t is tried with
    abbrev aim : Goal
    aim = toward_t P.bounds P.replay k n

    look : try_block P G x ≡ plan_in P G x c aim
    look = ap (λ (o : Option M.Chain). elim o as (λ z. Option Plan) [ None ↦ None | Some d ↦ plan_chain P G x d ]) e ∙ ap (λ (b : Bool). elim b as (λ z. Option Plan) [ false ↦ None | true ↦ plan_in P G x c aim ]) f

    -- the move
    tried_is : (w : List ℕ) (r : Option Move) → MovesBy P G x c aim r w → IsTried P G x r w
    tried_is w (Some mv) z = record {
      a = z.a;
      c = chain_in c;
      is = look ∙ z.is;
      is_chain = e;
      from_is = z.from_is;
      into_is = z.into_is;
      moved_is = z.moved_is;
      in_x = z.inside_is;
      stands = subst (λ (i : ℕ). Stands P z.a i mv.places w) (sym z.inside_is) (subst (λ (i : ℕ). Stands P z.a (size P x - 1) i w) (sym z.places_is) z.marked.stands);
      places = λ i l. z.numbers i (subst (λ (y : ℕ). i < y) z.places_is l);
      lasts = λ p l. z.marked.lasts p (subst (λ (y : ℕ). p < y) z.inside_is l);
      wrotes = λ p l. z.marked.wrotes p (subst (λ (y : ℕ). p < y) z.inside_is l);
    }
    tried_is w None z = look ∙ z

-- ---- sizes of x

size_is : {P : Picture} {bounds recs ops : List ℕ} {s : Sizes} {w64 w32 : ℕ} (x : ℕ) → Lists P bounds recs ops s w64 w32 → get_or bounds (2 * x + 1) 0 - get_or bounds (2 * x) 0 ≡ size P x
size_is x l = ap (λ (b : List ℕ). get_or b (2 * x + 1) 0 - get_or b (2 * x) 0) l.bounds_are

chained_here : {P : Picture} {c : Chain} {x : ℕ} → Chosen P x c → Chained P c
chained_here {P} {c} {x} h = record { sound = h.sound; short = (worth_facts P x (chain_in c) h.worth).1 }

-- ---- `try_chain`

module _ {bounds recs ops pairs targets replay : List ℕ} {s : Sizes} (k : Look) {work64 work32 : List ℕ} (p : Following bounds recs ops pairs targets replay s k.x.0 k.c work64 work32) where
  good : Accepted p.given.P
  good = accepted p.given.P (length work64) (length work32) records p.given.shown.lists.accepted

  size_some : 3 < get_or bounds (2 * k.x.0 + 1) 0 - get_or bounds (2 * k.x.0) 0
  size_some = let a = worth_long p.given.P k.x.0 (chain_in k.c) p.chosen.worth in let f = size_is k.x.0 p.given.shown.lists in omega arith

  -- what `toward_t` asks
  pub measured : (2 * k.x.0 + 1 < length bounds) × (get_or bounds (2 * k.x.0) 0 < get_or bounds (2 * k.x.0 + 1) 0)
  measured =
      let b = p.chosen.x_block in
      let l : length bounds ≡ length p.given.P.bounds = ap length p.given.shown.lists.bounds_are in
      (omega arith, let z = size_some in omega arith)

  pub learning : {fs : List F.Fact} → 800 ≤ length fs → Learning bounds recs ops s k.c work64 work32 fs
  learning h = record { P = p.given.P; G = p.given.G; lists = p.given.shown.lists; held = p.given.held; chained = chained_here p.chosen; room = h }

-- what a picture of these lists has
toward_shown : {P : Picture} {bounds recs ops pairs targets replay : List ℕ} {s : Sizes} {w64 w32 : ℕ} (k : Look) (n : ℕ) → Shown P bounds recs ops pairs targets replay s w64 w32 → toward_t bounds replay k n ≡ toward_t P.bounds P.replay k n
toward_shown k n d = ap₂ (λ (b r : List ℕ). toward_t b r k n) d.lists.bounds_are d.replay_are

-- the facts are found, and g is what t is tried with
module _ {bounds recs ops pairs targets replay : List ℕ} {s : Sizes} (k : Look) {work64 work32 : List ℕ} (p : Following bounds recs ops pairs targets replay s k.x.0 k.c work64 work32) (fs : List F.Fact) (h : 800 ≤ length fs)
    {fs₁ : List F.Fact} {work64₁ work32₁ : List ℕ} {n : ℕ} (q : Learnt bounds recs ops s k.c work64 work32 work64₁ work32₁ fs₁ n) (e : length fs₁ ≡ length fs) {g : Goal} (v : g ≡ toward_t bounds replay k n) where
  pub trying_t : Trying bounds recs ops pairs targets s k.c (bare fs₁) work64₁ work32₁ g × (g.places ≤ length fs₁)
  trying_t =
      let P = p.given.P in
      let G = p.given.G in
      let d = p.given.shown in
      let ch = chained_here p.chosen in
      let a = q.along P G d.lists p.given.held ch in
      let two = branches P k p.chosen.is_chain (good k p) in
      let long = a.long in
      let few = a.few in
      let fits = inner P k p.chosen.is_chain in
      let z = size_is k.x.0 d.lists in
      subst (λ (i : Goal). Trying bounds recs ops pairs targets s k.c (bare fs₁) work64₁ work32₁ i × (i.places ≤ length fs₁)) (sym v) (
        record {
          planning = record {
            P = P;
            G = G;
            lists = lists_of q.size64 q.size32 d.lists;
            held = q.held P G d.lists p.given.held;
            chained = ch;
            along = a;
            into_block = two.0;
            in_x = omega arith;
          };
          tabled = d.tabled;
          other_block = two.1;
        },
        omega arith,
      )

  -- after t was tried: m members move into it, and i is what f is tried with
  module _ (fs₂ : List F.Fact) {work64₂ work32₂ : List ℕ} {m : ℕ} (o : TargetTried bounds recs ops pairs targets s k.c (bare fs₁) work64₁ work32₁ g work64₂ work32₂ m × (bare fs₂ ≡ bare fs₁)) (e₂ : length fs₂ ≡ length fs₁) {i : Goal} (u : i ≡ toward_f g m) where
    pub trying_f : Trying bounds recs ops pairs targets s k.c (bare fs₂) work64₂ work32₂ i × (i.places ≤ length fs₂)
    trying_f =
        let t = trying_t.0 in
        let j = t.planning in
        let r = o.0 in
        let z = trying_t.1 in
        subst (λ (i : Goal). Trying bounds recs ops pairs targets s k.c (bare fs₂) work64₂ work32₂ i × (i.places ≤ length fs₂)) (sym u) (
          record {
            planning = record {
              P = j.P;
              G = j.G;
              lists = lists_of r.size64 r.size32 j.lists;
              held = r.held j.P j.G j.lists t.tabled j.held;
              chained = j.chained;
              along = subst (λ (y : List F.Fact). Along j.P j.G k.c y work32₂ g.places) (sym o.1) (along_behind r.behind j.along);
              into_block = t.other_block;
              in_x = j.in_x;
            };
            tabled = t.tabled;
            other_block = j.into_block;
          },
          omega arith,
        )

    -- after f was tried
    pub followed : {work64₃ work32₃ : List ℕ} {l : ℕ} → TargetTried bounds recs ops pairs targets s k.c (bare fs₂) work64₂ work32₂ i work64₃ work32₃ l
        → Followed bounds recs ops pairs targets replay s k.x.0 k.c work64 work32 work64₃ work32₃ (found k.x g m l)
    followed {work64₃} {work32₃} {l} j =
        let first = o.0 in
        let second : TargetTried bounds recs ops pairs targets s k.c (bare fs₁) work64₂ work32₂ (toward_f g m) work64₃ work32₃ l =
        subst (λ (y : List F.Fact). TargetTried bounds recs ops pairs targets s k.c y work64₂ work32₂ (toward_f g m) work64₃ work32₃ l) o.1
        (subst (λ (y : Goal). TargetTried bounds recs ops pairs targets s k.c (bare fs₂) work64₂ work32₂ y work64₃ work32₃ l) u j) in
        record {
          size64 = second.size64 ∙ first.size64 ∙ q.size64;
          size32 = second.size32 ∙ first.size32 ∙ q.size32;
          held = λ P G d y. held_both first second P G (lists_of q.size64 q.size32 d.lists) d.tabled (q.held P G d.lists y);
          is = λ P G d y b.
              let to_t : g ≡ toward_t P.bounds P.replay k n = v ∙ toward_shown k n d in
              let inside : g.inside ≡ size P k.x.0 - 1 = ap (λ (z : Goal). z.inside) to_t in
              let places : n ≡ g.places = ap (λ (z : Goal). z.places) (sym v) in
              let three : 3 ≤ g.least = subst (λ (z : Goal). 3 ≤ z.least) (sym to_t) (minimum_some (replays P (chain_in k.c))) in
              let some? : 0 < g.least = omega arith in
              let along = subst (Along P G k.c (bare fs₁) work32₁) places (q.along P G d.lists y (chained_here b)) in
              tried_is P k b.is_chain G n b.worth (chain_words work32₃) (found k.x g m l)
              (subst (λ (z : Goal). MovesBy P G k.x.0 k.c z (found k.x g m l) (chain_words work32₃)) to_t
              (first_plan first second some? P G k.x.0 (lists_of q.size64 q.size32 d.lists) d.tabled (q.held P G d.lists y) along (record { first = first_is P k b.is_chain; inside = inside }) k.x refl));
        }
