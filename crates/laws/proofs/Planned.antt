-- What a plan is: the chain, the target, the facts along the chain and the greatest legal set; and when there is none. Assumes nothing.
use Rattle.std.proofs.lemmas.Option.{none-some, same_Some}
use Rattle.std.specs.Prelude.{Option, None, Some}
use mathlib.Core.Path.{◌≡◌, refl, sym, ap, ap₂, ◌∙◌, subst}
use mathlib.Core.Logic.{◌⊎◌, inl, inr, ⊎_elim}
use mathlib.Core.Bool.{Bool, true, false, not, ◌&&◌, true≢false}
use mathlib.Core.List.{List, [], ◌∷◌}
use Prim.Native.Nat.{ℕ, ◌-◌, ◌≤◌, ◌<◌}
use native.Mathlib.Omega.{arith}
use lib.Dec.{T, ltb, leb, leb→le, nleb→lt}
use Rattle.words.specs.Lists.{In, upto, mem, same, member, count}
use Rattle.words.proofs.Bools.{left, right, true_T, T_false}
use Rattle.words.proofs.Lists.{same_eq}
use Rattle.words.proofs.Members.{range_in}
use Rattle.words.proofs.Sets.{◌⊑◌}
use Rattle.model.specs.Picture.{Picture, nblocks, size, callers}
use Rattle.model.specs.Analyse.{Facts, Fact}
use Rattle.model.specs.Legal.{LegalSet, greatest}
use Rattle.model.specs.Move.{Chain, chain, minimum, Plan, needed_of, set_for, is_target, plan, replays, run_of, worth_a_look, plan_chain, try_block}
use Rattle.model.specs.Pass.{first_plan, round}
use Rattle.laws.proofs.Greatest.{greatest_is_legal, greatest_contains, greatest_count}

-- the fewest members are three or eight
pub minimum_some : (b : Bool) → 3 ≤ minimum b
minimum_some true = omega arith
minimum_some false = omega arith

-- a plan from block x along chain c, into one branch and away from the other
pub record Planned (P : Picture) (run : List Fact) (x : ℕ) (c : Chain) (least into other : ℕ) (a : Plan) : Type 0 where
  pub x_is : a.x ≡ x
  pub into_is : a.into ≡ into
  pub run_is : a.run ≡ run
  pub set_is : a.set ≡ set_for P run x into other
  pub enough : least ≤ count a.set
  pub apart : mem into c.blocks ≡ false
  pub sole : callers P into ≡ c.last ∷ []

pub planned : (P : Picture) (run : List Fact) (x : ℕ) (c : Chain) (least into other : ℕ) (a : Plan) → plan P run x c least into other ≡ Some a → Planned P run x c least into other a
planned P run x c least into other a e = go (is_target P c into && leb least (count S)) refl e
  where
    S : List Bool
    S = set_for P run x into other

    go : (b : Bool) → (is_target P c into && leb least (count S)) ≡ b
        → ◌≡◌ {A = Option Plan} (elim b as (λ z. Option Plan) [ true ↦ Some (record { x = x; into = into; run = run; set = S }) | false ↦ None ]) (Some a) → Planned P run x c least into other a
    go false t e = absurd (none-some a e)
    go true t e =
        let f = same_Some (record { x = x; into = into; run = run; set = S }) a e in
        let u = true_T (is_target P c into && leb least (count S)) t in
        let v = left (is_target P c into) (leb least (count S)) u in
        record {
          x_is = ap (λ (z : Plan). z.x) (sym f);
          into_is = ap (λ (z : Plan). z.into) (sym f);
          run_is = ap (λ (z : Plan). z.run) (sym f);
          set_is = ap (λ (z : Plan). z.set) (sym f);
          enough = subst (λ (z : Plan). least ≤ count z.set) f (leb→le least (count S) (right (is_target P c into) (leb least (count S)) u));
          apart = T_false (mem into c.blocks) (left (not (mem into c.blocks)) (same (callers P into) (c.last ∷ [])) v);
          sole = same_eq (callers P into) (c.last ∷ []) (right (not (mem into c.blocks)) (same (callers P into) (c.last ∷ [])) v);
        }

-- ---- demand 2: a round moves the greatest legal set, and none if every legal set has fewer members than the minimum

module _ (P : Picture) (run : List Fact) (x : ℕ) (c : Chain) (least into other : ℕ) where
  -- a legal set for this target
  abbrev pub Lawful : (ℕ → Bool) → Type 0
  Lawful L = LegalSet run (member (needed_of P into other)) L (size P x - 1)

  -- what is planned is a legal set, every legal set lies within it, and it has the minimum
  pub planned_legal : (a : Plan) → plan P run x c least into other ≡ Some a → Lawful (member a.set)
  planned_legal a e =
      subst (λ (S : List Bool). Lawful (member S)) (sym (planned P run x c least into other a e).set_is) (greatest_is_legal run (member (needed_of P into other)) (size P x - 1))

  pub planned_greatest : (a : Plan) → plan P run x c least into other ≡ Some a → (L : ℕ → Bool) → Lawful L → L ⊑ member a.set
  planned_greatest a e L l =
      subst (λ (S : List Bool). L ⊑ member S) (sym (planned P run x c least into other a e).set_is) (greatest_contains run (member (needed_of P into other)) (size P x - 1) L l)

  -- where there is none, though the target is one, every legal set has fewer
  pub unplanned_few : plan P run x c least into other ≡ None → is_target P c into ≡ true → (S : List Bool) → Lawful (member S) → count S < least
  unplanned_few e t S l = go (leb least (count G)) refl
    where
      G : List Bool
      G = set_for P run x into other

      a : Plan
      a = record { x = x; into = into; run = run; set = G }

      go : (b : Bool) → leb least (count G) ≡ b → count S < least
      go true q = absurd (none-some a (sym e ∙ ap₂ (λ (u v : Bool). elim (u && v) as (λ z. Option Plan) [ true ↦ Some a | false ↦ None ]) t q))
      go false q =
          let most = greatest_count run (member (needed_of P into other)) (size P x - 1) S l in
          let few = nleb→lt least (count G) (subst (λ (b : Bool). T (not b)) (sym q) tt) in
          omega arith

-- ---- the plan of a round

pub record Chosen (P : Picture) (G : Facts) (a : Plan) : Type 0 where
  pub c : Chain
  pub other : ℕ
  pub is_chain : chain P a.x ≡ Some c
  pub x_block : a.x < nblocks P
  pub sides : ((a.into ≡ c.t) × (other ≡ c.f)) ⊎ ((a.into ≡ c.f) × (other ≡ c.t))
  pub run_is : a.run ≡ run_of P G c
  pub set_is : a.set ≡ greatest a.run (member (needed_of P a.into other)) (size P a.x - 1)
  pub apart : mem a.into c.blocks ≡ false
  pub sole : callers P a.into ≡ c.last ∷ []

module _ (P : Picture) (G : Facts) where
  from_side : (x : ℕ) (c : Chain) (a : Plan) (least into other : ℕ) → x < nblocks P → chain P x ≡ Some c
      → ((into ≡ c.t) × (other ≡ c.f)) ⊎ ((into ≡ c.f) × (other ≡ c.t)) → Planned P (run_of P G c) x c least into other a → Chosen P G a
  from_side x c a least into other h e s d = record {
    c = c;
    other = other;
    is_chain = ap (chain P) d.x_is ∙ e;
    x_block = subst (λ y. y < nblocks P) (sym d.x_is) h;
    sides = ⊎_elim (λ z. inl (d.into_is ∙ z.0, z.1)) (λ z. inr (d.into_is ∙ z.0, z.1)) s;
    run_is = d.run_is;
    set_is = d.set_is ∙ ap₂ (λ (r : List Fact) (y : ℕ). greatest r (member (needed_of P into other)) (size P y - 1)) (sym d.run_is) (sym d.x_is)
        ∙ ap (λ (y : ℕ). greatest a.run (member (needed_of P y other)) (size P a.x - 1)) (sym d.into_is);
    apart = ap (λ (y : ℕ). mem y c.blocks) d.into_is ∙ d.apart;
    sole = ap (callers P) d.into_is ∙ d.sole;
  }

  from_chain : (x : ℕ) (c : Chain) (a : Plan) → x < nblocks P → chain P x ≡ Some c → plan_chain P G x c ≡ Some a → Chosen P G a
  from_chain x c a h e q = go (worth_a_look P x c) q
    where
      least : ℕ
      least = minimum (replays P c)

      run : List Fact
      run = run_of P G c

      two : (o : Option Plan) → plan P run x c least c.t c.f ≡ o
          → ◌≡◌ {A = Option Plan} (elim o as (λ z. Option Plan) [ Some b ↦ Some b | None ↦ plan P run x c least c.f c.t ]) (Some a) → Chosen P G a
      two None f g = from_side x c a least c.f c.t h e (inr (refl, refl)) (planned P run x c least c.f c.t a g)
      two (Some b) f g = from_side x c a least c.t c.f h e (inl (refl, refl)) (planned P run x c least c.t c.f a (f ∙ g))

      go : (b : Bool) → ◌≡◌ {A = Option Plan} (elim b as (λ z. Option Plan) [
        | false ↦ None
        | true ↦ elim (plan P run x c least c.t c.f) as (λ z. Option Plan) [ Some a ↦ Some a | None ↦ plan P run x c least c.f c.t ]
      ]) (Some a) → Chosen P G a
      go false q = absurd (none-some a q)
      go true q = two (plan P run x c least c.t c.f) refl q

  from_block : (x : ℕ) (a : Plan) → x < nblocks P → try_block P G x ≡ Some a → Chosen P G a
  from_block x a h q = go (chain P x) refl q
    where
      go : (o : Option Chain) → chain P x ≡ o → ◌≡◌ {A = Option Plan} (elim o as (λ z. Option Plan) [ None ↦ None | Some c ↦ plan_chain P G x c ]) (Some a) → Chosen P G a
      go None e q = absurd (none-some a q)
      go (Some c) e q = from_chain x c a h e q

  -- the first of these blocks for which a move exists, or none of them
  found_first : (xs : List ℕ) (a : Plan) → first_plan P G xs ≡ Some a → (x : ℕ) × In x xs × (try_block P G x ≡ Some a)
  found_first [] a q = absurd (none-some a q)
  found_first (x ∷ xs) a q = go (found_first xs a) (ltb 3 (size P x)) q
    where
      later : (x' : ℕ) × In x' xs × (try_block P G x' ≡ Some a) → (y : ℕ) × In y (x ∷ xs) × (try_block P G y ≡ Some a)
      later z = (z.0, inr z.1, z.2)

      try : (first_plan P G xs ≡ Some a → (y : ℕ) × In y xs × (try_block P G y ≡ Some a)) → (o : Option Plan) → try_block P G x ≡ o
          → ◌≡◌ {A = Option Plan} (elim o as (λ z. Option Plan) [ Some a ↦ Some a | None ↦ first_plan P G xs ]) (Some a) → (y : ℕ) × In y (x ∷ xs) × (try_block P G y ≡ Some a)
      try k None f g = later (k g)
      try k (Some b) f g = (x, inl refl, f ∙ g)

      go : (first_plan P G xs ≡ Some a → (y : ℕ) × In y xs × (try_block P G y ≡ Some a)) → (b : Bool)
          → ◌≡◌ {A = Option Plan} (elim b as (λ z. Option Plan) [ false ↦ first_plan P G xs | true ↦ elim (try_block P G x) as (λ z. Option Plan) [ Some a ↦ Some a | None ↦ first_plan P G xs ] ]) (Some a)
          → (y : ℕ) × In y (x ∷ xs) × (try_block P G y ≡ Some a)
      go k false q = later (k q)
      go k true q = try k (try_block P G x) refl q

  pub none_first : (xs : List ℕ) → first_plan P G xs ≡ None → (x : ℕ) → In x xs → ltb 3 (size P x) ≡ true → try_block P G x ≡ None
  none_first [] q x i l = absurd i
  none_first (y ∷ ys) q x i l = go (none_first ys) (ltb 3 (size P y)) refl q i
    where
      try : (first_plan P G ys ≡ None → (x : ℕ) → In x ys → ltb 3 (size P x) ≡ true → try_block P G x ≡ None) → (o : Option Plan) → try_block P G y ≡ o
          → ◌≡◌ {A = Option Plan} (elim o as (λ z. Option Plan) [ Some a ↦ Some a | None ↦ first_plan P G ys ]) None → In x (y ∷ ys) → try_block P G x ≡ None
      try k None f g (inl e) = ap (try_block P G) e ∙ f
      try k None f g (inr j) = k g x j l
      try k (Some b) f g j = absurd (none-some b (sym g))

      go : (first_plan P G ys ≡ None → (x : ℕ) → In x ys → ltb 3 (size P x) ≡ true → try_block P G x ≡ None) → (b : Bool) → ltb 3 (size P y) ≡ b
          → ◌≡◌ {A = Option Plan} (elim b as (λ z. Option Plan) [ false ↦ first_plan P G ys | true ↦ elim (try_block P G y) as (λ z. Option Plan) [ Some a ↦ Some a | None ↦ first_plan P G ys ] ]) None
          → In x (y ∷ ys) → try_block P G x ≡ None
      go k false e g (inl f) = absurd (true≢false (sym l ∙ ap (λ (z : ℕ). ltb 3 (size P z)) f ∙ e))
      go k false e g (inr j) = k g x j l
      go k true e g j = try k (try_block P G y) refl g j

  pub chosen : (a : Plan) → round P G ≡ Some a → Chosen P G a
  chosen a q =
      let z = found_first (upto (nblocks P)) a q in
      let b = (range_in z.0 0 (nblocks P) z.1).1 in
      from_block z.0 a (omega arith) z.2
