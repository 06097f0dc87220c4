-- What the move asks (apply/specs/Apply), of an accepted picture and a plan that the search found, with the words that stand for it.
-- Assumes nothing.
use Rattle.std.proofs.lemmas.Option.{none-some}
use Rattle.std.specs.Prelude.{Option, None, Some}
use mathlib.Core.Path.{◌≡◌, refl, sym, ap, ◌∙◌, subst}
use mathlib.Core.Logic.{◌⊎◌, inl, inr, ⊎_elim}
use mathlib.Core.Bool.{Bool, true, false, ◌&&◌, ◌||◌}
use mathlib.Core.List.{List, [], ◌∷◌, ◌++◌, map}
use Prim.Native.Nat.{ℕ, zero, suc, ◌+◌, ◌-◌, ◌*◌, ◌≤◌, ◌<◌}
use native.Mathlib.Nat.{zero-add, not-suc-le-zero, le_of_suc-le-suc}
use native.Mathlib.Omega.{arith}
use borrow.Author.Tests.{ne_eqb, leb-false}
use lib.Dec.{eqb, leb, eqb→eq, leb→le}
use lib.ListN.{get_or, length, take, length-append, length-map}
use lib.Seq.{length-take-le, get_or-append-add}
use Rattle.words.specs.Lists.{In, any, mem}
use Rattle.words.proofs.Bools.{left, right, true_T, or_left, or_right, not_false_T, lt?}
use Rattle.words.proofs.Lists.{length_range, get_or-range}
use Rattle.words.proofs.Members.{in_split, in_take, in_get_or, mem-not_in, range_in}
use Rattle.words.proofs.Parts.{get_d_part}
use Rattle.model.specs.Kinds.{Role, off, wr, rd, wr?, rd?, Cat}
use Rattle.model.specs.Picture.{Picture, inst, absent, is_kind, form, roles, slots, nblocks, starts, ends, size, places, code}
use Rattle.model.specs.Refusal.{bad_slot, bad_slots}
use Rattle.model.specs.Analyse.{Facts}
use Rattle.model.specs.Move.{Chain, Plan, chain, chain_places, minimum, max_seq, plan, replays, run_of, worth_a_look, plan_chain, try_block}
use Rattle.laws.proofs.Accepted.{Accepted}
use Rattle.laws.proofs.Admitted.{ends_parts, list_in, operand_at}
use Rattle.laws.proofs.Analysed.{length_analyse}
use Rattle.laws.proofs.Blocks.{in_turn, size_past}
use Rattle.laws.proofs.Chains as Chains
use Rattle.laws.proofs.Chains.{chain_found, last_of_chain, links_apart, lead_length}
use Rattle.laws.proofs.Planned.{planned, minimum_some}
use Rattle.laws.proofs.Renamed.{optional_there}
use Rattle.laws.proofs.Sizes as S
use Rattle.laws.proofs.Sizes.{recs_length, place_below, block_within}
use Rattle.inst.specs.Record.{Known}
use Rattle.inst.proofs.Words.{slots_long, slot_is}
use Rattle.flow.proofs.Accepted.{graph_given}
use Rattle.rename.specs.Runs.{Line, Operands}
use Rattle.apply.specs.Apply.{Asks}
use Rattle.apply.specs.declared.moves.Move.{Move}
use Rattle.trial.specs.Trial.{Found}

-- ---- the plan of a block

record Tells (P : Picture) (G : Facts) (x : ℕ) (c : Chain) (a : Plan) : Type 0 where
  x_is : a.x ≡ x
  run_is : a.run ≡ run_of P G c
  apart : mem a.into c.blocks ≡ false
  side : (a.into ≡ c.t) ⊎ (a.into ≡ c.f)
  worth : worth_a_look P x c ≡ true

module _ (P : Picture) (G : Facts) (x : ℕ) (c : Chain) (a : Plan) where
  one_side : (least into other : ℕ) → (into ≡ c.t) ⊎ (into ≡ c.f) → worth_a_look P x c ≡ true → plan P (run_of P G c) x c least into other ≡ Some a → Tells P G x c a
  one_side least into other s l e =
      let d = planned P (run_of P G c) x c least into other a e in
      record {
        x_is = d.x_is;
        run_is = d.run_is;
        apart = ap (λ (n : ℕ). mem n c.blocks) d.into_is ∙ d.apart;
        side = ⊎_elim (λ z. inl (d.into_is ∙ z)) (λ z. inr (d.into_is ∙ z)) s;
        worth = l;
      }

  abbrev least_of : ℕ
  least_of = minimum (replays P c)

  abbrev along : ℕ → ℕ → Option Plan
  along into other = plan P (run_of P G c) x c least_of into other

  tells : chain P x ≡ Some c → try_block P G x ≡ Some a → Tells P G x c a
  tells e q = go (worth_a_look P x c) refl (sym (ap (λ (o : Option Chain). elim o as (λ z. Option Plan) [ None ↦ None | Some d ↦ plan_chain P G x d ]) e) ∙ q)
    where
      two : worth_a_look P x c ≡ true → (o : Option Plan) → along c.t c.f ≡ o → ◌≡◌ {A = Option Plan} (elim o as (λ z. Option Plan) [ Some b ↦ Some b | None ↦ along c.f c.t ]) (Some a) → Tells P G x c a
      two l None f g = one_side least_of c.f c.t (inr refl) l g
      two l (Some b) f g = one_side least_of c.t c.f (inl refl) l (f ∙ g)

      go : (b : Bool) → worth_a_look P x c ≡ b
          → ◌≡◌ {A = Option Plan} (elim b as (λ z. Option Plan) [ false ↦ None | true ↦ elim (along c.t c.f) as (λ z. Option Plan) [ Some b ↦ Some b | None ↦ along c.f c.t ] ]) (Some a) → Tells P G x c a
      go false l q = absurd (none-some a q)
      go true l q = two l (along c.t c.f) refl q

  abbrev long : Bool
  long = leb least_of (size P x - 1)

  abbrev short : Bool
  short = leb (length (chain_places P c.blocks)) max_seq

  abbrev cats : Bool
  cats = replays P c || any (λ i. is_kind Cat i && eqb (form i) 0) (take (size P x - 1) (code P x))

  worth_long : worth_a_look P x c ≡ true → 3 ≤ size P x - 1
  worth_long e =
      let l = leb→le least_of (size P x - 1) (left long short (left (long && short) cats (true_T (long && short && cats) e))) in
      let m = minimum_some (replays P c) in
      omega arith

  worth_short : worth_a_look P x c ≡ true → length (chain_places P c.blocks) ≤ 800
  worth_short e = leb→le (length (chain_places P c.blocks)) max_seq (right long short (left (long && short) cats (true_T (long && short && cats) e)))

-- ---- the places of a chain

module _ (P : Picture) where
  places_in : (bs : List ℕ) (q : ℕ) → In q (chain_places P bs) → (b : ℕ) × In b bs × In q (places P b)
  places_in [] q i = absurd i
  places_in (b ∷ []) q i = (b, inl refl, i)
  places_in (b ∷ c ∷ bs) q i = go (λ j. places_in (c ∷ bs) q j) (in_split q (take (size P b - 1) (places P b)) (chain_places P (c ∷ bs)) i)
    where
      go : (In q (chain_places P (c ∷ bs)) → (y : ℕ) × In y (c ∷ bs) × In q (places P y)) → In q (take (size P b - 1) (places P b)) ⊎ In q (chain_places P (c ∷ bs))
          → (y : ℕ) × In y (b ∷ c ∷ bs) × In q (places P y)
      go k (inl j) = (b, inl refl, in_take q (size P b - 1) (places P b) j)
      go k (inr j) = let z = k j in (z.0, inr z.1, z.2)

  module _ (ok : Accepted P) where
    -- a place of another block is before x or behind it
    other_block : (x b q : ℕ) → x < nblocks P → (b ≡ x → ⊥) → In q (places P b) → starts P x ≤ q → ends P x ≤ q
    other_block x b q h ne i l =
        let z = (place_below P ok b q i).0 in
        let r = range_in q (starts P b) (size P b) i in
        let r0 = r.0 in
        let r1 = r.1 in
        let w = (block_within P ok b z).0 in
        ⊎_elim (λ (u : x < b). let t = in_turn 0 (length P.locs) P.bounds ok.laid x b u z in omega arith)
        (λ (u : b ≤ x).
        let n : b ≡ x → ⊥ = ne in
        let t = in_turn 0 (length P.locs) P.bounds ok.laid b x (omega arith) h in
        absurd (omega arith)) (lt? x b)

    rest_place : (x : ℕ) (cs : List ℕ) (p : ℕ) → (In x cs → ⊥) → x < nblocks P → size P x - 1 ≤ p → p < length (chain_places P (x ∷ cs)) → starts P x ≤ get_or (chain_places P (x ∷ cs)) p 0
        → starts P x + (size P x - 1) ≤ get_or (chain_places P (x ∷ cs)) p 0
    rest_place x [] p ne h m l s = let e = get_or-range (starts P x) (size P x) p (subst (λ (n : ℕ). p < n) (length_range (starts P x) (size P x)) l) in omega arith
    rest_place x (c ∷ cs) p ne h m l s =
        let first = take (size P x - 1) (places P x) in
        let others = chain_places P (c ∷ cs) in
        let len : length first ≡ size P x - 1 = length-take-le (size P x - 1) (places P x) (let e = length_range (starts P x) (size P x) in omega arith) in
        let at : p ≡ length first + (p - (size P x - 1)) = omega arith in
        let e : get_or (first ++ others) p 0 ≡ get_or others (p - (size P x - 1)) 0 = ap (λ (k : ℕ). get_or (first ++ others) k 0) at ∙ get_or-append-add first others (p - (size P x - 1)) 0 in
        let all : length (first ++ others) ≡ length first + length others = length-append first others in
        let z = places_in (c ∷ cs) (get_or others (p - (size P x - 1)) 0) (in_get_or 0 others (p - (size P x - 1)) (omega arith)) in
        let o = other_block x z.0 (get_or others (p - (size P x - 1)) 0) h (λ q. ne (subst (λ (y : ℕ). In y (c ∷ cs)) q z.1)) z.2 (omega arith) in
        let w = (block_within P ok x h).0 in
        omega arith

-- ---- records and operands

slot_fits : (R : ℕ) (os : List Role) (rs : List ℕ) → bad_slots R os rs ≡ false → (s : ℕ) → s < length rs → (get_or rs s 0 ≡ absent → ⊥) → get_or rs s 0 < R
slot_fits R os [] b s h a = absurd (not-suc-le-zero h)
slot_fits R [] (r ∷ rs) b zero h a = absurd (a (eqb→eq r absent (not_false_T (eqb r absent) (or_left (bad_slot R off r) (bad_slots R [] rs) b))))
slot_fits R [] (r ∷ rs) b (suc s) h a = slot_fits R [] rs (or_right (bad_slot R off r) (bad_slots R [] rs) b) s (le_of_suc-le-suc h) a
slot_fits R (o ∷ os) (r ∷ rs) b zero h a = go o (or_left (bad_slot R o r) (bad_slots R os rs) b)
  where
    go : (o : Role) → bad_slot R o r ≡ false → r < R
    go off c = absurd (a (eqb→eq r absent (not_false_T (eqb r absent) c)))
    go wr c = leb-false R r c
    go rd c = leb-false R r c
    go wr? c = leb-false R r (optional_there (leb R r) (eqb r absent) c (ne_eqb r absent a))
    go rd? c = leb-false R r (optional_there (leb R r) (eqb r absent) c (ne_eqb r absent a))
slot_fits R (o ∷ os) (r ∷ rs) b (suc s) h a = slot_fits R os rs (or_right (bad_slot R o r) (bad_slots R os rs) b) s (le_of_suc-le-suc h) a

module _ (P : Picture) (ok : Accepted P) where
  word_at : (q k : ℕ) → k < 16 → get_or (inst P.recs q) k 0 ≡ get_or P.recs (16 * q + k) 0
  word_at q k h = get_d_part P.recs (16 * q) 16 k 0 h

  pub line_given : (q : ℕ) → q < length P.locs → Line P.regs P.opers P.recs q
  line_given q h = record {
    known = known;
    few_regs = let a = S.regs_lent P ok in let b = S.few_types P ok in omega arith;
    slots_ok = λ s l a.
        let i = inst P.recs q in
        let same : get_or (slots i) s 0 ≡ get_or P.recs (16 * q + 2 + s) 0 =
        slot_is i s l ∙ word_at q (2 + s) (omega arith) ∙ ap (λ (k : ℕ). get_or P.recs k 0) (sums s) in
        subst (λ (n : ℕ). n < P.regs) same
        (slot_fits P.regs (roles i) (slots i) (ok.each q h).slots_fit s (rw (slots_long P.recs q known.within) l) (λ e. a (sym same ∙ e)));
    list_ok = let z = list_in P (inst P.recs q) (ok.each q h) in let u = word_at q 7 (omega arith) in let v = word_at q 8 (omega arith) in omega arith;
  }
    where
      known : Known P.recs q
      known = (graph_given P ok).known q (let e = recs_length P ok in omega arith)

      sums : (s : ℕ) → 16 * q + (2 + s) ≡ 16 * q + 2 + s
      sums s = omega arith

  pub operands_given : Operands P.regs P.opers P.ops
  operands_given = record { lent = S.opers_lent P ok; few = let f = S.few_ops P ok in omega arith; each = λ k h. operand_at P ok k h }

-- ---- all that is asked

module _ {P : Picture} (ok : Accepted P) {G : Facts} {x : ℕ} {mv : Move} {w : List ℕ} (f : Found P G x mv w) (long : length w ≡ 8000) where
  told : Tells P G x f.c f.a
  told = tells P G x f.c f.a f.is_chain f.is

  found : Chains.Found P (x ∷ []) x f.c
  found = chain_found P x f.c f.is_chain

  many : 3 ≤ size P x - 1
  many = worth_long P G x f.c f.a told.worth

  run_long : length f.a.run ≡ length (chain_places P f.c.blocks)
  run_long =
      ap length told.run_is ∙ length_analyse G P.ops [] (map (inst P.recs) (chain_places P f.c.blocks))
      ∙ zero-add (length (map (inst P.recs) (chain_places P f.c.blocks))) ∙ length-map (chain_places P f.c.blocks) (inst P.recs)

  places_long : mv.places ≡ length (chain_places P (x ∷ found.rest))
  places_long = sym f.stands.long ∙ run_long ∙ ap (λ (l : List ℕ). length (chain_places P l)) found.blocks_are

  places_few : mv.places ≤ 800
  places_few = let a = sym f.stands.long ∙ run_long in let b = worth_short P G x f.c f.a told.worth in omega arith

  x_block : x < nblocks P
  x_block = ⊎_elim (λ (h : x < nblocks P). h) (λ (h : nblocks P ≤ x). let z = size_past P x h in let m = many in absurd (omega arith)) (lt? x (nblocks P))

  into_block : f.a.into < nblocks P
  into_block =
      let z = ends_parts P ok (last_of_chain x found.rest) f.c.t f.c.f found.ends_in in
      ⊎_elim (λ s. subst (λ (n : ℕ). n < nblocks P) (sym s) z.0) (λ s. subst (λ (n : ℕ). n < nblocks P) (sym s) z.1) told.side

  apart : x ≡ f.a.into → ⊥
  apart e = mem-not_in f.a.into f.c.blocks told.apart (subst (In f.a.into) (sym found.blocks_are) (inl (sym e)))

  place_is : (p : ℕ) → p < mv.places → get_or w (10 * p) 0 ≡ get_or (chain_places P (x ∷ found.rest)) p 0
  place_is p h = f.places p h ∙ ap (λ (l : List ℕ). get_or (chain_places P l) p 0) found.blocks_are

  pub x_is : f.a.x ≡ x
  x_is = told.x_is

  pub asked : Asks x f.a.into mv.inside mv.places P.regs P.opers (length P.types) (length P.locs) P.bounds P.recs P.types P.ops w
  asked = record {
    laid = ok.laid;
    x_in = x_block;
    t_in = into_block;
    apart = apart;
    some = let a = f.in_x in let b = many in omega arith;
    inside = let a = f.in_x in omega arith;
    few = let a = in_chain in let b = places_few in omega arith;
    chain = in_chain;
    words = let b = places_few in omega arith;
    whole = recs_length P ok;
    few_insts = S.few_insts P ok;
    names = S.regs_lent P ok;
    few_names = let a = S.few_types P ok in omega arith;
    regs = S.regs_lent P ok;
    few_types = S.few_types P ok;
    types_ok = λ d h. let z = S.types_low P ok d h in omega arith;
    until_ok = f.lasts;
    wrote_ok = f.wrotes;
    lines = line_given P ok;
    operands = operands_given P ok;
    rest_in = λ p m h.
        let z = places_in P (x ∷ found.rest) (get_or (chain_places P (x ∷ found.rest)) p 0) (in_get_or 0 (chain_places P (x ∷ found.rest)) p (let e = places_long in omega arith)) in
        subst (λ (q : ℕ). q < length P.locs) (sym (place_is p h)) (place_below P ok z.0 (get_or (chain_places P (x ∷ found.rest)) p 0) z.2).1;
    rest_apart = λ p m h l.
        let e = place_is p h in
        let n = places_long in
        let i = f.in_x in
        let r = rest_place P ok x found.rest p (λ j. links_apart P (x ∷ []) x x found.rest found.links (inl refl) j) x_block (omega arith) (omega arith) (omega arith) in
        omega arith;
  }
    where
      in_chain : mv.inside ≤ mv.places
      in_chain = let a = f.in_x in let b = places_long in let c = lead_length P x found.rest in omega arith
