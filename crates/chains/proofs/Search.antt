-- The chain search, step by step. Assumes nothing.
use Rattle.std.specs.Prelude.{Option, Some, None}
use mathlib.Core.Bool.{Bool, true, false, not, ◌&&◌, and-true, and-false}
use mathlib.Core.List.{List, [], ◌∷◌, ◌++◌}
use mathlib.Core.Path.{◌≡◌, refl, sym, ap, ap₂, ◌∙◌, subst}
use mathlib.Core.Logic.{◌⊎◌, inl, inr}
use Prim.Native.Nat.{ℕ, zero, suc, ◌+◌, ◌*◌, ◌-◌, ◌≤◌, ◌<◌}
use native.Mathlib.Omega.{arith}
use borrow.Author.Tests.{eq-eqb, ne_eqb}
use lib.Dec.{eqb}
use lib.ListN.{get_or, length}
use Rattle.words.specs.Lists.{mem, same}
use Rattle.words.proofs.Bools.{and_no}
use Rattle.model.specs.Kinds.{kind_of}
use Rattle.model.specs.Picture.{Picture, inst, End, goes, parts, cases, stops, end_of, ending, callers}
use Rattle.model.specs.Move as M
use Rattle.model.specs.Move.{chain, chain_from}
use Rattle.inst.specs.declared.index.BlockId.{BlockId}
use Rattle.inst.specs.declared.table.Shape.{Shape}
use Rattle.inst.specs.declared.table.Shape.TheVariants as S
use Rattle.inst.specs.Record.{word}
use Rattle.inst.specs.Shape.{shape_of}
use Rattle.inst.specs.Table.{packed, shape}
use Rattle.inst.proofs.Ends.{EndsAs, ends}
use Rattle.chains.specs.declared.chain.Chain.{Chain}
use Rattle.chains.specs.declared.chain.Ending.TheVariants.{Goes, Parts, Stops}
use Rattle.chains.specs.Chain.{blocks_of, last_of, ended, chain_of, rest, ending_of, end_in, Few, Sound, SoundOf, Block, Blocks, Preds, Shown, IsGrown, Next, Found}
use Rattle.chains.proofs.Struct.{last_more, last_below, sound_start, sound_more}

-- ---- a block's end

pub end_is : {P : Picture} {bounds recs words : List ℕ} {B : ℕ} → Shown P bounds recs words B → (b : ℕ) → ending P b ≡ end_in bounds recs b
end_is {P} {bounds} s b = ap (λ (l : List ℕ). end_in l P.recs b) s.bounds_are ∙ ap (λ (l : List ℕ). end_in bounds l b) s.recs_are

module _ (bounds recs : List ℕ) (b : ℕ) {s e : ℕ} (es : s ≡ get_or bounds (2 * b) 0) (ee : e ≡ get_or bounds (2 * b + 1) 0) where
  abbrev size : ℕ
  size = get_or bounds (2 * b + 1) 0 - get_or bounds (2 * b) 0

  abbrev by : Bool → ℕ → End
  by z n = elim z [ true ↦ stops | false ↦ end_of (inst recs (n - 1)) ]

  pub empty_end : e ≤ s → Stops ≡ ending_of (end_in bounds recs b)
  unfolding ending_of
  empty_end h = let z : size ≡ 0 = omega arith in sym (ap (λ (t : Bool). ending_of (by t (get_or bounds (2 * b + 1) 0))) (eq-eqb size 0 z))

  module _ (h : s < e) where
    last_end : end_in bounds recs b ≡ end_of (inst recs (e - 1))
    last_end = ap (λ (t : Bool). by t (get_or bounds (2 * b + 1) 0)) (ne_eqb size 0 (λ z. omega arith)) ∙ ap (by false) (sym ee)

    -- by the shape t in the row of its last record's kind k at form f
    module _ (known : Block bounds recs b) {t : Shape} {w k : ℕ} (f : ℕ) (et : t ≡ shape_of (shape w)) (ew : w ≡ packed (kind_of k) f) (ek : k ≡ word recs (e - 1) 0) where
      ends_as : (x : Shape) → t ≡ x → EndsAs x (inst recs (e - 1))
      ends_as x q =
          ends (inst recs (e - 1)) f (subst (λ (n : ℕ). word recs (n - 1) 0 < 101) (sym ee) (known.kind (omega arith)))
          (sym q ∙ et ∙ ap (λ (m : ℕ). shape_of (shape m)) (ew ∙ ap (λ (n : ℕ). packed (kind_of n) f) ek))

      pub goes_end : {v : ℕ} → t ≡ S.Goes → v ≡ word recs (e - 1) 9 → Goes v ≡ ending_of (end_in bounds recs b)
      unfolding ending_of
      goes_end q ev = ap (λ (n : ℕ). Goes n) ev ∙ sym (ap ending_of (last_end ∙ ends_as S.Goes q))

      pub parts_end : {v u : ℕ} → t ≡ S.Parts → v ≡ word recs (e - 1) 9 → u ≡ word recs (e - 1) 10 → Parts v u ≡ ending_of (end_in bounds recs b)
      unfolding ending_of
      parts_end q ev eu = ap₂ (λ (x y : ℕ). Parts x y) ev eu ∙ sym (ap ending_of (last_end ∙ ends_as S.Parts q))

      pub other_end : (t ≡ S.Cases) ⊎ (t ≡ S.Stops) → Stops ≡ ending_of (end_in bounds recs b)
      unfolding ending_of
      other_end (inl q) = sym (ap ending_of (last_end ∙ ends_as S.Cases q))
      other_end (inr q) = sym (ap ending_of (last_end ∙ ends_as S.Stops q))

-- an end told by the code
module _ {E : End} where
  pub told_goes : {t : ℕ} → Goes t ≡ ending_of E → E ≡ goes t
  unfolding ending_of
  told_goes {t} = go E
    where
      go : (x : End) → Goes t ≡ ending_of x → x ≡ goes t
      go (goes u) q = cc
      go (parts u v) q = let z : ◌≡◌ {A = ℕ} 0 1 = cc in absurd (omega arith)
      go (cases u) q = let z : ◌≡◌ {A = ℕ} 0 1 = cc in absurd (omega arith)
      go stops q = let z : ◌≡◌ {A = ℕ} 0 1 = cc in absurd (omega arith)

  pub told_parts : {t f : ℕ} → Parts t f ≡ ending_of E → E ≡ parts t f
  unfolding ending_of
  told_parts {t} {f} = go E
    where
      go : (x : End) → Parts t f ≡ ending_of x → x ≡ parts t f
      go (goes u) q = let z : ◌≡◌ {A = ℕ} 0 1 = cc in absurd (omega arith)
      go (parts u v) q = cc
      go (cases u) q = let z : ◌≡◌ {A = ℕ} 0 1 = cc in absurd (omega arith)
      go stops q = let z : ◌≡◌ {A = ℕ} 0 1 = cc in absurd (omega arith)

-- ---- from the last block gathered

module _ (P : Picture) (bs : List ℕ) (cur : ℕ) where
  abbrev none_left : End → Option M.Chain
  none_left x = elim x [ goes to ↦ None | parts t f ↦ Some (record { blocks = bs; last = cur; t = t; f = f }) | cases c ↦ None | stops ↦ None ]

  abbrev some_left : ℕ → End → Option M.Chain
  some_left k x =
      elim x [
        | goes to ↦ elim (eqb (length (callers P to)) 1 && not (mem to bs)) [ true ↦ chain_from P k (bs ++ to ∷ []) to | false ↦ None ]
        | parts t f ↦ Some (record { blocks = bs; last = cur; t = t; f = f })
        | cases c ↦ None
        | stops ↦ None
      ]

  from_parts : (k : ℕ) {t f : ℕ} → ending P cur ≡ parts t f → chain_from P k bs cur ≡ Some (record { blocks = bs; last = cur; t = t; f = f })
  from_parts zero e = ap none_left e
  from_parts (suc k) e = ap (some_left k) e

  from_stops : (k : ℕ) → Stops ≡ ending_of (ending P cur) → chain_from P k bs cur ≡ None
  unfolding ending_of
  from_stops zero = go (ending P cur)
    where
      go : (x : End) → Stops ≡ ending_of x → none_left x ≡ None
      go (goes u) q = refl
      go (parts u v) q = let z : ◌≡◌ {A = ℕ} 0 1 = cc in absurd (omega arith)
      go (cases u) q = refl
      go stops q = refl
  from_stops (suc k) = go (ending P cur)
    where
      go : (x : End) → Stops ≡ ending_of x → some_left k x ≡ None
      go (goes u) q = let z : ◌≡◌ {A = ℕ} 0 1 = cc in absurd (omega arith)
      go (parts u v) q = let z : ◌≡◌ {A = ℕ} 0 1 = cc in absurd (omega arith)
      go (cases u) q = refl
      go stops q = refl

  module _ {to : ℕ} (e : ending P cur ≡ goes to) where
    from_full : chain_from P 0 bs cur ≡ None
    from_full = ap none_left e

    from_on : (k : ℕ) (b : Bool) → (eqb (length (callers P to)) 1 && not (mem to bs)) ≡ b → chain_from P (suc k) bs cur ≡ (elim b [ true ↦ chain_from P k (bs ++ to ∷ []) to | false ↦ None ])
    from_on k b q = ap (some_left k) e ∙ ap (λ (b : Bool). elim b [ true ↦ chain_from P k (bs ++ to ∷ []) to | false ↦ None ]) q

-- ---- over the struct

module _ (P : Picture) {c : Chain} (few : Few c) where
  pub rest_start : {x : ℕ} → blocks_of c ≡ x ∷ [] → c.count ≡ 1 → rest P (Some c) ≡ chain P x
  unfolding rest last_of
  rest_start {x} eb en =
      let n : 6 - c.count ≡ 5 = omega arith in
      let m : c.count - 1 ≡ 0 = omega arith in
      ap (λ (k : ℕ). chain_from P k (blocks_of c) (last_of c)) n ∙ ap (λ (k : ℕ). chain_from P 5 (blocks_of c) (get_or (blocks_of c) k 0)) m
      ∙ ap (λ (l : List ℕ). chain_from P 5 l (get_or l 0 0)) eb

  pub rest_parts : {t f : ℕ} → ending P (last_of c) ≡ parts t f → rest P (Some c) ≡ ended c t f
  unfolding rest ended
  rest_parts e = from_parts P (blocks_of c) (last_of c) (6 - c.count) e

  pub rest_stops : Stops ≡ ending_of (ending P (last_of c)) → rest P (Some c) ≡ None
  unfolding rest
  rest_stops e = from_stops P (blocks_of c) (last_of c) (6 - c.count) e

  module _ {to : ℕ} (e : ending P (last_of c) ≡ goes to) where
    pub rest_full : c.count ≡ 6 → rest P None ≡ rest P (Some c)
    unfolding rest
    rest_full h = let n : 6 - c.count ≡ 0 = omega arith in sym (ap (λ (k : ℕ). chain_from P k (blocks_of c) (last_of c)) n ∙ from_full P (blocks_of c) (last_of c) e)

    step : c.count < 6 → (b : Bool) → (eqb (length (callers P to)) 1 && not (mem to (blocks_of c))) ≡ b
        → rest P (Some c) ≡ (elim b [ true ↦ chain_from P (5 - c.count) (blocks_of c ++ to ∷ []) to | false ↦ None ])
    unfolding rest
    step h b q =
        let n : 6 - c.count ≡ suc (5 - c.count) = omega arith in
        ap (λ (k : ℕ). chain_from P k (blocks_of c) (last_of c)) n ∙ from_on P (blocks_of c) (last_of c) e (5 - c.count) b q

    pub rest_many : c.count < 6 → eqb (length (callers P to)) 1 ≡ false → rest P None ≡ rest P (Some c)
    unfolding rest
    rest_many h q = sym (step h false (ap (λ (x : Bool). x && not (mem to (blocks_of c))) q))

    pub rest_twice : c.count < 6 → mem to (blocks_of c) ≡ true → rest P None ≡ rest P (Some c)
    unfolding rest
    rest_twice h q = sym (step h false (and_no (eqb (length (callers P to)) 1) (ap not q)))

    pub rest_on : (d : Chain) → c.count < 6 → eqb (length (callers P to)) 1 ≡ true → mem to (blocks_of c) ≡ false
        → blocks_of d ≡ blocks_of c ++ to ∷ [] → d.count ≡ c.count + 1 → last_of d ≡ to → rest P (Some d) ≡ rest P (Some c)
    unfolding rest
    rest_on d h q m eb en el =
        let n : 6 - d.count ≡ 5 - c.count = omega arith in
        ap (λ (k : ℕ). chain_from P k (blocks_of d) (last_of d)) n ∙ ap (λ (l : List ℕ). chain_from P (5 - c.count) l (last_of d)) eb
        ∙ ap (λ (k : ℕ). chain_from P (5 - c.count) (blocks_of c ++ to ∷ []) k) el
        ∙ sym (step h true (ap (λ (x : Bool). x && not (mem to (blocks_of c))) q ∙ ap not m))

-- ---- what `next` answers

less : {c : Chain} {B : ℕ} → Sound c B → (c.count ≡ 6 → ⊥) → c.count < 6
less s n = omega (arith, s.few.most, n)

module _ {c : Chain} {to B : ℕ} {words : List ℕ} (s : Sound c B) (l : to < B) where
  pub next_full : c.count ≡ 6 → Next c to words B None
  next_full h = record { sound = tt; more = tt; goes_on = λ P q e. rest_full P s.few e h }

  module _ (n : c.count ≡ 6 → ⊥) where
    pub next_many : {a : ℕ} → a ≡ to → (get_or words (2 * a) 0 ≡ 1 → ⊥) → Next c to words B None
    next_many {a} ea h = record {
      sound = tt;
      more = tt;
      goes_on = λ P q e. rest_many P s.few e (less s n) (sym (q.count to l) ∙ ap (λ (k : ℕ). eqb (get_or words (2 * k) 0) 1) (sym ea) ∙ ne_eqb (get_or words (2 * a) 0) 1 h);
    }

    pub next_twice : {b : Bool} {x : ℕ} → x ≡ to → b ≡ mem x (blocks_of c) → b ≡ true → Next c to words B None
    next_twice {b} {x} ex h t = record { sound = tt; more = tt; goes_on = λ P q e. rest_twice P s.few e (less s n) (ap (λ (k : ℕ). mem k (blocks_of c)) (sym ex) ∙ sym h ∙ t) }

    pub next_on : (d : Chain) {a x : ℕ} {b : Bool} → a ≡ to → get_or words (2 * a) 0 ≡ 1 → x ≡ to → b ≡ mem x (blocks_of c) → b ≡ false
        → blocks_of d ≡ blocks_of c ++ x ∷ [] → d.count ≡ c.count + 1 → Next c to words B (Some d)
    next_on d {a} {x} {b} ea h ex m t eb en =
        let e' : blocks_of d ≡ blocks_of c ++ to ∷ [] = eb ∙ ap (λ (k : ℕ). blocks_of c ++ k ∷ []) ex in
        record {
          sound = sound_more d to s (less s n) e' en l;
          more = en;
          goes_on = λ P q e.
              rest_on P s.few e d (less s n) (sym (q.count to l) ∙ ap (λ (k : ℕ). eqb (get_or words (2 * k) 0) 1) (sym ea) ∙ eq-eqb (get_or words (2 * a) 0) 1 h)
              (ap (λ (k : ℕ). mem k (blocks_of c)) (sym ex) ∙ sym m ∙ t) e' en (last_more d to s (less s n) e' en);
        }

-- ---- the search so far

pub record Going (bounds recs words : List ℕ) (B : ℕ) (c₀ c : Chain) : Type 0 where
  pub sound : Sound c B
  pub same : (P : Picture) → Shown P bounds recs words B → rest P (Some c) ≡ rest P (Some c₀)

pub going_start : (bounds recs words : List ℕ) (c : Chain) {x B : ℕ} → blocks_of c ≡ x ∷ [] → c.count ≡ 1 → x < B → Going bounds recs words B c c
going_start bounds recs words c eb en h = record { sound = sound_start c eb en h; same = λ P q. refl }

pub from_start : (c : Chain) {x : ℕ} → blocks_of c ≡ x ∷ [] → c.count ≡ 1 → (P : Picture) → rest P (Some c) ≡ chain P x
from_start c eb en P = rest_start P (record { least = omega (arith, en); most = omega (arith, en) }) eb en

-- where the last block goes
module _ {bounds recs words : List ℕ} {B : ℕ} {c₀ c : Chain} (blocks : Blocks bounds recs B) (g : Going bounds recs words B c₀ c) {a : ℕ} (ea : a ≡ last_of c) where
  pub here : (b : ℕ) → b ≡ a → b < B
  here b e = subst (λ (n : ℕ). n < B) (sym (e ∙ ea)) (last_below g.sound)

  module _ {t : ℕ} (q : Goes t ≡ ending_of (end_in bounds recs a)) where
    at_goes : end_in bounds recs (last_of c) ≡ goes t
    at_goes = ap (end_in bounds recs) (sym ea) ∙ told_goes q

    pub goes_below : t < B
    goes_below = blocks.goes_in (last_of c) t (last_below g.sound) at_goes

    module _ {r : Option Chain} (n : Next c t words B r) where
      on : (P : Picture) → Shown P bounds recs words B → rest P r ≡ rest P (Some c₀)
      on P s = n.goes_on P s.preds_are (end_is s (last_of c) ∙ at_goes) ∙ g.same P s

      pub going_not : {x : ℕ} → ((P : Picture) → rest P (Some c₀) ≡ chain P x) → r ≡ None → Found bounds recs words x B None
      unfolding chain_of rest
      going_not st e = record { sound = tt; is = λ P s. ap (rest P) (sym e) ∙ on P s ∙ st P }

      pub going_more : (d : Chain) → r ≡ Some d → Going bounds recs words B c₀ d
      going_more d e = record { sound = subst (λ (r : Option Chain). SoundOf r B) e n.sound; same = λ P s. ap (rest P) (sym e) ∙ on P s }

      pub more_blocks : (d : Chain) → r ≡ Some d → d.count ≡ c.count + 1
      more_blocks d e = subst (IsGrown c) e n.more

  module _ {t f : ℕ} (q : Parts t f ≡ ending_of (end_in bounds recs a)) where
    at_parts : end_in bounds recs (last_of c) ≡ parts t f
    at_parts = ap (end_in bounds recs) (sym ea) ∙ told_parts q

    pub parts_below : (t < B) × (f < B)
    parts_below = blocks.parts_in (last_of c) t f (last_below g.sound) at_parts

    pub going_end : {x : ℕ} → ((P : Picture) → rest P (Some c₀) ≡ chain P x) → {r : Option Chain} → SoundOf r B → chain_of r ≡ ended c t f → Found bounds recs words x B r
    going_end st s e = record { sound = s; is = λ P v. e ∙ sym (rest_parts P g.sound.few (end_is v (last_of c) ∙ at_parts)) ∙ g.same P v ∙ st P }

  pub going_stops : {x : ℕ} → ((P : Picture) → rest P (Some c₀) ≡ chain P x) → Stops ≡ ending_of (end_in bounds recs a) → Found bounds recs words x B None
  unfolding chain_of
  going_stops st q = record {
    sound = tt;
    is = λ P v. sym (rest_stops P g.sound.few (q ∙ ap (λ (k : ℕ). ending_of (end_in bounds recs k)) ea ∙ ap ending_of (sym (end_is v (last_of c))))) ∙ g.same P v ∙ st P;
  }

-- where it goes does not matter to the blocks
pub sound_ends : {c : Chain} {B : ℕ} (x y : BlockId) → Sound c B → Sound (record { blocks = c.blocks; count = c.count; t = x; f = y }) B
unfolding blocks_of
sound_ends x y s = record { few = record { least = s.few.least; most = s.few.most }; each = s.each }

-- ---- a target

sole_is : (ps : List ℕ) (k s l : ℕ) → eqb k 1 ≡ eqb (length ps) 1 → (length ps ≡ 1 → ps ≡ s ∷ []) → (eqb k 1 && eqb s l) ≡ same ps (l ∷ [])
sole_is [] k s l e h = ap (λ (b : Bool). b && eqb s l) e
sole_is (x ∷ []) k s l e h =
    ap (λ (b : Bool). b && eqb s l) e ∙ ap (λ (y : ℕ). eqb y l) (sym (ap (λ (xs : List ℕ). get_or xs 0 0) (h refl))) ∙ sym (and-true (eqb x l))
sole_is (x ∷ y ∷ ps) k s l e h = ap (λ (b : Bool). b && eqb s l) (e ∙ ne_eqb (length (x ∷ y ∷ ps)) 1 (λ q. omega (arith, q))) ∙ sym (and-false (eqb x l))

module _ (c : Chain) {P : Picture} {words : List ℕ} {B : ℕ} {x : ℕ} {h : Bool} (q : Preds P words B) (l : x < B) (eh : h ≡ mem x (blocks_of c)) where
  pub target_in : h ≡ true → false ≡ (not (mem x (blocks_of c)) && same (callers P x) (last_of c ∷ []))
  target_in t = sym (ap (λ (b : Bool). not b && same (callers P x) (last_of c ∷ [])) (sym eh ∙ t))

  pub target_out : {a z : ℕ} → h ≡ false → a ≡ x → z ≡ last_of c
      → (eqb (get_or words (2 * a) 0) 1 && eqb (get_or words (2 * a + 1) 0) z) ≡ (not (mem x (blocks_of c)) && same (callers P x) (last_of c ∷ []))
  target_out {a} {z} t ea ez =
      ap (λ (n : ℕ). eqb (get_or words (2 * n) 0) 1 && eqb (get_or words (2 * n + 1) 0) z) ea ∙ ap (λ (n : ℕ). eqb (get_or words (2 * x) 0) 1 && eqb (get_or words (2 * x + 1) 0) n) ez
      ∙ sole_is (callers P x) (get_or words (2 * x) 0) (get_or words (2 * x + 1) 0) (last_of c) (q.count x l) (q.sole x l)
      ∙ sym (ap (λ (b : Bool). not b && same (callers P x) (last_of c ∷ [])) (sym eh ∙ t))
