-- The move of a round, made (01, "The move"): what `apply` asks, from what was prepared; after it, and with the rows anew, the work slices
-- hold for the new picture what the call began with. Assumes nothing.
use mathlib.Core.Path.{◌≡◌, sym, ap, ◌∙◌, subst}
use mathlib.Core.Bool.{Bool}
use mathlib.Core.List.{List}
use mathlib.Core.Logic.{⊎_elim}
use Prim.Native.Nat.{ℕ, ◌+◌, ◌-◌, ◌/◌, ◌≤◌, ◌<◌}
use native.Mathlib.Omega.{arith}
use lib.ListN.{length, take}
use lib.Seq.{length-take-le}
use borrow.Rule.Slice.PartMut.{mid_of, put_mid, mid_len, same_len_mid, take_put}
use Rattle.words.specs.Bits.{width}
use Rattle.model.specs.Picture.{Picture}
use Rattle.model.specs.Refusal.{refusal, records}
use Rattle.model.specs.Analyse.{Facts, Fact}
use Rattle.model.specs.Move.{apply}
use Rattle.laws.proofs.Accepted.{accepted}
use Rattle.laws.proofs.Sizes.{regs_lent, vias_length}
use Rattle.laws.proofs.Moving.{Moving, x_block, into_block}
use Rattle.laws.proofs.Unchanged.{same_blocks}
use Rattle.laws.proofs.Keeps.{moving, round-not_refused}
use Rattle.apply.specs.Apply.{Rest, picture, plan, Stands, Given, Asks, Fits, Holds, Vias}
use Rattle.sizes.specs.declared.Sizes.{Sizes}
use Rattle.sizes.specs.Parts.{stamps_at}
use Rattle.chainwords.specs.Work.{at_stamps, chain_words, Begun}
use Rattle.search.proofs.Start.{Rooms, rooms_of}
use Rattle.oneround.specs.declared.weigh.Line.{Line}
use Rattle.oneround.specs.declared.weigh.Step.{Step}
use Rattle.oneround.specs.declared.weigh.Step.TheVariants.{Goes}
use Rattle.oneround.specs.Weigh.{Says, IsPrepared}
use Rattle.oneround.specs.Make.{Renewing, Renewed, IsNext, Making, Made}
use Rattle.oneround.proofs.Renewal.{begun_after}

-- ---- what `apply` asks and ensures, of the numbers that the code has

asks_for : {x t x' t' m n R U U' K K' N : ℕ} {bounds recs types ops w : List ℕ} → x' ≡ x → t' ≡ t → U' ≡ U → K' ≡ K → Asks x t m n R U K N bounds recs types ops w → Asks x' t' m n R U' K' N bounds recs types ops w
asks_for {x} {t} {x'} {t'} {m} {n} {R} {U} {U'} {K} {K'} {N} {bounds} {recs} {types} {ops} {w} ex et eU eK a =
    subst (λ (z : ℕ). Asks z t' m n R U' K' N bounds recs types ops w) (sym ex)
    (subst (λ (z : ℕ). Asks x z m n R U' K' N bounds recs types ops w) (sym et)
    (subst (λ (z : ℕ). Asks x t m n R z K' N bounds recs types ops w) (sym eU)
    (subst (λ (z : ℕ). Asks x t m n R U z N bounds recs types ops w) (sym eK) a)))

fits_for : {x t x' t' m n R U U' : ℕ} {bounds recs types ops w : List ℕ} → x' ≡ x → t' ≡ t → U' ≡ U → Fits x t m n R U bounds recs types ops w → Fits x' t' m n R U' bounds recs types ops w
fits_for {x} {t} {x'} {t'} {m} {n} {R} {U} {U'} {bounds} {recs} {types} {ops} {w} ex et eU a =
    subst (λ (z : ℕ). Fits z t' m n R U' bounds recs types ops w) (sym ex)
    (subst (λ (z : ℕ). Fits x z m n R U' bounds recs types ops w) (sym et)
    (subst (λ (z : ℕ). Fits x t m n R z bounds recs types ops w) (sym eU) a))

-- from block x into t, with U operands in use, of the pictures P: what `apply` ensures
abbrev Applies : (P : ℕ → Rest → Picture) (x t m n U : ℕ) (w bounds recs locs vias types ops : List ℕ) → Type 0
Applies P x t m n U w bounds recs locs vias types ops =
    (rest : Rest) (run : List Fact) (set : List Bool) → Stands (P U rest) (plan x t run set) m n w → Given (P U rest) (plan x t run set) m w → Holds (apply (P U rest) (plan x t run set)) bounds recs locs vias types ops

applies_to : (P : ℕ → Rest → Picture) {x t x' t' U U' : ℕ} (m n : ℕ) (w bounds recs locs vias types ops : List ℕ) → x' ≡ x → t' ≡ t → U' ≡ U
    → Applies P x' t' m n U' w bounds recs locs vias types ops → Applies P x t m n U w bounds recs locs vias types ops
applies_to P {x} {t} {x'} {t'} {U} {U'} m n w bounds recs locs vias types ops ex et eU h =
    subst (λ (z : ℕ). Applies P z t m n U w bounds recs locs vias types ops) ex
    (subst (λ (z : ℕ). Applies P x' z m n U w bounds recs locs vias types ops) et
    (subst (λ (z : ℕ). Applies P x' t' m n z w bounds recs locs vias types ops) eU h))

-- ---- `make`

module _ {bounds recs locs vias types ops : List ℕ} {s : Sizes} {work64 work32 : List ℕ} {q : Step} (h : Making bounds recs locs vias types ops s work64 work32 q) where
  -- the picture with u operands in use, and with those that are
  abbrev with_opers : ℕ → Rest → Picture
  with_opers u rest = picture bounds recs locs vias types s.regs ops u rest

  abbrev P : Rest → Picture
  P rest = with_opers s.opers rest

  there : Rooms (length bounds / 2) (length types) (length locs) (length work64) (length work32)
  there = rooms_of (P h.rest) (length work64) (length work32) h.accepted

  blocks_are : s.blocks ≡ length bounds / 2
  blocks_are = ap (λ (z : Sizes). z.blocks) h.sizes_are

  lent_are : s.lent ≡ length types
  lent_are = ap (λ (z : Sizes). z.lent) h.sizes_are

  pub blocks_few : s.blocks ≤ 4096
  blocks_few = let a = there.few_blocks in let e = blocks_are in omega arith

  pub lent_few : s.lent ≤ 65536
  lent_few = let a = there.few_lent in let e = lent_are in omega arith

  chain_fits : 8000 ≤ length work32
  chain_fits = let a = there.room32 in omega arith

  pub chain_long : 8000 ≡ length (chain_words work32)
  chain_long = sym (length-take-le 8000 work32 chain_fits)

  vias_fit : Vias locs vias
  vias_fit = record {
    each_or_none = λ n.
        ⊎_elim (λ (z : length vias ≡ 0). absurd (n z)) (λ (z : length vias ≡ length locs). z)
        (vias_length (P h.rest) (accepted (P h.rest) (length work64) (length work32) records h.accepted));
  }

  -- where the new names lie
  stamps_are : (rest : Rest) → stamps_at s ≡ at_stamps (P rest)
  stamps_are rest = ap (λ (z : Sizes). stamps_at z) h.sizes_are

  pub names_fit : (a : ℕ) → a ≡ stamps_at s → a + s.lent ≤ length work64
  names_fit a e = let r = there.room64 in let f = stamps_are h.rest in let l = lent_are in omega arith

  -- a move
  module _ {l : Line} (e : q ≡ Goes l) where
    goes : (rest : Rest) (G : Facts) → IsPrepared (P rest) G q (chain_words work32) → IsPrepared (P rest) G (Goes l) (chain_words work32)
    goes rest G z = subst (λ (r : Step). IsPrepared (P rest) G r (chain_words work32)) e z

    pub asked : {a u : ℕ} → a ≡ stamps_at s → u ≡ s.opers
        → Asks l.moved.from.0 l.moved.into.0 l.moved.inside l.moved.places s.regs u (length (mid_of a (a + s.lent - a) work64)) (length locs) bounds recs types ops (chain_words work32)
        × (Fits l.moved.from.0 l.moved.into.0 l.moved.inside l.moved.places s.regs u bounds recs types ops (chain_words work32) × Vias locs vias)
    asked {a} ea eu =
        let z = goes h.rest h.G h.is in
        let off : a + s.lent - a ≡ s.lent = omega arith in
        let long = mid_len a (a + s.lent) work64 (names_fit a ea) ∙ off ∙ lent_are in
        (asks_for z.3.from_is z.3.into_is eu long z.4, (fits_for z.3.from_is z.3.into_is eu z.5, vias_fit))

    -- new names were written from a on, and these are the slices then
    module _ {a : ℕ} (ea : a ≡ stamps_at s) {u : ℕ} (eu : u ≡ s.opers) (names : List ℕ) (same : length names ≡ length (mid_of a (a + s.lent - a) work64)) {bounds' recs' locs' vias' types' ops' : List ℕ}
        (f : Applies with_opers l.moved.from.0 l.moved.into.0 l.moved.inside l.moved.places u (chain_words work32) bounds' recs' locs' vias' types' ops') where
      abbrev named : List ℕ
      named = put_mid a (a + s.lent - a) work64 names

      pub named_long : length named ≡ length work64
      named_long = same_len_mid a (a + s.lent - a) work64 names same

      named_behind : (rest : Rest) → take (at_stamps (P rest)) named ≡ take (at_stamps (P rest)) work64
      named_behind rest = subst (λ (z : ℕ). take z named ≡ take z work64) (ea ∙ stamps_are rest) (take_put a (a + s.lent - a) work64 names (let g = names_fit a ea in omega arith))

      module _ (rest : Rest) (G : Facts) (ok : refusal (P rest) (length work64) (length work32) records ≡ 0) (z : IsPrepared (P rest) G (Goes l) (chain_words work32)) where
        abbrev Q : Picture
        Q = apply (P rest) z.0

        moves : Moving (P rest) G z.0
        moves = moving (P rest) G z.0 (accepted (P rest) (length work64) (length work32) records ok) z.1 z.2

        says : Says (P rest) z.0 l
        says = z.3

        holds : Holds Q bounds' recs' locs' vias' types' ops'
        holds = applies_to with_opers l.moved.inside l.moved.places (chain_words work32) bounds' recs' locs' vias' types' ops' says.from_is says.into_is eu f rest z.0.run z.0.set z.6 z.7

        not_refused : refusal Q (length work64) (length work32) records ≡ 0
        not_refused = round-not_refused (P rest) G z.0 (length work64) (length work32) records ok z.1 z.2

        block_low : {c d : ℕ} → d ≡ c → c < length bounds / 2 → d < length bounds' / 2
        block_low {c} {d} ec i =
            let k : length bounds' / 2 ≡ length bounds / 2 = ap (λ (x : List ℕ). length x / 2) holds.bounds_are ∙ same_blocks (P rest) G z.0 moves in
            omega arith

        renewing_for : Renewing bounds' recs' ops' named s.regs l.registers l.moved.from.0 l.moved.into.0
        renewing_for = record {
          Q = Q;
          w32 = length work32;
          accepted = ap (λ (n : ℕ). refusal Q n (length work32) records) named_long ∙ not_refused;
          bounds_are = holds.bounds_are;
          recs_are = holds.recs_are;
          ops_are = holds.ops_are;
          regs_are = says.registers_are;
          was_few = let i = regs_lent (P rest) (accepted (P rest) (length work64) (length work32) records ok) in let j = there.few_lent in omega arith;
          from_block = block_low says.from_is (x_block (P rest) G z.0 moves);
          into_block = block_low says.into_is (into_block (P rest) G z.0 moves);
        }

        begun_then : {work64' : List ℕ} → Renewed bounds' recs' ops' named (width s.regs) (width l.registers) l.moved.from.0 l.moved.into.0 work64'
            → Begun (P rest) G work64 work32 → Begun Q G work64' work32
        begun_then {work64'} n =
            begun_after (P rest) G z.0 moves work64 named work64' work32 (accepted Q (length work64) (length work32) records not_refused) holds.bounds_are holds.recs_are holds.ops_are (named_behind rest)
            (subst (λ (x : ℕ). Renewed bounds' recs' ops' named (width s.regs) (width Q.regs) x z.0.into work64') says.from_is
            (subst (λ (x : ℕ). Renewed bounds' recs' ops' named (width s.regs) (width Q.regs) l.moved.from.0 x work64') says.into_is
            (subst (λ (x : ℕ). Renewed bounds' recs' ops' named (width s.regs) (width x) l.moved.from.0 l.moved.into.0 work64') says.registers_are n)))

      pub renewing : Renewing bounds' recs' ops' named s.regs l.registers l.moved.from.0 l.moved.into.0
      renewing = renewing_for h.rest h.G h.accepted (goes h.rest h.G h.is)

      pub made : {work64' : List ℕ} → Renewed bounds' recs' ops' named (width s.regs) (width l.registers) l.moved.from.0 l.moved.into.0 work64'
          → Made bounds recs locs vias types ops s work64 work32 q bounds' recs' locs' vias' types' ops' work64'
      made {work64'} n = record {
        size64 = n.size ∙ named_long;
        is = λ rest G ok b y.
            let z = goes rest G y in
            subst (λ (r : Step). IsNext (P rest) r (λ Q. Holds Q bounds' recs' locs' vias' types' ops' × Begun Q G work64' work32) G) (sym e)
            (z.0, z.1, z.2, z.3, (holds rest G ok z, begun_then rest G ok z n b));
      }
