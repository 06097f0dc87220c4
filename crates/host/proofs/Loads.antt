-- The heads of arrays that a picture is read into, and the picture that they are. Assumes nothing.
use mathlib.Core.Path.{◌≡◌, ◌∙◌, subst}
use mathlib.Core.Bool.{true}
use mathlib.Core.List.{List}
use Prim.Native.Nat.{ℕ, ◌≤◌}
use native.Mathlib.Omega.{arith}
use lib.ListN.{length, take}
use Rattle.words.specs.Bytes.{words_of}
use Rattle.model.specs.Picture.{Picture}
use Rattle.model.specs.Refusal.{records}
use Rattle.model.specs.Pass.{sink}
use Rattle.checks.specs.Causes.{picture_of}
use Rattle.layout.specs.declared.Counts.{Counts}
use Rattle.layout.specs.declared.Part.{Part}
use Rattle.layout.specs.declared.Part.TheVariants.{Bounds, Recs, Locs, Vias, Types, Ops, Pairs, Targets, Replay}
use Rattle.layout.specs.Layout.{readable, held, words_in, part_of, room, picture_in}
use Rattle.layout.proofs.Reading.{Sizes, sizes, whole, room_front}
use Rattle.layout.proofs.Order.{part_all}
use Rattle.rounds.specs.declared.state.Ran.{Ran}
use Rattle.host.specs.Host.{work64, work32, sunk_of, RanAs, Roomy}

-- ---- the head of an array that a part is read into

-- the most words of a part
abbrev pub most : Part → ℕ
most Bounds = 128
most Recs = 8192
most Locs = 512
most Vias = 512
most Types = 512
most Ops = 2048
most Pairs = 256
most Targets = 1024
most Replay = 64

module _ (bs : List ℕ) (r : readable bs ≡ true) where
  fits : (p : Part) → words_in p (held bs) ≤ most p
  fits p = go p (sizes (held bs) (whole bs r).sized)
    where
      go : (p : Part) → Sizes (held bs) → words_in p (held bs) ≤ most p
      go Bounds s = omega arith
      go Recs s = omega arith
      go Locs s = omega arith
      go Vias s = omega arith
      go Types s = omega arith
      go Ops s = omega arith
      go Pairs s = omega arith
      go Targets s = omega arith
      go Replay s = omega arith

  pub part_head : (p : Part) (c : Counts) (n : ℕ) (xs : List ℕ) → c ≡ held bs → n ≡ words_in p c → xs ≡ room (most p) (part_of (words_of bs) p) → take n xs ≡ part_of (words_of bs) p
  part_head p c n xs e f g = rw (f, e, g) (room_front (words_in p (held bs)) (most p) (part_of (words_of bs) p) (fits p) ∙ part_all bs p r)

-- ---- the picture

pub in_picture : (bs : List ℕ) (k u : ℕ) (c : Counts) → c ≡ held bs → (b r l v t o p g y : List ℕ)
    → b ≡ (picture_in (words_of bs) 0 0).bounds → r ≡ (picture_in (words_of bs) 0 0).recs → l ≡ (picture_in (words_of bs) 0 0).locs → v ≡ (picture_in (words_of bs) 0 0).vias
    → t ≡ (picture_in (words_of bs) k 0).types → o ≡ (picture_in (words_of bs) 0 u).ops
    → p ≡ (picture_in (words_of bs) 0 0).pairs → g ≡ (picture_in (words_of bs) 0 0).targets → y ≡ (picture_in (words_of bs) 0 0).replay
    → picture_of b r l v t c.registers o c.operands p g y ≡ picture_in (words_of bs) k u
in_picture bs k u c e b r l v t o p g y eb er el ev et eo ep eg ey =
    λ z. record {
      bounds = eb z;
      recs = er z;
      locs = el z;
      vias = ev z;
      types = et z;
      regs = (e z).registers;
      ops = eo z;
      opers = (e z).operands;
      pairs = ep z;
      targets = eg z;
      replay = ey z;
    }

pub ran_same : (P Q : Picture) {result result' : List ℕ} {ran : Ran} → P ≡ Q → RanAs (sunk_of P) result ran result' → RanAs (sink Q work64 work32 records) result ran result'
unfolding sunk_of
ran_same P Q {result} {result'} {ran} e r = subst (λ (P : Picture). RanAs (sunk_of P) result ran result') e r

-- ---- slices of the same lengths

pub roomy_same : {b r l v t o p g y b' r' l' v' t' o' : List ℕ} {n : ℕ} → Roomy b r l v t o p g y n
    → length b' ≡ length b → length r' ≡ length r → length l' ≡ length l → length v' ≡ length v → length t' ≡ length t → length o' ≡ length o
    → Roomy b' r' l' v' t' o' p g y n
roomy_same m eb er el ev et eo = record {
  bounds_fit = omega (arith, m.bounds_fit);
  recs_fit = omega (arith, m.recs_fit);
  locs_fit = omega (arith, m.locs_fit);
  vias_fit = omega (arith, m.vias_fit);
  types_fit = omega (arith, m.types_fit);
  ops_fit = omega (arith, m.ops_fit);
  pairs_fit = m.pairs_fit;
  targets_fit = m.targets_fit;
  replay_fit = m.replay_fit;
  holds = m.holds;
}
