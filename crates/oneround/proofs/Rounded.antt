-- One round by itself (01, "A round"): what each of its three parts asks of what the one before left, and what they come to together.
-- Assumes nothing.
use Rattle.std.specs.Prelude.{Option}
use mathlib.Core.Path.{◌≡◌, refl, ap, ap₂, ◌∙◌}
use mathlib.Core.List.{List}
use Prim.Native.Nat.{ℕ}
use lib.ListN.{length}
use Rattle.model.specs.Picture.{Picture}
use Rattle.model.specs.Refusal.{refusal, records}
use Rattle.model.specs.Analyse.{Facts}
use Rattle.checks.specs.Causes.{picture_of}
use Rattle.apply.specs.Apply.{Rest}
use Rattle.sizes.specs.declared.Sizes.{Sizes}
use Rattle.chainwords.specs.Work.{Shown, Begun, chain_words}
use Rattle.apply.specs.declared.moves.Move.{Move}
use Rattle.laws.proofs.Accepted.{accepted}
use Rattle.cfg.specs.Graph.{Graph}
use Rattle.flow.proofs.Accepted.{graph_given}
use Rattle.find.specs.Find.{Finding, Searched}
use Rattle.oneround.specs.declared.weigh.Step.{Step}
use Rattle.oneround.specs.Weigh.{Beside, Ready, Weighed, IsPrepared}
use Rattle.oneround.specs.Make.{Making, Made}
use Rattle.oneround.specs.Round.{Open, Stepped}

module _ {bounds recs locs vias types ops pairs targets replay : List ℕ} {s : Sizes} {work64 work32 : List ℕ}
    (o : Open (picture_of bounds recs locs vias types s.regs ops s.opers pairs targets replay) s work64 work32) where
  abbrev P : Picture
  P = picture_of bounds recs locs vias types s.regs ops s.opers pairs targets replay

  -- what `weigh` and `make` do not read
  abbrev beside : Beside
  beside = record { locs = locs; vias = vias; pairs = pairs; targets = targets; replay = replay }

  abbrev rest : Rest
  rest = record { pairs = pairs; targets = targets; replay = replay }

  -- ---- the move found

  pub graphed : Graph bounds recs pairs targets
  graphed = graph_given P (accepted P (length work64) (length work32) records o.accepted)

  shown : Shown P bounds recs ops pairs targets replay s (length work64) (length work32)
  shown = record {
    lists = record {
      accepted = o.accepted;
      bounds_are = refl;
      recs_are = refl;
      ops_are = refl;
      blocks_are = ap (λ (z : Sizes). z.blocks) o.sizes_are;
      insts_are = ap (λ (z : Sizes). z.insts) o.sizes_are;
      regs_are = refl;
      lent_are = ap (λ (z : Sizes). z.lent) o.sizes_are;
    };
    tabled = record { pairs_are = refl; targets_are = refl };
    replay_are = refl;
  }

  pub finding : Finding bounds recs ops pairs targets replay s work64 work32
  finding = record { P = P; G = o.G; shown = shown; begun = o.begun }

  -- P is accepted with slices of these lengths still
  still : {m n : ℕ} → m ≡ length work64 → n ≡ length work32 → refusal P m n records ≡ 0
  still e f = ap₂ (λ (i j : ℕ). refusal P i j records) e f ∙ o.accepted

  -- ---- weighed

  module _ {bits words : List ℕ} {r : Option Move} (d : Searched bounds recs ops pairs targets replay s work64 work32 bits words r) where
    found_still : refusal P (length bits) (length words) records ≡ 0
    found_still = still d.size64 d.size32

    pub ready : Ready bounds recs types ops s bits words r
    ready = record { e = beside; G = o.G; accepted = found_still; sizes_are = o.sizes_are; answer = d.is P o.G shown o.begun }

    -- ---- made

    module _ {bits' words' : List ℕ} {q : Step} (w : Weighed bounds recs types ops s bits words r bits' words' q) where
      weighed_still : refusal P (length bits') (length words') records ≡ 0
      weighed_still = still (w.size64 ∙ d.size64) (w.size32 ∙ d.size32)

      comes_to : (G : Facts) → Begun P G work64 work32 → Begun P G bits' words' × IsPrepared P G q (chain_words words')
      comes_to G b = w.is beside G found_still (d.is P G shown b)

      pub making : Making bounds recs locs vias types ops s bits' words' q
      making = let z = comes_to o.G o.begun in record { rest = rest; G = o.G; accepted = weighed_still; sizes_are = o.sizes_are; begun = z.0; is = z.1 }

      pub stepped : {bounds' recs' locs' vias' types' ops' bits'' : List ℕ} → Made bounds recs locs vias types ops s bits' words' q bounds' recs' locs' vias' types' ops' bits''
          → Stepped P work64 work32 q bounds' recs' locs' vias' types' ops' bits'' words'
      stepped m = record {
        size64 = m.size64 ∙ w.size64 ∙ d.size64;
        size32 = w.size32 ∙ d.size32;
        is = λ G b. let z = comes_to G b in m.is rest G weighed_still z.0 z.1;
      }
