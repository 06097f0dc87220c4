-- The call's loop (01, "A round"): where it has come to after some rounds, and what it then gives. Assumes nothing.
use mathlib.Core.Path.{◌≡◌, ◌∙◌}
use Rattle.std.specs.declared.ops.ControlFlow.TheVariants.{Continue, Break}
use mathlib.Core.List.{List}
use Prim.Native.Nat.{ℕ, ◌≤◌}
use native.Mathlib.Omega.{arith}
use lib.ListN.{length}
use Rattle.model.specs.Picture.{Picture}
use Rattle.laws.proofs.Accepted.{work_room}
use Rattle.checks.specs.Causes.{picture_of}
use Rattle.facts.specs.declared.Fact.{Fact}
use Rattle.oneround.specs.declared.weigh.Step.{Step}
use Rattle.oneround.specs.Round.{Stepped}
use Rattle.rounds.specs.declared.state.At.{At}
use Rattle.rounds.specs.declared.state.Ran.{Ran}
use Rattle.rounds.specs.State.{advanced}
use Rattle.rounds.specs.Going.{Between}
use Rattle.rounds.proofs.Going.{Sized, onward, over}
use Rattle.sink.specs.Sink.{Coming, Finished}

-- from Q and m, with these work slices and these records, the loop has come to Z and q
pub record Running (Q : Picture) (m : At) (work64 work32 : List ℕ) (fs : List Fact) (Z : Picture) (q : At) (work64' work32' : List ℕ) (fs' : List Fact) : Type 0 where
  pub still : (P : Picture) (w64 w32 : ℕ) → Between P w64 w32 (length fs) Q m work64 work32 → Between P w64 w32 (length fs) Z q work64' work32'
  pub sized : Sized Q Z
  pub size64 : length work64' ≡ length work64
  pub size32 : length work32' ≡ length work32
  pub size : length fs' ≡ length fs

module _ {Q : Picture} {m : At} {work64 work32 : List ℕ} {fs : List Fact} {Z : Picture} {q : At} {work64' work32' : List ℕ} {fs' : List Fact} (r : Running Q m work64 work32 fs Z q work64' work32' fs') where
  -- what a round asks
  pub running_next : (c : Coming Q m work64 work32 (length fs)) → Between c.P c.w64 c.w32 (length fs) Z q work64' work32'
  running_next c = r.still c.P c.w64 c.w32 c.between

  pub running_many : Coming Q m work64 work32 (length fs) → 800 ≤ length fs'
  running_many c =
      let a = (work_room c.P c.w64 c.w32 (length fs) (running_next c).lent).2 in
      let e = r.size in
      omega arith

  -- it was tried, and came to a
  module _ {a : Step} {bounds recs locs vias types ops work64'' work32'' : List ℕ} (s : Stepped Z work64' work32' a bounds recs locs vias types ops work64'' work32'') where
    abbrev at_next : At → Picture
    at_next p = picture_of bounds recs locs vias types p.sizes.regs ops p.sizes.opers Z.pairs Z.targets Z.replay

    pub running_more : {fs'' : List Fact} → length fs'' ≡ length fs' → (p : At) → Sized Z (at_next p) → advanced q a ≡ Continue p → Running Q m work64 work32 fs (at_next p) p work64'' work32'' fs''
    running_more f p z e = record {
      still = λ P w64 w32 y. onward (r.still P w64 w32 y) s p z e;
      sized = record {
        bounds = z.bounds ∙ r.sized.bounds;
        recs = z.recs ∙ r.sized.recs;
        locs = z.locs ∙ r.sized.locs;
        vias = z.vias ∙ r.sized.vias;
        types = z.types ∙ r.sized.types;
        ops = z.ops ∙ r.sized.ops;
      };
      size64 = s.size64 ∙ r.size64;
      size32 = s.size32 ∙ r.size32;
      size = f ∙ r.size;
    }

    pub running_end : {fs'' : List Fact} → length fs'' ≡ length fs' → (n : Ran) → advanced q a ≡ Break n → Finished Q m work64 work32 fs n.answer n.lines bounds recs locs vias types ops work64'' work32'' fs''
    running_end f n e = record {
      did = λ P w64 w32 y. over (r.still P w64 w32 y) s n e;
      size64 = s.size64 ∙ r.size64;
      size32 = s.size32 ∙ r.size32;
      size = f ∙ r.size;
    }
