-- The search from one block of an accepted picture: what each step asks, and what the last one leaves. Assumes nothing.
use Rattle.std.specs.Prelude.{Option, Some, None}
use mathlib.Core.Path.{◌≡◌, sym, ◌∙◌, subst}
use mathlib.Core.List.{List}
use Prim.Native.Nat.{ℕ}
use lib.ListN.{length}
use Rattle.words.specs.Bits.{width}
use Rattle.model.specs.Picture.{Picture}
use Rattle.model.specs.Analyse.{facts}
use Rattle.cfg.specs.declared.body.Body.{Body}
use Rattle.apply.specs.declared.moves.Move.{Move}
use Rattle.chainwords.specs.Work.{Shown, Begun, chain_words}
use Rattle.worth.specs.Worth.{Chosen}
use Rattle.search.specs.declared.find.Look.{Look}
use Rattle.search.specs.Search.{Began, Looking, Looked, IsLooked}
use Rattle.search.proofs.Looked.{shown_at}
use Rattle.search.proofs.Anew.{Anew, sees_of, held_anew}
use Rattle.trial.specs.Trial.{IsTried, Following, Followed}
use Rattle.probe.specs.Attempt.{ShownIn, Asking, Seen, Tried}

module _ {d : Body} {work64 work32 : List ℕ} {x : ℕ} (a : Asking d (length work64) (length work32) x) where
  module _ {work64' work32' : List ℕ} (b : Began d.func.bounds.now d.func.recs.now d.ops.now d.func.pairs.now d.func.targets.now work64 work32 d.sizes work64' work32') where
    -- of every picture that the body shows: what the call begins with, and that it still shows it
    begun : (P : Picture) → ShownIn P d (length work64) (length work32) → Begun P (facts P) work64' work32'
    begun P sh =
        let l = sh.lists in
        let t = sh.tabled in
        b.begun P l.accepted (sym l.bounds_are) (sym l.recs_are) (sym l.ops_are) (sym t.pairs_are) (sym t.targets_are) (sym l.lent_are) (sym l.insts_are) (sym l.regs_are)

    shown_after : (P : Picture) → ShownIn P d (length work64) (length work32) → ShownIn P d (length work64') (length work32')
    shown_after P sh = shown_at b.size64 b.size32 sh

    pub looking : Looking d.func.bounds.now d.func.recs.now d.func.pairs.now d.func.targets.now d.replay.now d.sizes work64' work32'
    looking = record {
      P = a.P;
      G = facts a.P;
      shown = subst (λ (l : List ℕ). Shown a.P d.func.bounds.now d.func.recs.now l d.func.pairs.now d.func.targets.now d.replay.now d.sizes (length work64') (length work32')) a.shown.lists.ops_are (shown_after a.P a.shown);
      begun = begun a.P a.shown;
    }

    -- with live-in made
    pub seen : {r : ℕ} {bits : List ℕ} {o : Option Look} → r ≡ d.sizes.regs
        → Anew d.func.bounds.now d.func.recs.now d.func.pairs.now d.func.targets.now work64' bits (width r)
        → Looked d.func.bounds.now d.func.recs.now d.replay.now d.sizes work32' x o → Seen d work64 work32 bits work32' x o
    seen er n l = record {
      size64 = n.size ∙ b.size64;
      size32 = b.size32;
      held = λ P sh. held_anew er n P (facts P) (shown_after P sh) (begun P sh);
      is = λ P sh. l.is P (sees_of (shown_after P sh) (begun P sh));
    }

  -- ---- the chain is tried

  module _ {work64' work32' : List ℕ} {o : Option Look} (v : Seen d work64 work32 work64' work32' x o) where
    -- there is none
    pub none_tried : {r : Option Move} → o ≡ None → r ≡ None → Tried d work64 work32 work64' work32' x r
    none_tried e h = subst (Tried d work64 work32 work64' work32' x) (sym h)
        record { size64 = v.size64; size32 = v.size32; is = λ P sh. subst (λ (o : Option Look). IsLooked P x o) e (v.is P sh) (facts P) }

    module _ {l : Look} (e : o ≡ Some l) where
      looked : (P : Picture) → ShownIn P d (length work64) (length work32) → IsLooked P x (Some l)
      looked P sh = subst (λ (o : Option Look). IsLooked P x o) e (v.is P sh)

      chosen : (P : Picture) → ShownIn P d (length work64) (length work32) → Chosen P l.x.0 l.c
      chosen P sh = let c = looked P sh in subst (λ (i : ℕ). Chosen P i l.c) (sym c.0) c.1

      pub following : Following d.func.bounds.now d.func.recs.now d.ops.now d.func.pairs.now d.func.targets.now d.replay.now d.sizes l.x.0 l.c work64' work32'
      following = record {
        given = record { P = a.P; G = facts a.P; shown = shown_at v.size64 v.size32 a.shown; held = v.held a.P a.shown };
        chosen = chosen a.P a.shown;
      }

      pub tried : {work64'' work32'' : List ℕ} {r : Option Move}
          → Followed d.func.bounds.now d.func.recs.now d.ops.now d.func.pairs.now d.func.targets.now d.replay.now d.sizes l.x.0 l.c work64' work32' work64'' work32'' r
          → Tried d work64 work32 work64'' work32'' x r
      tried {work64''} {work32''} {r} f = record {
        size64 = f.size64 ∙ v.size64;
        size32 = f.size32 ∙ v.size32;
        is = λ P sh.
            subst (λ (i : ℕ). IsTried P (facts P) i r (chain_words work32'')) (looked P sh).0
            (f.is P (facts P) (shown_at v.size64 v.size32 sh) (v.held P sh) (chosen P sh));
      }
