-- How the search for a round's move comes from one chain to the next (01, "A round"): a chain is found, or none; the chain that was tried
-- has a move, or none. Assumes nothing.
use Rattle.std.specs.Prelude.{Option, Some, None}
use mathlib.Core.Path.{◌≡◌, refl, sym, ◌∙◌, subst}
use mathlib.Core.List.{List}
use Prim.Native.Nat.{ℕ, ◌+◌, ◌-◌, ◌≤◌, ◌<◌}
use native.Mathlib.Omega.{arith}
use lib.ListN.{length}
use borrow.Author.Tests.{lt-ltb}
use Rattle.words.specs.Lists.{upto}
use Rattle.model.specs.Picture.{Picture, nblocks}
use Rattle.model.specs.Analyse.{Facts}
use Rattle.model.specs.Pass.{first_plan}
use Rattle.sizes.specs.declared.Sizes.{Sizes}
use Rattle.chains.specs.Chain.{chain_in}
use Rattle.apply.specs.declared.moves.Move.{Move}
use Rattle.chainwords.specs.Work.{Shown, Begun, Held, chain_words}
use Rattle.worth.specs.Worth.{Chosen}
use Rattle.worth.proofs.Looks.{worth_long}
use Rattle.trial.specs.Trial.{Found, IsTried, Following, Followed}
use Rattle.search.specs.declared.find.Look.{Look}
use Rattle.search.specs.Search.{Looking, Sees, Seeking, IsSought, Sought, Opened}
use Rattle.search.proofs.Looked.{first_at, none_more, shown_at, rooms}
use Rattle.search.proofs.Anew.{sees_of}
use Rattle.find.specs.Find.{Sure, Over, Finding, Searched}

-- ---- where the search stands

-- chain k is to be tried: live-in is there as well, no block before has a move, and it is its block's chain, and worth a look
pub record Next (P : Picture) (G : Facts) (work64 work32 : List ℕ) (k : Look) : Type 0 where
  pub held : Held P G work64 work32
  pub none_yet : first_plan P G (upto k.x.0) ≡ None
  pub chosen : Chosen P k.x.0 k.c

-- or no block is left
abbrev pub StandsAs : Picture → Facts → List ℕ → List ℕ → Option Look → Type 0
StandsAs P G work64 work32 (Some k) = Next P G work64 work32 k
StandsAs P G work64 work32 None = Over P G work64 work32

-- how much may come: blocks
abbrev pub to_come : Option Look → ℕ
to_come (Some k) = 4097 - k.x.0
to_come None = 0

-- what was sought from a block on, before which none has a move
taken : {P : Picture} {G : Facts} {work64 work32 : List ℕ} → Held P G work64 work32 → (o : Option Look) (from : ℕ) → first_plan P G (upto from) ≡ None → IsSought P from o → StandsAs P G work64 work32 o
taken {G = G} h (Some k) from z s = record { held = h; none_yet = s.1 G z; chosen = s.2 }
taken {G = G} h None from z s = record { begun = h.begun; none_is = s G z }

-- chain k has a move
sure : {P : Picture} {G : Facts} {work64 work32 : List ℕ} {k : Look} {mv : Move} → Next P G work64 work32 k → Found P G k.x.0 mv (chain_words work32) → Sure P G work64 work32 mv
sure {P} {G} {k = k} n f = record {
  begun = n.held.begun;
  x = k.x.0;
  found = f;
  first = first_at P G k.x.0 (nblocks P) f.a n.chosen.x_block n.none_yet (lt-ltb 3 _ (worth_long P k.x.0 (chain_in k.c) n.chosen.worth)) f.is;
}

-- ---- the loop: what stands before each turn, of every picture and facts that the work slices were for

pub record Running (bounds recs ops pairs targets replay : List ℕ) (s : Sizes) (work64 work32 work64' work32' : List ℕ) (o : Option Look) : Type 0 where
  pub size64 : length work64' ≡ length work64
  pub size32 : length work32' ≡ length work32
  pub is : (P : Picture) (G : Facts) → Shown P bounds recs ops pairs targets replay s (length work64) (length work32) → Begun P G work64 work32 → StandsAs P G work64' work32' o

-- with the picture's own operands
own : {P : Picture} {bounds recs ops pairs targets replay : List ℕ} {s : Sizes} {w64 w32 : ℕ} → Shown P bounds recs ops pairs targets replay s w64 w32 → Shown P bounds recs P.ops pairs targets replay s w64 w32
own {P} {bounds} {recs} {ops} {pairs} {targets} {replay} {s} {w64} {w32} sh = subst (λ (os : List ℕ). Shown P bounds recs os pairs targets replay s w64 w32) sh.lists.ops_are sh

module _ {bounds recs ops pairs targets replay : List ℕ} {s : Sizes} {work64 work32 : List ℕ} where
  pub looking : Finding bounds recs ops pairs targets replay s work64 work32 → Looking bounds recs pairs targets replay s work64 work32
  looking f = record { P = f.P; G = f.G; shown = own f.shown; begun = f.begun }

  -- at the start of a round
  pub running_start : {work64' : List ℕ} {o : Option Look} → Opened bounds recs pairs targets replay s work64 work32 work64' o → Running bounds recs ops pairs targets replay s work64 work32 work64' work32 o
  running_start {o = o} f = record { size64 = f.size64; size32 = refl; is = λ P G sh b. taken (f.held P G (own sh) b) o 0 refl (f.is P G (own sh) b) }

  module _ {work64' work32' : List ℕ} {o : Option Look} (r : Running bounds recs ops pairs targets replay s work64 work32 work64' work32' o) where
    -- no block is left
    pub running_end : o ≡ None → Searched bounds recs ops pairs targets replay s work64 work32 work64' work32' None
    running_end e = record { size64 = r.size64; size32 = r.size32; is = λ P G sh b. subst (StandsAs P G work64' work32') e (r.is P G sh b) }

    -- chain k is to be tried
    module _ {k : Look} (on : o ≡ Some k) where
      next_of : (P : Picture) (G : Facts) → Shown P bounds recs ops pairs targets replay s (length work64) (length work32) → Begun P G work64 work32 → Next P G work64' work32' k
      next_of P G sh b = subst (StandsAs P G work64' work32') on (r.is P G sh b)

      pub following : Finding bounds recs ops pairs targets replay s work64 work32 → Following bounds recs ops pairs targets replay s k.x.0 k.c work64' work32'
      following f =
          let n = next_of f.P f.G f.shown f.begun in
          record { given = record { P = f.P; G = f.G; shown = shown_at r.size64 r.size32 f.shown; held = n.held }; chosen = n.chosen }

      -- and was: the work slices hold as much, and a is the answer
      module _ {work64'' work32'' : List ℕ} {a : Option Move} (d : Followed bounds recs ops pairs targets replay s k.x.0 k.c work64' work32' work64'' work32'' a) where
        module _ (P : Picture) (G : Facts) (sh : Shown P bounds recs ops pairs targets replay s (length work64) (length work32)) (b : Begun P G work64 work32) where
          n : Next P G work64' work32' k
          n = next_of P G sh b

          shown_now : Shown P bounds recs ops pairs targets replay s (length work64') (length work32')
          shown_now = shown_at r.size64 r.size32 sh

          next_still : Next P G work64'' work32'' k
          next_still = record { held = d.held P G shown_now n.held; none_yet = n.none_yet; chosen = n.chosen }

          was_tried : IsTried P G k.x.0 a (chain_words work32'')
          was_tried = d.is P G shown_now n.held n.chosen

          sees : Sees P bounds recs replay s work32''
          sees = sees_of (shown_at d.size64 d.size32 shown_now) next_still.held.begun

        -- it has a move
        pub running_found : {mv : Move} → a ≡ Some mv → Searched bounds recs ops pairs targets replay s work64 work32 work64'' work32'' (Some mv)
        running_found e = record {
          size64 = d.size64 ∙ r.size64;
          size32 = d.size32 ∙ r.size32;
          is = λ P G sh b. sure (next_still P G sh b) (subst (λ (y : Option Move). IsTried P G k.x.0 y (chain_words work32'')) e (was_tried P G sh b));
        }

        -- it has none, and the next one is sought from the block behind it on
        seeking : Finding bounds recs ops pairs targets replay s work64 work32 → Seeking bounds recs replay s work32'' × (k.x.0 < s.blocks) × (s.blocks ≤ 4096)
        seeking f =
            let g : Seeking bounds recs replay s work32'' = record { P = f.P; sees = sees f.P f.G f.shown f.begun } in
            (g, let h = (next_of f.P f.G f.shown f.begun).chosen.x_block in let e = f.shown.lists.blocks_are in omega arith, (rooms g).blocks)

        module _ {i : ℕ} {q : Option Look} (ei : i ≡ k.x.0) (sought : Sought bounds recs replay s work32'' (i + 1) q) where
          sought_is : (P : Picture) → Sees P bounds recs replay s work32'' → IsSought P (k.x.0 + 1) q
          sought_is P v = subst (λ (j : ℕ). IsSought P (j + 1) q) ei (sought.is P v)

          pub running_more : a ≡ None → Running bounds recs ops pairs targets replay s work64 work32 work64'' work32'' q
          running_more e = record {
            size64 = d.size64 ∙ r.size64;
            size32 = d.size32 ∙ r.size32;
            is = λ P G sh b.
                let m = next_still P G sh b in
                let none = subst (λ (y : Option Move). IsTried P G k.x.0 y (chain_words work32'')) e (was_tried P G sh b) in
                taken m.held q (k.x.0 + 1) (none_more P G k.x.0 m.none_yet (λ y. none)) (sought_is P (sees P G sh b));
          }

          pub fewer : Finding bounds recs ops pairs targets replay s work64 work32 → to_come q < to_come o
          fewer f = subst (λ (p : Option Look). to_come q < to_come p) (sym on) (less q (sought_is f.P (sees f.P f.G f.shown f.begun)))
            where
              less : (p : Option Look) → IsSought f.P (k.x.0 + 1) p → to_come p < to_come (Some k)
              less (Some j) z = let a = z.0 in let b = (seeking f).1 in let c = (seeking f).2 in omega arith
              less None z = let b = (seeking f).1 in let c = (seeking f).2 in omega arith
