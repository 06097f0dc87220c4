-- The start of the call (01, "The call"): refusals and gates, then what the rounds begin with. Assumes nothing.
use mathlib.Core.Path.{◌≡◌, refl, sym, ap, ap₂, ◌∙◌, subst}
use mathlib.Core.Bool.{Bool, true, false}
use mathlib.Core.List.{List, []}
use Prim.Native.Nat.{ℕ, ◌-◌, ◌*◌, ◌≤◌}
use native.Mathlib.Omega.{arith}
use lib.ListN.{length, replicate}
use Rattle.words.specs.Lists.{concat}
use Rattle.std.specs.Prelude.{Result, Ok, Err}
use Rattle.std.specs.declared.ops.ControlFlow.{ControlFlow}
use Rattle.std.specs.declared.ops.ControlFlow.TheVariants.{Continue, Break}
use Rattle.model.specs.declared.Refusal.{Refusal}
use Rattle.model.specs.Numbered.{verdict}
use Rattle.model.proofs.Numbers.{verdict_none, verdict_some}
use Rattle.model.specs.declared.Answer.{Answer}
use Rattle.model.specs.declared.Answer.TheVariants as answer
use Rattle.model.specs.Picture.{Picture, nblocks}
use Rattle.model.specs.Refusal.{refusal, records}
use Rattle.model.specs.Analyse.{facts}
use Rattle.model.specs.Pass.{Outcome, ends_in, gated, sink, sink_all, most_rounds}
use Rattle.laws.proofs.Accepted.{accepted, needed_records}
use Rattle.laws.proofs.Sizes.{few_blocks}
use Rattle.laws.proofs.Rounds.{sink_refused, sink_gated, sink_through}
use Rattle.checks.specs.Causes.{picture_of}
use Rattle.acceptance.specs.declared.lent.Lent.{Lent}
use Rattle.acceptance.specs.Lent.{picture}
use Rattle.acceptance.proofs.Chain.{whatever_replay}
use Rattle.sizes.specs.declared.Room.{Room}
use Rattle.sizes.specs.declared.Sizes.{Sizes}
use Rattle.sizes.specs.Parts.{sizes_of}
use Rattle.cfg.specs.Graph.{Graph}
use Rattle.flow.proofs.Accepted.{graph_given}
use Rattle.search.specs.Search.{Beginning, Began}
use Rattle.rounds.specs.Ended.{Did}
use Rattle.rounds.specs.Going.{Started}
use Rattle.rounds.specs.Judge.{IsJudged, Judged}

-- ---- refusals and gates

module _ (l : Lent) (room : Room) where
  abbrev lent : List ℕ → Picture
  lent replay = picture l replay

  abbrev cause : ℕ
  cause = refusal (lent []) room.w64 room.w32 room.records

  abbrev Says : ControlFlow Answer (Unit {0}) → Type 0
  Says v = Judged l room v

  -- acceptance answers r
  module _ {r : Result Unit Refusal} (e : r ≡ verdict cause) where
    pub judge_refused : {c : Refusal} → r ≡ Err c → Says (Break (answer.Refused c))
    judge_refused {c} h =
        let z = verdict_some cause (sym e ∙ h) in
        record {
          is = λ replay. (
            sink_refused (lent replay) room.w64 room.w32 room.records cause (whatever_replay (lent replay) room.w64 room.w32 room.records) z.0
                ∙ ap (λ (c : Refusal). ends_in (answer.Refused c) (lent replay)) (sym z.1),
            refl,
          );
        }

    -- accepted: the gates answer g
    module _ {v : Unit {0}} (h : r ≡ Ok v) {g : Bool} (f : g ≡ gated (picture_of l.bounds.now l.recs.now l.locs.now [] [] l.used.regs [] 0 [] [] [])) where
      none : cause ≡ 0
      none = verdict_none cause (sym e ∙ h)

      pub judge_gated : g ≡ true → Says (Break (answer.Done (record { rounds = 0; registers = l.used.regs; operands = l.used.opers })))
      judge_gated t = record { is = λ replay. (sink_gated (lent replay) room.w64 room.w32 room.records none (sym f ∙ t), refl) }

      pub judge_opens : g ≡ false → Says (Continue tt)
      judge_opens t = record { is = λ replay. (none, sym f ∙ t) }

-- ---- the start of the call on what is lent, with this replay

module _ (l : Lent) (replay work64 work32 : List ℕ) (nf : ℕ) where
  abbrev P : Picture
  P = picture l replay

  -- what `judge` is asked
  abbrev lent_room : Room
  lent_room = record { w64 = length work64; w32 = length work32; records = nf }

  module _ {v : ControlFlow Answer (Unit {0})} (j : Judged l lent_room v) where
    abbrev CameBy : ControlFlow Answer (Unit {0}) → Type 0
    CameBy = IsJudged P (length work64) (length work32) nf

    -- no round is tried
    pub started_ends : {a : Answer} {r : ControlFlow Answer Sizes} → v ≡ Break a → r ≡ Break a → Started P work64 work32 nf r work64 work32
    started_ends {a} {r} e f =
        let s : CameBy (Break a) = subst CameBy e (j.is replay) in
        subst (λ (z : ControlFlow Answer Sizes). Started P work64 work32 nf z work64 work32) (sym f)
        (record {
          work = record { size64 = refl; size32 = refl; kept = λ h. (refl, refl) };
          is = subst (λ (o : Outcome). Did o a (replicate 48 0) P.bounds P.recs P.locs P.vias P.types P.ops) (sym s.0)
              (record {
                answer_is = refl;
                lines_are = ap (λ (n : ℕ). replicate (48 - 6 * n) 0) (sym s.1);
                holds = record { bounds_are = refl; recs_are = refl; locs_are = refl; vias_are = refl; types_are = refl; ops_are = refl };
              });
        })

    -- the rounds are run
    module _ {u : Unit {0}} (e : v ≡ Continue u) where
      opens : CameBy (Continue u)
      opens = subst CameBy e (j.is replay)

      -- with as many records as are needed
      enough : refusal P (length work64) (length work32) records ≡ 0
      enough = needed_records P (length work64) (length work32) nf opens.0

      pub blocks_small : nblocks P ≤ 4096
      blocks_small = few_blocks P (accepted P (length work64) (length work32) nf opens.0)

      pub graphed : Graph P.bounds P.recs P.pairs P.targets
      graphed = graph_given P (accepted P (length work64) (length work32) nf opens.0)

      pub beginning : Beginning P.bounds P.recs P.ops P.pairs P.targets work64 work32 (sizes_of P)
      beginning = record { P = P; accepted = enough; bounds_are = refl; recs_are = refl; ops_are = refl; pairs_are = refl; targets_are = refl; blocks_are = refl; lent_are = refl; insts_are = refl; regs_are = refl }

      through : sink P (length work64) (length work32) nf ≡ sink_all most_rounds 0 (facts P) P
      through = sink_through P (length work64) (length work32) nf opens.0 opens.1

      pub started_opens : {work64' work32' : List ℕ} → Began P.bounds P.recs P.ops P.pairs P.targets work64 work32 (sizes_of P) work64' work32'
          → Started P work64 work32 nf (Continue (sizes_of P)) work64' work32'
      started_opens b = record {
        work = record { size64 = b.size64; size32 = b.size32; kept = λ h. absurd (h opens.0) };
        is = (
          refl,
          record {
            lent = opens.0;
            accepted = ap₂ (λ (i j : ℕ). refusal P i j records) b.size64 b.size32 ∙ enough;
            begun = b.begun P enough refl refl refl refl refl refl refl refl;
            few = omega arith;
            long = refl;
            sizes_are = refl;
            leads = record { answer_same = ap (λ (o : Outcome). o.answer) through; left_same = ap (λ (o : Outcome). o.left) through; lines_same = ap (λ (o : Outcome). concat o.lines) through; rest_zero = refl };
          },
        );
      }
