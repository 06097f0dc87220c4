-- A round starts with live-in anew (01, "A round"): it is found in the first words, and what the call began with stays. Assumes nothing.
use Rattle.std.specs.Prelude.{Option}
use mathlib.Core.Path.{◌≡◌, refl, ap, ap₂, ◌∙◌, subst}
use mathlib.Core.List.{List}
use Prim.Native.Nat.{ℕ, ◌*◌, ◌/◌, ◌≤◌, ◌<◌}
use native.Mathlib.Nat.{le_of_eq}
use native.Mathlib.Omega.{arith}
use lib.ListN.{length, drop}
use Rattle.words.specs.Bits.{width}
use Rattle.model.specs.Picture.{Picture, nblocks}
use Rattle.model.specs.Refusal.{records}
use Rattle.model.specs.Analyse.{Facts}
use Rattle.laws.proofs.Accepted.{Accepted, accepted}
use Rattle.laws.proofs.Sizes as S
use Rattle.cfg.specs.Drawn.{drawn}
use Rattle.flow.specs.Live.{RowRoom, Rows, Live}
use Rattle.flow.proofs.Whole.{live-rows_whole}
use Rattle.sizes.specs.declared.Sizes.{Sizes}
use Rattle.words.specs.Bits.{width}
use Rattle.chainwords.specs.Work.{Shown, Begun, Held}
use Rattle.chainwords.proofs.Standing.{begun_kept, firm_back, rows_for}
use Rattle.search.specs.declared.find.Look.{Look}
use Rattle.search.specs.Search.{Looking, Sees, Seeking, Sought, Opened}
use Rattle.search.proofs.Start.{rows_asked}

drawn_is : (P : Picture) {bounds recs ops pairs targets : List ℕ} → bounds ≡ P.bounds → recs ≡ P.recs → ops ≡ P.ops → pairs ≡ P.pairs → targets ≡ P.targets
    → drawn bounds recs ops pairs targets ≡ drawn P.bounds P.recs P.ops P.pairs P.targets
drawn_is P {bounds} {recs} {ops} {pairs} {targets} a b c d e =
    ap (λ (l : List ℕ). drawn l recs ops pairs targets) a ∙ ap (λ (l : List ℕ). drawn P.bounds l ops pairs targets) b ∙ ap (λ (l : List ℕ). drawn P.bounds P.recs l pairs targets) c
    ∙ ap (λ (l : List ℕ). drawn P.bounds P.recs P.ops l targets) d ∙ ap (λ (l : List ℕ). drawn P.bounds P.recs P.ops P.pairs l) e

-- what the search reads
pub sees_of : {P : Picture} {G : Facts} {bounds recs ops pairs targets replay : List ℕ} {s : Sizes} {work64 work32 : List ℕ} → Shown P bounds recs ops pairs targets replay s (length work64) (length work32)
    → Begun P G work64 work32 → Sees P bounds recs replay s work32
sees_of {P} {work64 = work64} sh b = record {
  w64 = length work64;
  shown = record {
    lists = record {
      accepted = sh.lists.accepted;
      bounds_are = sh.lists.bounds_are;
      recs_are = sh.lists.recs_are;
      ops_are = refl;
      blocks_are = sh.lists.blocks_are;
      insts_are = sh.lists.insts_are;
      regs_are = sh.lists.regs_are;
      lent_are = sh.lists.lent_are;
    };
    tabled = record { pairs_are = refl; targets_are = refl };
    replay_are = sh.replay_are;
  };
  preds = b.preds;
}

-- what finding live-in leaves
pub record Anew (bounds recs pairs targets work64 bits : List ℕ) (w : ℕ) : Type 0 where
  pub size : length bits ≡ length work64
  pub live : (ops : List ℕ) → ((b : ℕ) → b < length bounds / 2 → Rows (drawn bounds recs ops pairs targets) w b work64) → Live (drawn bounds recs ops pairs targets) w bits
  pub behind : drop (length bounds / 2 * w) bits ≡ drop (length bounds / 2 * w) work64

module _ {bounds recs pairs targets replay : List ℕ} {s : Sizes} {work64 work32 bits : List ℕ} {r : ℕ}
    (er : r ≡ s.regs) (n : Anew bounds recs pairs targets work64 bits (width r)) where
  pub held_anew : {ops : List ℕ} (P : Picture) (G : Facts) → Shown P bounds recs ops pairs targets replay s (length work64) (length work32) → Begun P G work64 work32 → Held P G bits work32
  held_anew {ops} P G sh b =
      let l = sh.lists in
      let d = drawn_is P l.bounds_are l.recs_are l.ops_are sh.tabled.pairs_are sh.tabled.targets_are in
      let wide : width r ≡ width P.regs = ap width (er ∙ l.regs_are) in
      let rows : length bounds / 2 * width r ≡ nblocks P * width P.regs = ap₂ (λ (k : List ℕ) (v : ℕ). length k / 2 * v) l.bounds_are wide in
      let stood : (c : ℕ) → c < length bounds / 2 → Rows (drawn bounds recs ops pairs targets) (width r) c work64 = λ c h. rows_for P l.bounds_are l.recs_are l.ops_are wide work64 pairs targets (b.rows c (subst (λ (z : List ℕ). c < length z / 2) l.bounds_are h)) in
      record {
        begun = begun_kept (firm_back P (accepted P (length work64) (length work32) records l.accepted) (length bounds / 2 * width r) work64 bits (le_of_eq rows) n.behind) refl b;
        live = subst (λ (v : ℕ). Live P v bits) wide (live-rows_whole P (width r) bits (subst (λ (Q : Picture). Live Q (width r) bits) d (n.live ops stood)));
      }

  pub opened : {o : Option Look} → Sought bounds recs replay s work32 0 o → Opened bounds recs pairs targets replay s work64 work32 bits o
  opened f = record { size64 = n.size; held = λ P G sh b. held_anew P G sh b; is = λ P G sh b. f.is P (sees_of sh b) }

module _ {bounds recs pairs targets replay : List ℕ} {s : Sizes} {work64 work32 : List ℕ} (k : Looking bounds recs pairs targets replay s work64 work32) where
  good : Accepted k.P
  good = accepted k.P (length work64) (length work32) records k.shown.lists.accepted

  regs_few : s.regs ≤ 65536
  regs_few = let e = k.shown.lists.regs_are in let a = S.regs_lent k.P good in let b = S.few_types k.P good in omega arith

  pub live_ask : (r : ℕ) → r ≡ s.regs → RowRoom (length bounds / 2) (width r) work64 × (r ≤ 65536)
  live_ask r er =
      let l = k.shown.lists in (
        (rows_asked k.P (length work32) work64 l.accepted l.bounds_are l.recs_are l.ops_are (er ∙ l.regs_are)).2,
        omega (arith, regs_few),
      )

  pub seeking : Seeking bounds recs replay s work32
  seeking = record { P = k.P; sees = sees_of k.shown k.begun }
