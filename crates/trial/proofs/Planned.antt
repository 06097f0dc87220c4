-- `try_target`: what it asks of its callees, and its answer: where there is nothing to do, where the set has too few members, and where the
-- words stand for the plan. Assumes nothing.
use Rattle.std.specs.Prelude.{Option, None, Some}
use mathlib.Core.Path.{◌≡◌, refl, sym, ap, ap₂, ◌∙◌, subst}
use mathlib.Core.Logic.{◌⊎◌, inl, inr, ⊎_elim}
use mathlib.Core.Bool.{Bool, true, false, ◌&&◌}
use mathlib.Core.List.{List, []}
use Prim.Native.Nat.{ℕ, zero, suc, ◌+◌, ◌-◌, ◌*◌, ◌≤◌, ◌<◌}
use native.Mathlib.Omega.{arith}
use borrow.Author.Tests.{le-leb, lt-leb}
use lib.Dec.{leb}
use lib.ListN.{get_or, length, take, drop, length-drop}
use lib.Seq.{length-take-le}
use Rattle.words.specs.Lists.{member, count}
use Rattle.words.proofs.Bools.{T_true, true_T, not_true_is_false}
use Rattle.words.proofs.Lists.{front_same, drop_more}
use Rattle.model.specs.Picture.{Picture, size}
use Rattle.model.specs.Refusal.{records}
use Rattle.model.specs.Analyse.{Facts, Fact, movable}
use Rattle.model.specs.Legal.{fact_at, greatest}
use Rattle.model.specs.Move as M
use Rattle.model.specs.Move.{Plan, chain_places, is_target, needed_of, set_for, plan, run_of}
use Rattle.laws.proofs.Accepted.{accepted}
use Rattle.laws.proofs.Greatest.{greatest_movable}
use Rattle.facts.specs.declared.Fact as F
use Rattle.facts.specs.Marks.{bare}
use Rattle.chains.specs.declared.chain.Chain.{Chain}
use Rattle.chains.specs.Chain.{blocks_of}
use Rattle.legalset.specs.Chain.{Safe, Told}
use Rattle.legalset.specs.Marks.{in_set}
use Rattle.plan.specs.declared.turn.Asked.{Asked}
use Rattle.summary.specs.Passes.{Ended, Row, Around, Greatest}
use Rattle.plan.specs.Sweep.{marks}
use Rattle.plan.specs.Set.{Choosable, Chose}
use Rattle.sizes.specs.declared.Sizes.{Sizes}
use Rattle.trial.specs.declared.target.Goal.{Goal}
use Rattle.trial.specs.declared.target.Aim.{Aim}
use Rattle.trial.specs.declared.target.Sunk.{Sunk}
use Rattle.sizes.specs.Parts.{needed_at, stamps_at}
use Rattle.words.specs.Bits.{width}
use Rattle.chainwords.specs.Work.{at_regs, at_stamps, chain_words, copied_words, Held, Lists, Tabled}
use Rattle.chainwords.specs.Puts as U
use Rattle.chainwords.specs.Along.{Along, Marked, FromX, Numbered, Using, Lasts, Used}
use Rattle.chains.specs.Chain.{chain_in}
use Rattle.trial.specs.Target.{asked, taken, Aiming, Aimed, plan_toward, Trying, TargetTried}
use Rattle.chainwords.proofs.Kept.{held_kept}
use Rattle.chainwords.proofs.Rooms.{room, room_of, Same, held_same}
use Rattle.chainwords.proofs.Telling.{facts_behind, facts_still}
use Rattle.trial.proofs.Wording.{numbered, number, marked_after}
use Rattle.trial.proofs.Aiming.{Share, none_move, all_move, shares}

-- ---- `model`'s plan, case by case

module _ (P : Picture) (run : List Fact) (x : ℕ) (c : M.Chain) (least into other : ℕ) where
  abbrev made : Plan
  made = record { x = x; into = into; run = run; set = set_for P run x into other }

  plan_off : is_target P c into ≡ false → plan P run x c least into other ≡ None
  plan_off e = ap (λ (b : Bool). elim (b && leb least (count (set_for P run x into other))) as (λ z. Option Plan) [ true ↦ Some made | false ↦ None ]) e

  plan_few : is_target P c into ≡ true → count (set_for P run x into other) < least → plan P run x c least into other ≡ None
  plan_few e h = ap₂ (λ (u v : Bool). elim (u && v) as (λ z. Option Plan) [ true ↦ Some made | false ↦ None ]) e (lt-leb least (count (set_for P run x into other)) h)

  plan_on : is_target P c into ≡ true → least ≤ count (set_for P run x into other) → plan P run x c least into other ≡ Some made
  plan_on e h = ap₂ (λ (u v : Bool). elim (u && v) as (λ z. Option Plan) [ true ↦ Some made | false ↦ None ]) e (le-leb least (count (set_for P run x into other)) h)

-- ---- what stays

-- where the words behind the chain's are the same
pub along_behind : {P : Picture} {G : Facts} {c : Chain} {w : List F.Fact} {xs ys : List ℕ} {n : ℕ} → drop 8000 ys ≡ drop 8000 xs → Along P G c w xs n → Along P G c w ys n
along_behind {P} {G} {c} {w} {xs} {ys} {n} e al =
    let same : copied_words P xs ≡ copied_words P ys = ap (take P.regs) (sym e) in
    record {
      long = al.long;
      few = al.few;
      numbers = al.numbers;
      told = subst (λ (rs : List ℕ). Told P.recs P.ops w rs n (run_of P G (chain_in c))) same al.told;
      ended = subst (λ (rs : List ℕ). Ended P.recs w n rs) same al.ended;
      safe = al.safe;
      brief = al.brief;
      written = al.written;
    }

held_behind : {P : Picture} {G : Facts} {bounds recs ops : List ℕ} {s : Sizes} {w64 w32 : ℕ} {work64 xs ys : List ℕ} → Lists P bounds recs ops s w64 w32 → drop 8000 ys ≡ drop 8000 xs → Held P G work64 xs → Held P G work64 ys
held_behind {P} {work64 = work64} {xs = xs} {ys = ys} l e h = held_kept l h work64 ys refl (λ r i. refl) (drop_more 8000 (8000 + length P.types) ys xs (omega arith) e)

same_around : {bounds recs ops : List ℕ} {s : Sizes} {w64 w32 : ℕ} {mid work64' : List ℕ} {st k : ℕ} (P : Picture) → Lists P bounds recs ops s w64 w32 → Around st k mid work64' → st ≡ stamps_at s → Same P mid work64'
same_around {s = s} {w64 = w64} {w32 = w32} {mid = mid} {work64' = work64'} {st = st} P l d es =
    let q : st ≡ at_stamps P = es ∙ ap₂ (λ (x y : ℕ). 4 * x * width y + y) l.blocks_are l.lent_are in
    let r = room_of P w64 w32 l.accepted in
    let a = r.rows in
    let b = r.four in
    record {
      rows = λ i j. front_same st mid work64' d.below i (omega arith);
      firsts = λ i u v. front_same st mid work64' d.below i (omega arith);
      regs = λ i j. front_same st mid work64' d.below (at_regs P + i) (omega arith);
    }

pub lists_of : {P : Picture} {bounds recs ops : List ℕ} {s : Sizes} {a b c d : ℕ} → b ≡ a → d ≡ c → Lists P bounds recs ops s a c → Lists P bounds recs ops s b d
lists_of {P} {bounds} {recs} {ops} {s} {a} {b} {c} {d} e f l = subst (λ (x : ℕ). Lists P bounds recs ops s b x) (sym f) (subst (λ (x : ℕ). Lists P bounds recs ops s x c) (sym e) l)

pub some_or : (k : ℕ) → (k ≡ 0) ⊎ (0 < k)
some_or zero = inl refl
some_or (suc k) = inr (omega arith)

-- ---- before the set

module _ {bounds recs ops pairs targets : List ℕ} {s : Sizes} {c : Chain} {w : List F.Fact} {work64 work32 : List ℕ} {g : Goal} (t : Trying bounds recs ops pairs targets s c w work64 work32 g) where
  pub aiming : Aiming bounds recs pairs targets s c work64 work32 g
  aiming = let p = t.planning in
      record { ops = ops; P = p.P; lists = p.lists; tabled = t.tabled; few = p.chained.sound.few; into_block = p.into_block; other_block = t.other_block }

  module _ {work64₁ : List ℕ} {a : Aim} (d : Aimed bounds recs pairs targets s c work64 work32 g work64₁ a) where
    pub end_fits : (8000 ≤ a.end) × (a.end ≤ length work32)
    end_fits =
        let r = room t.planning.lists in
        ⊎_elim
        (λ (e : a.least ≡ 0). let z = (d.off e).1 in (omega arith, omega (arith, r.words32)))
        (λ (h : 0 < a.least). let z = (d.on h).2 in (omega arith, omega (arith, r.words32, r.lent)))
        (some_or a.least)

    row_fits : needed_at s ≤ length work64₁
    row_fits = let r = room t.planning.lists in omega (arith, r.rows, r.four, r.words64, d.size64)

    -- the part of the stamps
    stamps_is : a.asked.span.s ≡ stamps_at s
    stamps_is = ⊎_elim (λ (e : a.least ≡ 0). ap (λ (z : Asked). z.span.s) (d.off e).0) (λ (h : 0 < a.least). ap (λ (z : Asked). z.span.s) (d.on h).1) (some_or a.least)

    -- the registers' words, where there is a target
    regs_are : 0 < a.least → (P : Picture) → Lists P bounds recs ops s (length work64) (length work32) → take (a.end - 8000) (drop 8000 work32) ≡ copied_words P work32
    regs_are h P l = let z = (d.on h).2 in let e : a.end - 8000 ≡ P.regs = omega (arith, l.regs_are) in ap (λ (k : ℕ). take k (drop 8000 work32)) e

    regs_long : (P : Picture) → Lists P bounds recs ops s (length work64) (length work32) → length (copied_words P work32) ≡ P.regs
    regs_long P l = let r = room l in let e = length-drop 8000 work32 in length-take-le P.regs (drop 8000 work32) (omega (arith, r.words32, r.lent, l.regs_are))

-- ---- what `legal_set` asks

module _ {bounds recs ops pairs targets : List ℕ} {s : Sizes} {c : Chain} {fs : List F.Fact} {work64 work32 : List ℕ} {g : Goal} (t : Trying bounds recs ops pairs targets s c (bare fs) work64 work32 g) (long : g.places ≤ length fs) {work64₁ : List ℕ} {a : Aim}
    (d : Aimed bounds recs pairs targets s c work64 work32 g work64₁ a) where
  choosable_off : Choosable recs ops [] work64₁ fs (asked (needed_at s) (stamps_at s) 0 0 1)
  choosable_off =
      let r = room t.planning.lists in
      record {
        sweeps = record {
          safe = record {
            few = omega arith;
            good = λ p h. absurd (omega arith);
            org = λ p h. absurd (omega arith);
            wrote = λ p h. absurd (omega arith);
            from = λ p h. absurd (omega arith);
          };
          brief = record { defs = λ p h. absurd (omega arith); reads = λ p h. absurd (omega arith) };
          row = row_fits t d;
          room = omega (arith, r.words64, d.size64);
          long = omega arith;
        };
        in_x = omega arith;
        ended = record { each = λ r h. absurd (omega arith) };
      }

  choosable_on : 0 < a.least → Choosable recs ops (copied_words t.planning.P work32) work64₁ fs (asked (needed_at s) (stamps_at s) g.inside g.places g.least)
  choosable_on h =
      let p = t.planning in
      let l = p.lists in
      let P = p.P in
      let r = room l in
      let rl = regs_long t d P l in
      record {
        sweeps = record {
          safe = subst (λ (k : ℕ). Safe recs ops (bare fs) g.places k) (sym rl) (rw (l.recs_are, l.ops_are) p.along.safe);
          brief = rw (l.recs_are, l.ops_are) p.along.brief;
          row = row_fits t d;
          room = omega (arith, r.words64, r.lent, d.size64, rl, l.regs_are);
          long = long;
        };
        in_x = p.in_x;
        ended = rw l.recs_are p.along.ended;
      }

  pub choosable : Choosable recs ops (take (a.end - 8000) (drop 8000 work32)) work64₁ fs a.asked
  choosable = ⊎_elim
      (λ (e : a.least ≡ 0).
      let z : 0 ≡ a.end - 8000 = let y = (d.off e).1 in omega arith in
      subst (λ (k : ℕ). Choosable recs ops (take k (drop 8000 work32)) work64₁ fs a.asked) z (subst (Choosable recs ops [] work64₁ fs) (sym (d.off e).0) choosable_off))
      (λ (h : 0 < a.least).
      subst (λ (rs : List ℕ). Choosable recs ops rs work64₁ fs a.asked) (sym (regs_are t d h t.planning.P t.planning.lists))
      (subst (Choosable recs ops (copied_words t.planning.P work32) work64₁ fs) (sym (d.on h).1) (choosable_on h)))
      (some_or a.least)

-- ---- after the set

module _ {bounds recs ops pairs targets : List ℕ} {s : Sizes} {c : Chain} {fs fs' : List F.Fact} {work64 work32 : List ℕ} {g : Goal} (t : Trying bounds recs ops pairs targets s c (bare fs) work64 work32 g) (long : g.places ≤ length fs) {work64₁ : List ℕ} {a : Aim}
    (d : Aimed bounds recs pairs targets s c work64 work32 g work64₁ a) {work64₂ : List ℕ} {k : ℕ} (ch : Chose recs ops (take (a.end - 8000) (drop 8000 work32)) a.asked work64₁ fs work64₂ fs' k) where
  size₂ : length work64₂ ≡ length work64
  size₂ = ch.around.size ∙ d.size64

  held₂ : (P : Picture) (G : Facts) → Lists P bounds recs ops s (length work64) (length work32) → Tabled P pairs targets → Held P G work64 work32 → Held P G work64₂ work32
  held₂ P G l u h = held_same (accepted P (length work64) (length work32) records l.accepted) (same_around P l ch.around (stamps_is t d)) (d.held P G ops l u h)

  putting_by : {b : Sunk} → Share k a.least g.places b → (b.places ≤ length fs') × (b.places ≤ 800) × (8000 ≤ length work32)
  putting_by (none_move h) = let r = room t.planning.lists in (omega arith, omega arith, omega (arith, r.words32))
  putting_by (all_move h i) = let r = room t.planning.lists in let e = ch.long in let f = t.planning.along.few in (omega arith, f, omega (arith, r.words32))

  pub putting : {b : Sunk} → b ≡ taken k a.least g.places → (b.places ≤ length fs') × (b.places ≤ 800) × (8000 ≤ length work32)
  putting {b} e = putting_by (subst (Share k a.least g.places) (sym e) (shares k a.least g.places))

  module _ {b : Sunk} (e : b ≡ taken k a.least g.places) {work32₁ : List ℕ} (ft : U.Facts fs' work32 work32₁ b.places) where
    share : Share k a.least g.places b
    share = subst (Share k a.least g.places) (sym e) (shares k a.least g.places)

    behind₁ : drop 8000 work32₁ ≡ drop 8000 work32
    behind₁ = facts_behind ft (putting e).1

    held₃ : (P : Picture) (G : Facts) → Lists P bounds recs ops s (length work64) (length work32) → Tabled P pairs targets → Held P G work64 work32 → Held P G work64₂ work32₁
    held₃ P G l u h = held_behind l behind₁ (held₂ P G l u h)

    lists₃ : (P : Picture) → Lists P bounds recs ops s (length work64) (length work32) → Lists P bounds recs ops s (length work64₂) (length work32₁)
    lists₃ P l = lists_of size₂ ft.size l

    numbered_by : {b : Sunk} → Share k a.least g.places b → U.Facts fs' work32 work32₁ b.places → (b.moved ≡ 0 → ⊥) → Numbered (bare fs) work32₁ g.places
    numbered_by (none_move h) f z = absurd (z refl)
    numbered_by (all_move h i) f z = numbered ch.bare_same f

    pub uses_asked : Using bounds recs ops s c work64₂ work32₁ b.moved g.into.0 g.inside g.places
    uses_asked =
        let p = t.planning in
        record {
          w = bare fs;
          planning = record {
            P = p.P;
            G = p.G;
            lists = lists₃ p.P p.lists;
            held = held₃ p.P p.G p.lists t.tabled p.held;
            chained = p.chained;
            along = along_behind behind₁ p.along;
            into_block = p.into_block;
            in_x = p.in_x;
          };
          numbered = numbered_by share ft;
        }

    -- ---- the answer

    -- where there is a target: the set, for a picture of these lists
    module _ (h : 0 < a.least) (P : Picture) (G : Facts) (l : Lists P bounds recs ops s (length work64) (length work32)) (u : Tabled P pairs targets) (hd : Held P G work64 work32) (al : Along P G c (bare fs) work32 g.places) where
      abbrev run : List Fact
      run = run_of P G (chain_in c)

      abbrev need : ℕ → Bool
      need = member (needed_of P g.into.0 g.other.0)

      best : Greatest P.recs P.ops (bare fs) (copied_words P work32) work64₁ (needed_at s) (marks g.places fs') g.inside g.places g.least k
      best =
          rw (l.recs_are, l.ops_are) at
          (subst (λ (rs : List ℕ). Greatest recs ops (bare fs) rs work64₁ (needed_at s) (marks g.places fs') g.inside g.places g.least k) (regs_are t d h P l)
          (subst (λ (z : Asked). Greatest recs ops (bare fs) (take (a.end - 8000) (drop 8000 work32)) work64₁ z.span.o (marks z.span.n fs') z.span.m z.span.n z.least k) (d.on h).1 ch.set))

      row : Row work64₁ (needed_at s) (length (copied_words P work32)) need
      row = subst (λ (x : ℕ). Row work64₁ (needed_at s) x need) (sym (regs_long t d P l)) (d.row h P G ops l u hd)

      too_few : k < g.least → count (greatest run need g.inside) < g.least
      too_few i = best.few i run need al.told row

      total : g.least ≤ k → k ≡ count (greatest run need g.inside)
      total i = best.count i run need al.told row

      set_is : g.least ≤ k → (p : ℕ) → in_set (marks g.places fs') p ≡ member (greatest run need g.inside) p
      set_is i = best.set i run need al.told row

    module _ {work64₃ work32₃ : List ℕ} (us : Used bounds recs ops s c work64₂ work32₁ b.moved g.into.0 g.inside g.places work64₃ work32₃) where
      unwanted_by : {b : Sunk} → Share k a.least g.places b → g.least ≡ 0 → b.moved ≡ 0
      unwanted_by (none_move h) z = refl
      unwanted_by (all_move h i) z = let y = (d.on h).0 in absurd (omega arith)

      still_by : {b : Sunk} → Share k a.least g.places b → U.Facts fs' work32 work32₁ b.places → b.moved ≡ 0 → work32₁ ≡ work32
      still_by (none_move h) f z = facts_still f
      still_by (all_move h i) f z = absurd (omega arith)

      none_by : {b : Sunk} → Share k a.least g.places b → 0 < g.least → (P : Picture) (G : Facts) (x : ℕ) → Lists P bounds recs ops s (length work64) (length work32) → Tabled P pairs targets → Held P G work64 work32
          → Along P G c (bare fs) work32 g.places → FromX P c x g.inside → b.moved ≡ 0 → plan_toward P G x c g ≡ None
      none_by (none_move h) some? P G x l u hd al fx z = ⊎_elim
          (λ (y : a.least ≡ 0). plan_off P (run_of P G (chain_in c)) x (chain_in c) g.least g.into.0 g.other.0 (d.no_target y some? P G ops l hd))
          (λ (y : 0 < a.least).
          let q = (d.on y).0 in
          let i : k < g.least = ⊎_elim (λ (v : a.least ≡ 0). absurd (omega arith)) (λ (v : k < a.least). omega arith) h in
          plan_few P (run_of P G (chain_in c)) x (chain_in c) g.least g.into.0 g.other.0 (d.target y P G ops l hd)
          (subst (λ (y : ℕ). count (greatest (run_of P G (chain_in c)) (member (needed_of P g.into.0 g.other.0)) y) < g.least) fx.inside (too_few y P G l u hd al i)))
          (some_or a.least)
      none_by (all_move h i) some? P G x l u hd al fx z = absurd (omega arith)

      some_by : {b : Sunk} → Share k a.least g.places b → U.Facts fs' work32 work32₁ b.places → Used bounds recs ops s c work64₂ work32₁ b.moved g.into.0 g.inside g.places work64₃ work32₃
          → (P : Picture) (G : Facts) (x : ℕ) → Lists P bounds recs ops s (length work64) (length work32) → Tabled P pairs targets → Held P G work64 work32
          → Along P G c (bare fs) work32 g.places → FromX P c x g.inside → (b.moved ≡ 0 → ⊥)
          → (v : Plan) × (plan_toward P G x c g ≡ Some v) × (b.moved ≡ count v.set) × Marked P v g.inside g.places (chain_words work32₃)
          × ((j : ℕ) → j < g.places → get_or (chain_words work32₃) (10 * j) 0 ≡ get_or (chain_places P (blocks_of c)) j 0)
      some_by (none_move h) f v P G x l u hd al fx z = absurd (z refl)
      some_by (all_move h i) f v P G x l u hd al fx z =
          let run : List Fact = run_of P G (chain_in c) in
          let need : ℕ → Bool = member (needed_of P g.into.0 g.other.0) in
          let enough : g.least ≤ k = let q = (d.on h).0 in omega arith in
          let same_set : greatest run need g.inside ≡ greatest run need (size P x - 1) = ap (greatest run need) fx.inside in
          let sum : k ≡ count (set_for P run x g.into.0 g.other.0) = total h P G l u hd al enough ∙ ap count same_set in
          let low : g.inside ≡ size P x - 1 = fx.inside in
          let it : Plan = made P run x (chain_in c) g.least g.into.0 g.other.0 in
          let few = al.few in
          let nu = numbered ch.bare_same f in
          let la : Lasts P it g.inside work32₃ = v.lasts z P G (bare fs) it (lists₃ P l) (held₃ P G l u hd) (along_behind behind₁ al) nu refl refl in (
            it,
            plan_on P run x (chain_in c) g.least g.into.0 g.other.0 (d.target h P G ops l hd) (subst (λ (y : ℕ). g.least ≤ y) sum enough),
            sum,
            marked_after ch.bare_same f work32₃ v.others few l t.planning.chained.sound.few al t.planning.in_x it fx refl la
                (λ y. set_is h P G l u hd al enough y ∙ ap (λ (S : List Bool). member S y) same_set)
                (λ y q. not_true_is_false (member (set_for P run x g.into.0 g.other.0) y)
                (λ r. let o = (greatest_movable run need (size P x - 1) y (true_T (member (set_for P run x g.into.0 g.other.0) y) r)).0 in omega arith))
                (λ y r. T_true (movable (fact_at run y).does.class) (greatest_movable run need (size P x - 1) y (true_T (member (set_for P run x g.into.0 g.other.0) y) r)).1),
            λ y q. number ch.bare_same f work32₃ v.others few y q ∙ al.numbers y q,
          )

      pub planned : TargetTried bounds recs ops pairs targets s c (bare fs) work64 work32 g work64₃ work32₃ b.moved × (bare fs' ≡ bare fs)
      planned = (
        record {
          size64 = us.size64 ∙ size₂;
          size32 = us.size32 ∙ ft.size;
          held = λ P G l u h. us.held P G (lists₃ P l) (held₃ P G l u h);
          behind = us.behind ∙ behind₁;
          unwanted = unwanted_by share;
          still = λ z. us.still z ∙ still_by share ft z;
          none_is = none_by share;
          some_is = some_by share ft us;
        },
        ch.bare_same,
      )
