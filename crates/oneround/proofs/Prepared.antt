-- What the move of a round comes to (01, "A round" and "Answers"): it is counted, against the room that is lent. Assumes nothing.
use Rattle.std.specs.Prelude.{Option, Some}
use mathlib.Core.Path.{◌≡◌, sym, ap, ◌∙◌, subst}
use mathlib.Core.Logic.{⊎_elim}
use mathlib.Core.Bool.{Bool, true, false, ◌&&◌, and-false}
use mathlib.Core.List.{List}
use Prim.Native.Nat.{ℕ, ◌+◌, ◌*◌, ◌≤◌, ◌<◌}
use native.Mathlib.Nat.{le_refl}
use native.Mathlib.Omega.{arith}
use borrow.Author.Tests.{le-leb, lt-leb}
use lib.Dec.{leb}
use lib.ListN.{length, take}
use lib.Seq.{length-take-le}
use Rattle.words.proofs.Bools.{both_true, lt?}
use Rattle.words.proofs.Lists.{drop_more}
use Rattle.model.specs.Refusal.{records}
use Rattle.model.specs.Picture.{Picture, nblocks}
use Rattle.model.specs.Analyse.{Facts}
use Rattle.model.specs.Move.{apply}
use Rattle.model.specs.Pass as Pass
use Rattle.model.specs.Pass.{fits}
use Rattle.laws.proofs.Accepted.{Accepted, accepted}
use Rattle.laws.proofs.Sizes.{few_ops}
use Rattle.apply.specs.declared.needs.Counts.{Counts}
use Rattle.apply.specs.Apply.{Asks, Counted, Stands, Given}
use Rattle.apply.proofs.Done.{asks_kept}
use Rattle.apply.specs.declared.moves.Move.{Move}
use Rattle.sizes.specs.declared.Sizes.{Sizes}
use Rattle.sizes.specs.Parts.{stamps_at}
use Rattle.chainwords.specs.Work.{at_stamps, chain_words, Begun}
use Rattle.trial.specs.Trial.{Found}
use Rattle.find.specs.Find.{IsAnswered, Sure}
use Rattle.oneround.specs.declared.weigh.Line.{Line}
use Rattle.oneround.specs.declared.weigh.Step.{Step}
use Rattle.oneround.specs.declared.weigh.Step.TheVariants.{Ends, Goes, Short}
use Rattle.oneround.specs.Weigh.{Needing, Needed, IsStepped, IsPrepared, Beside, with_beside, Ready, Weighed}
use Rattle.search.proofs.Start.{rooms_of}
use Rattle.chainwords.proofs.Standing.{begun_kept, firm_front}
use Rattle.oneround.proofs.Asked.{x_is, asked}

-- ---- a move that was counted

module _ {P : Picture} (ok : Accepted P) {G : Facts} {x : ℕ} {mv : Move} {w v : List ℕ} (c : Counts) (f : Found P G x mv w) (long : length w ≡ 8000)
    (n : Counted mv.from.0 mv.into.0 mv.inside mv.places P.regs P.opers P.bounds P.recs P.types P.ops w v c.regs c.opers)
    (q : Pass.round P G ≡ Some f.a) where
  from_is : mv.from.0 ≡ f.a.x
  from_is = f.from_is ∙ sym (x_is ok f long)

  counted : Counted f.a.x f.a.into mv.inside mv.places P.regs P.opers P.bounds P.recs P.types P.ops w v c.regs c.opers
  counted =
      subst (λ (z : ℕ). Counted f.a.x z mv.inside mv.places P.regs P.opers P.bounds P.recs P.types P.ops w v c.regs c.opers) f.into_is
      (subst (λ (z : ℕ). Counted z mv.into.0 mv.inside mv.places P.regs P.opers P.bounds P.recs P.types P.ops w v c.regs c.opers) from_is n)

  after : Stands P f.a mv.inside mv.places v × Given P f.a mv.inside v × (c.regs ≡ (apply P f.a).regs) × (c.opers ≡ (apply P f.a).opers)
  after = counted.counts P.locs P.vias (record { pairs = P.pairs; targets = P.targets; replay = P.replay }) f.a.run f.a.set f.stands

  asks_after : Asks f.a.x f.a.into mv.inside mv.places P.regs P.opers (length P.types) (length P.locs) P.bounds P.recs P.types P.ops v
  asks_after =
      subst (λ (z : ℕ). Asks z f.a.into mv.inside mv.places P.regs P.opers (length P.types) (length P.locs) P.bounds P.recs P.types P.ops v) (sym (x_is ok f long))
      (asks_kept w v counted.keeps counted.size (asked ok f long))

  goes : c.regs ≤ length P.types → c.opers ≤ length P.ops → IsPrepared P G (Goes (record { moved = mv; registers = c.regs; operands = c.opers })) v
  goes a b = (
    f.a,
    q,
    both_true (leb (apply P f.a).regs (length P.types)) (leb (apply P f.a).opers (length P.ops))
        (subst (λ (z : ℕ). leb z (length P.types) ≡ true) after.2 (le-leb c.regs (length P.types) a))
        (subst (λ (z : ℕ). leb z (length P.ops) ≡ true) after.3 (le-leb c.opers (length P.ops) b)),
    record { from_is = from_is; into_is = f.into_is; moved_is = f.moved_is; registers_are = after.2; operands_are = after.3 },
    asks_after,
    record { none_new = counted.none_new; regs = let e = counted.regs_is in omega arith; opers = let e = counted.opers_is in omega arith },
    after.0,
    after.1,
  )

  no_room : (c.regs ≤ length P.types → length P.ops < c.opers) → fits P (apply P f.a) ≡ false
  no_room h = ⊎_elim (λ (l : length P.types < c.regs). ap (λ (b : Bool). b && leb (apply P f.a).opers (length P.ops)) (regs_false l))
      (λ (l : c.regs ≤ length P.types). ap (λ (b : Bool). leb (apply P f.a).regs (length P.types) && b) (opers_false (h l)) ∙ and-false (leb (apply P f.a).regs (length P.types))) (lt? (length P.types) c.regs)
    where
      regs_false : length P.types < c.regs → leb (apply P f.a).regs (length P.types) ≡ false
      regs_false l = subst (λ (z : ℕ). leb z (length P.types) ≡ false) after.2 (lt-leb c.regs (length P.types) l)

      opers_false : length P.ops < c.opers → leb (apply P f.a).opers (length P.ops) ≡ false
      opers_false l = subst (λ (z : ℕ). leb z (length P.ops) ≡ false) after.3 (lt-leb c.opers (length P.ops) l)

  comes_to : (r : Step) → IsStepped mv c (length P.types) (length P.ops) r → IsPrepared P G r v
  comes_to (Goes l) h = subst (λ (z : Line). IsPrepared P G (Goes z) v) (sym h.2) (goes h.0 h.1)
  comes_to Short h = (f.a, q, no_room h)
  comes_to Ends h = absurd h

-- ---- `weigh`

-- a move mv
module _ {bounds recs types ops : List ℕ} {s : Sizes} {work64 work32 : List ℕ} {r : Option Move} (k : Ready bounds recs types ops s work64 work32 r) where
  abbrev P : Beside → Picture
  P e = with_beside bounds recs types ops s e

  good : Accepted (P k.e)
  good = accepted (P k.e) (length work64) (length work32) records k.accepted

  pub ops_few : length ops ≤ 131072
  ops_few = few_ops (P k.e) good

  words_there : 8000 ≤ length work32
  words_there = let r = (rooms_of (P k.e) (length work64) (length work32) k.accepted).room32 in omega arith

  words_long : length (chain_words work32) ≡ 8000
  words_long = length-take-le 8000 work32 words_there

  blocks_are : s.blocks ≡ nblocks (P k.e)
  blocks_are = ap (λ (z : Sizes). z.blocks) k.sizes_are

  lent_are : s.lent ≡ length types
  lent_are = ap (λ (z : Sizes). z.lent) k.sizes_are

  stamps_are : (e : Beside) → stamps_at s ≡ at_stamps (P e)
  stamps_are e = ap (λ (z : Sizes). stamps_at z) k.sizes_are

  module _ {mv : Move} (m : r ≡ Some mv) where
    sure : (e : Beside) (G : Facts) → IsAnswered (P e) G work64 work32 r → Sure (P e) G work64 work32 mv
    sure e G b = subst (IsAnswered (P e) G work64 work32) m b

    pub needing : Needing bounds recs types ops s work64 work32 (length k.e.locs) mv
    needing =
        let f = (sure k.e k.G k.answer).found in
        let asks_of : ℕ → ℕ → ℕ → Type 0 = λ x t l. Asks x t mv.inside mv.places s.regs s.opers l (length k.e.locs) bounds recs types ops (chain_words work32) in
        record {
          asks = subst (λ (z : ℕ). asks_of z mv.into.0 s.lent) (sym f.from_is)
              (subst (λ (z : ℕ). asks_of (sure k.e k.G k.answer).x z s.lent) (sym f.into_is)
              (subst (λ (z : ℕ). asks_of (sure k.e k.G k.answer).x f.a.into z) (sym lent_are) (asked good f words_long)));
          lent_are = lent_are;
          few_blocks = let h = (rooms_of (P k.e) (length work64) (length work32) k.accepted).few_blocks in let q = blocks_are in omega arith;
          room64 = let h = (rooms_of (P k.e) (length work64) (length work32) k.accepted).room64 in let q = stamps_are k.e in let l = lent_are in omega arith;
          room32 = words_there;
        }

    pub weighed : {work64' work32' : List ℕ} {c : Counts} {q : Step} → Needed bounds recs types ops s work64 work32 mv work64' work32' c → IsStepped mv c s.lent (length ops) q
        → Weighed bounds recs types ops s work64 work32 r work64' work32' q
    weighed {work64'} {work32'} {c} {q} n h = record {
      size64 = n.size64;
      size32 = n.size32;
      is = λ e G ok b.
          let z = sure e G b in
          let fine = accepted (P e) (length work64) (length work32) records ok in
          (begun_over e G fine z.begun, comes_to fine c z.found words_long n.counted z.first q (subst (λ (l : ℕ). IsStepped mv c l (length ops) q) lent_are h));
    }
      where
        begun_over : (e : Beside) (G : Facts) → Accepted (P e) → Begun (P e) G work64 work32 → Begun (P e) G work64' work32'
        begun_over e G fine b =
            begun_kept (firm_front (P e) fine (at_stamps (P e)) work64 work64' (le_refl (at_stamps (P e))) (subst (λ (z : ℕ). take z work64' ≡ take z work64) (stamps_are e) n.before))
            (ap (take (2 * nblocks (P e))) (drop_more 8000 (8000 + length types) work32' work32 (omega arith) n.behind)) b
