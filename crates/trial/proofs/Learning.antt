-- `learn`: what `analyse` asks of the parts that are lent, and what it leaves there. Assumes nothing.
use mathlib.Core.Path.{◌≡◌, refl, sym, ap, ap₂, ◌∙◌, subst}
use mathlib.Core.List.{List, map}
use Prim.Native.Nat.{ℕ, ◌+◌, ◌*◌, ◌-◌, ◌%◌, ◌≤◌}
use native.Mathlib.Omega.{arith}
use borrow.Rule.Slice.PartMut.{put_mid, same_len_mid, mid_len, take_put}
use lib.ListN.{get_or, length, take, drop}
use lib.Seq.{take-take}
use Rattle.words.proofs.Lists.{drop_more}
use Rattle.words.proofs.Parts.{put_part}
use Rattle.model.specs.Picture.{Picture}
use Rattle.model.specs.Analyse.{Facts, Fact}
use Rattle.model.specs.Move.{run_of}
use Rattle.laws.proofs.Accepted as laws
use Rattle.laws.proofs.Sizes.{regs_lent}
use Rattle.chains.specs.declared.chain.Chain.{Chain}
use Rattle.chains.specs.Chain.{blocks_of}
use Rattle.chains.proofs.Laid.{laid_in}
use Rattle.regfacts.specs.Flags.{Seen}
use Rattle.analyse.specs.State.{plain}
use Rattle.analyse.specs.Step.{Ready, Analysed}
use Rattle.facts.specs.Marks.{bare}
use Rattle.facts.specs.declared.Fact as F
use Rattle.analyse.proofs.Accepted.{good_given, pair_given, ends_given}
use Rattle.legalset.specs.Chain.{Told}
use Rattle.plan.proofs.Heard as heard
use Rattle.sizes.specs.declared.Sizes.{Sizes}
use Rattle.words.specs.Bits.{width}
use Rattle.chainwords.specs.Work.{at_regs, reg_words, copied_words, Lists, Held}
use Rattle.chainwords.specs.Puts.{Copying, Copied}
use Rattle.chainwords.specs.Along.{Along, Learning, Learnt}
use Rattle.chains.specs.Chain.{chain_in}
use Rattle.chainwords.proofs.Kept.{ok, at_is, held_kept}
use Rattle.chainwords.proofs.Rooms.{Room, room}
use Rattle.chainwords.proofs.Using.{places_same}

module _ {bounds recs ops work64 work32 : List ℕ} {facts : List F.Fact} {s : Sizes} {c : Chain} (g : Learning bounds recs ops s c work64 work32 facts) where
  pub fits : Room s.blocks s.regs s.lent (length work64) (length work32)
  fits = room g.lists

  module _ {a e r : ℕ} (ea : a ≡ 4 * s.blocks * width s.lent) (ee : e ≡ a + s.lent) (er : r ≡ s.regs) where
    pub inside : e ≤ length work64
    inside = let z = fits.words64 in omega (arith, ea)

    part_long : length (take (e - a) (drop a work64)) ≡ s.lent
    part_long = mid_len a e work64 inside ∙ omega arith

    pub ready : Ready recs ops (take (e - a) (drop a work64)) facts bounds c r
    ready =
        let l = g.lists in
        let P = g.P in
        let k : laws.Accepted P = ok l in
        rw (l.recs_are, l.ops_are, l.bounds_are, er, l.regs_are)
        (record {
          in_use = let z = fits.lent in omega (arith, part_long, l.regs_are);
          lent = let z = fits.few in omega (arith, part_long);
          room = g.room;
          laid = laid_in g.chained.sound (pair_given P k);
          good = λ j i h low. good_given P k i (let z = ends_given P k (get_or (blocks_of c) j 0) (g.chained.sound.each j h) in omega arith);
          short = λ Q q. subst (λ (xs : List ℕ). length xs ≤ 800) (places_same P Q (sym q) (blocks_of c)) g.chained.short;
        })

    module _ {n : ℕ} {regs' : List ℕ} (facts' : List F.Fact) (an : Analysed recs ops (take (e - a) (drop a work64)) (bare facts) bounds c r n regs' (bare facts')) where
      abbrev after64 : List ℕ
      after64 = put_mid a (e - a) work64 regs'

      abbrev w' : List F.Fact
      w' = bare facts'

      pub size64 : length after64 ≡ length work64
      size64 = same_len_mid a (e - a) work64 regs' an.regs_size

      regs_long : length regs' ≡ e - a
      regs_long = an.regs_size ∙ mid_len a e work64 inside

      few : r ≤ e - a
      few = let z = fits.lent in omega arith

      pub copying : Copying after64 a r work32
      copying = record {
        there = omega (arith, size64, inside, few);
        room = let z = fits.words32 in let y = fits.lent in omega arith;
      }

      module _ {copied : List ℕ} (cp : Copied after64 a r work32 copied) where
        module _ (P : Picture) (G : Facts) (l : Lists P bounds recs ops s (length work64) (length work32)) (h : Held P G work64 work32) where
          at_a : a ≡ at_regs P
          at_a = ea ∙ at_is l

          all_lent : e - a ≡ length P.types
          all_lent = omega (arith, l.lent_are)

          before_is : take (e - a) (drop a work64) ≡ reg_words P work64
          before_is = ap₂ (λ (k b : ℕ). take k (drop b work64)) all_lent at_a

          part_is : take (e - a) (drop a after64) ≡ regs'
          part_is = put_part a (e - a) work64 regs' (e - a) (omega (arith, inside)) regs_long

          after_is : reg_words P after64 ≡ regs'
          after_is = sym (ap₂ (λ (k b : ℕ). take k (drop b after64)) all_lent at_a) ∙ part_is

          held_after : Held P G after64 copied
          held_after =
              held_kept l h after64 copied
              (subst (λ (b : ℕ). take b after64 ≡ take b work64) at_a (take_put a (e - a) work64 regs' (omega (arith, inside))))
              (λ r i. ap (λ (xs : List ℕ). get_or xs r 0 % 16) after_is ∙ an.kept r ∙ ap (λ (xs : List ℕ). get_or xs r 0 % 16) before_is)
              (drop_more (8000 + r) (8000 + length P.types) copied work32 (omega (arith, few, all_lent)) cp.behind)

          of_picture : Analysed P.recs P.ops (take (e - a) (drop a work64)) (bare facts) P.bounds c P.regs n regs' w'
          of_picture = rw (l.recs_are, l.ops_are, l.bounds_are, er, l.regs_are) at an

          seen : Seen G P.regs (take (e - a) (drop a work64))
          seen = record { size = h.begun.known; flags = λ r i. ap (λ (xs : List ℕ). get_or xs r 0 % 16) before_is ∙ h.begun.seen.flags r (let z = regs_lent P (ok l) in omega arith) }

          copy_is : copied_words P copied ≡ map plain (take P.regs regs')
          copy_is = subst (λ (x : ℕ). take x (drop 8000 copied) ≡ map plain (take x regs')) (er ∙ l.regs_are) (cp.part ∙ ap (map plain) (sym (take-take r (e - a) (drop a after64) few) ∙ ap (take r) part_is))

          abbrev run : List Fact
          run = run_of P G (chain_in c)

          told : Told P.recs P.ops w' (copied_words P copied) n run
          told = heard.told of_picture P refl G seen (copied_words P copied) copy_is

          along : Along P G c w' copied n
          along = record {
            long = of_picture.positions P refl;
            few = of_picture.short;
            numbers = λ k i. of_picture.numbers P refl k i;
            told = told;
            ended = heard.ended of_picture P refl G seen (copied_words P copied) copy_is;
            safe = heard.safe of_picture;
            brief = heard.brief of_picture;
            written = λ p i. ((of_picture.state P refl G seen).each p (let z = told.stands.long in omega arith)).def;
          }

        pub learnt : Learnt bounds recs ops s c work64 work32 after64 copied facts' n
        learnt = record { size64 = size64; size32 = cp.size; held = held_after; along = λ P G l h k. along P G l h }
