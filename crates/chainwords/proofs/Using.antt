-- `put_uses`: what it asks of its callees, and that word 7 of each position in x is its last use in the plan. Assumes nothing.
use mathlib.Core.Path.{◌≡◌, refl, sym, ap, ap₂, ◌∙◌, subst}
use mathlib.Core.Bool.{Bool, true, false, cond}
use mathlib.Core.List.{List, [], ◌∷◌, ◌++◌}
use Prim.Native.Nat.{ℕ, zero, suc, ◌+◌, ◌*◌, ◌-◌, ◌%◌, ◌≤◌, ◌<◌}
use native.Mathlib.Nat.{zero-add}
use native.Mathlib.Omega.{arith}
use lib.ListN.{get_or, length, take, drop, length-drop}
use lib.Seq.{length-take-le}
use Rattle.words.specs.Lists.{all, range}
use Rattle.words.specs.Bits.{is_in}
use Rattle.words.specs.Last.{last_below}
use Rattle.words.proofs.Lasts.{last_passes}
use Rattle.words.proofs.Lists.{get_or-made, take_less, drop_more}
use Rattle.words.proofs.Parts.{part_first}
use Rattle.words.proofs.Rows.{in_front}
use Rattle.model.specs.Picture.{Picture, inst, nblocks, places, size, reads, writes}
use Rattle.model.specs.Live.{live_in}
use Rattle.model.specs.Analyse.{Facts}
use Rattle.model.specs.Move.{Plan, chain_places, run_of, last_use}
use Rattle.chains.specs.declared.chain.Chain.{Chain}
use Rattle.chains.specs.Chain.{blocks_of}
use Rattle.chains.specs.Places.{Laid}
use Rattle.chains.proofs.Laid.{laid_in}
use Rattle.analyse.proofs.Accepted.{pair_given}
use Rattle.facts.specs.declared.Fact.{Fact}
use Rattle.facts.specs.Marks.{fact_in}
use Rattle.regfacts.specs.Written.{Good}
use Rattle.legalset.specs.Chain.{view, defs_of, reads_of, Told}
use Rattle.summary.specs.Passes.{result_test, Around}
use Rattle.lastuse.specs.Uses.{or_own, reads_value, last_reader, Readers, defs_at, reads_at, Legible, ReadersAlong}
use Rattle.summary.proofs.Backing.{writes_low}
use Rattle.lastuse.proofs.Using.{readers_same}
use Rattle.lastuse.proofs.LastUse.{last_use_is}
use Rattle.pool.specs.Plan.{read_there}
use Rattle.sizes.specs.declared.Sizes.{Sizes}
use Rattle.sizes.specs.Parts.{regs_at, stamps_at}
use Rattle.words.specs.Bits.{width}
use Rattle.chainwords.specs.Work.{at_regs, reg_words, copied_words, Lists, Held}
use Rattle.chainwords.specs.Puts.{use_of, UseAsked, Lasting}
use Rattle.chainwords.specs.Along.{Along, Planning, Numbered, Lasts, Used}
use Rattle.chains.specs.Chain.{chain_in}
use Rattle.chainwords.proofs.Kept.{row_low, ok, at_is, held_kept}
use Rattle.chainwords.proofs.Rooms.{Room, room}
use Rattle.chainwords.proofs.Putting.{front_word, lasting_whole, behind_same}

-- ---- small facts

cond_low : (b : Bool) {x y k : ℕ} → x < k → y < k → cond b x y < k
cond_low true h i = h
cond_low false h i = i

reader_low : (defs reads : ℕ → List ℕ) (n p : ℕ) → p < 800 → n ≤ 800 → last_reader defs reads n p < 800
unfolding last_reader or_own
reader_low defs reads n p h k = go (last_below (reads_value defs reads p) n) refl
  where
    go : (d : ℕ) → last_below (reads_value defs reads p) n ≡ d → or_own p d < 800
    go zero e = h
    go (suc q) e = let z = (last_passes (reads_value defs reads p) n q e).0 in omega arith

-- the positions of a chain are told by the bounds alone
pub places_same : (P Q : Picture) → P.bounds ≡ Q.bounds → (bs : List ℕ) → chain_places P bs ≡ chain_places Q bs
places_same P Q e [] = refl
places_same P Q e (b ∷ []) = ap (λ (l : List ℕ). range (get_or l (2 * b) 0) (get_or l (2 * b + 1) 0 - get_or l (2 * b) 0)) e
places_same P Q e (b ∷ c ∷ bs) =
    ap (λ (l : List ℕ). take (get_or l (2 * b + 1) 0 - get_or l (2 * b) 0 - 1) (range (get_or l (2 * b) 0) (get_or l (2 * b + 1) 0 - get_or l (2 * b) 0)) ++ chain_places P (c ∷ bs)) e
    ∙ ap (λ (m : List ℕ). take (size Q b - 1) (places Q b) ++ m) (places_same P Q e (c ∷ bs))

-- ---- no member moves

pub used_none : {bounds recs ops : List ℕ} {s : Sizes} {c : Chain} {work64 work32 : List ℕ} {moved into m n : ℕ} → moved ≡ 0 → Used bounds recs ops s c work64 work32 moved into m n work64 work32
used_none e = record { size64 = refl; size32 = refl; behind = refl; still = λ z. refl; held = λ P G l h. h; others = λ q j i d. refl; lasts = λ d P G w a l h al nu ei er. absurd (d e) }

-- ---- what is asked on the way

module _ {bounds recs ops : List ℕ} {s : Sizes} {c : Chain} {w : List Fact} {work64 work32 : List ℕ} {into m n : ℕ} (g : Planning bounds recs ops s c w work64 work32 into m n) where
  pub plan_room : Room s.blocks s.regs s.lent (length work64) (length work32)
  plan_room = room g.lists

  into_low : into < s.blocks
  into_low = let z = g.into_block in let e = g.lists.blocks_are in omega arith

  m_few : m ≤ 800
  m_few = let z = g.in_x in let y = g.along.few in omega arith

  good_at : (p : ℕ) → p < n → Good recs ops s.regs (fact_in w p).rec
  good_at p h = let l = g.lists in rw (l.recs_are, l.ops_are, l.regs_are) (g.along.safe.good p h)

  pub legible : Legible recs ops bounds c s.regs
  legible =
      let l = g.lists in
      let bs = blocks_of c in
      record {
        laid = subst (λ (b : List ℕ). Laid b c) (sym l.bounds_are) (laid_in g.chained.sound (pair_given g.P (ok l)));
        few = λ Q e. subst (λ (xs : List ℕ). length xs ≤ 800) (places_same g.P Q (sym l.bounds_are ∙ sym e) bs) g.chained.short;
        good = λ Q e q h.
            let same = places_same g.P Q (sym l.bounds_are ∙ sym e) bs in
            let i : q < n = let z = g.along.long in let y = ap length same in omega arith in
            subst (Good recs ops s.regs) (g.along.numbers q i ∙ ap (λ (xs : List ℕ). get_or xs q 0) same) (good_at q i);
      }

  pub readers_room : stamps_at s + s.regs ≤ length work64
  readers_room = let z = plan_room in omega (arith, z.words64, z.lent)

  module _ {b v : ℕ} (eb : b ≡ into) (ev : v ≡ width s.regs) where
    pub row_inside : b * v + v ≤ regs_at s
    row_inside = let z = plan_room in let y = into_low in row_low s.blocks (omega (arith, eb)) (omega (arith, z.lent, ev))

    module _ {work64' : List ℕ} (ar : Around (stamps_at s) s.regs work64 work64') where
      pub use_asked : {regs words : List ℕ} → length regs ≡ s.regs → words ≡ take 8000 work32 → Numbered w work32 n → UseAsked recs regs work64' words (b * v) n
      use_asked {regs} {words} long front nu =
          let z = plan_room in
          let size = z.words32 in
          let number : (p : ℕ) → p < n → get_or words (10 * p) 0 ≡ (fact_in w p).rec =
          λ p h. let few = g.along.few in ap (λ (ws : List ℕ). get_or ws (10 * p) 0) front ∙ front_word work32 (10 * p) (omega arith) ∙ nu.each p h in
          record {
            few = g.along.few;
            known = λ p h. rw (number p h) (good_at p h).known;
            fits = λ p h. rw (number p h, long) (good_at p h).fits;
            room = let y = ap length front ∙ length-take-le 8000 work32 (omega arith) in omega arith;
            row = omega (arith, row_inside, z.words64, ar.size);
          }

      module _ {lasts work32' : List ℕ} (rd : ReadersAlong recs ops bounds c lasts) (pt : Lasting recs lasts (take s.regs (drop 8000 work32)) work64' work32 work32' (b * v) n m)
          (bh : drop 8000 work32' ≡ drop 8000 work32) where
        module _ (P : Picture) (l : Lists P bounds recs ops s (length work64) (length work32)) where
          at_a : regs_at s ≡ at_regs P
          at_a = at_is l

          rows_same : take (at_regs P) work64' ≡ take (at_regs P) work64
          rows_same = take_less (at_regs P) (stamps_at s) work64' work64 (omega (arith, at_a)) ar.below

          regs_same : reg_words P work64' ≡ reg_words P work64
          regs_same =
              let e = l.lent_are in
              sym (part_first (at_regs P) (length P.types) (stamps_at s) work64' (omega (arith, at_a)))
              ∙ ap (λ (z : List ℕ). take (length P.types) (drop (at_regs P) z)) ar.below
              ∙ part_first (at_regs P) (length P.types) (stamps_at s) work64 (omega (arith, at_a))

          held_after : (G : Facts) → Held P G work64 work32 → Held P G work64' work32'
          held_after G h =
              held_kept l h work64' work32' rows_same (λ r i. ap (λ (xs : List ℕ). get_or xs r 0 % 16) regs_same)
              (drop_more 8000 (8000 + length P.types) work32' work32 (omega arith) bh)

          module _ (G : Facts) (w' : List Fact) (a : Plan) (h : Held P G work64 work32) (al : Along P G c w' work32 n) (nu : Numbered w' work32 n) (ei : a.into ≡ into) (ea : a.run ≡ run_of P G (chain_in c)) where
            abbrev regs : List ℕ
            regs = copied_words P work32

            abbrev o : ℕ
            o = into * width P.regs

            lasting_P : Lasting P.recs lasts regs work64' work32 work32' o n m
            lasting_P = rw (l.recs_are, eb, ev, l.regs_are) at pt

            readers_P : Readers (defs_of P.recs w') (reads_of P.recs P.ops w') n lasts
            readers_P =
                readers_same (λ q h. ap (λ (g : ℕ). writes (inst P.recs g)) (sym (al.numbers q h))) (λ q h. ap (λ (g : ℕ). reads P.ops (inst P.recs g)) (sym (al.numbers q h)))
                (subst (λ (k : ℕ). Readers (defs_at P.recs (chain_places P (blocks_of c))) (reads_at P.recs P.ops (chain_places P (blocks_of c))) k lasts) (sym al.long) (rw (l.recs_are, l.ops_are) at (rd.each P (sym l.bounds_are))))

            told : Told P.recs P.ops w' regs n a.run
            told = subst (Told P.recs P.ops w' regs n) (sym ea) al.told

            regs_long : length regs ≡ P.regs
            regs_long = length-take-le P.regs (drop 8000 work32) (let z = room l in let e = length-drop 8000 work32 in omega (arith, z.words32, z.lent, l.regs_are))

            in_chain : (p : ℕ) → p < m → p < n
            in_chain p i = let z = g.in_x in omega arith

            -- the row of what is live into the target
            row_is : (r : ℕ) → r < P.regs → is_in work64' (64 * o + r) ≡ read_there P a r
            row_is r i =
                let e = l.blocks_are in
                let y = into_low in
                let z = room l in
                let q = row_low {b = into} {w = width P.regs} {v = width (length P.types)} (nblocks P) (omega arith) (omega (arith, z.lent, l.regs_are, l.lent_are)) in
                in_front work64' work64 (at_regs P) (64 * o + r) rows_same (omega (arith, q))
                ∙ h.live.row into r (omega arith) (omega arith)
                ∙ sym (get_or-made (live_in P a.into) false 0 P.regs r i ∙ ap₂ (live_in P) ei (zero-add r))

            word_is : (p : ℕ) → p < m → get_or work32' (10 * p + 7) 0 ≡ use_of P.recs regs work64' o lasts n (fact_in w' p).rec p
            word_is p i = lasting_P.last p i ∙ ap (λ (k : ℕ). use_of P.recs regs work64' o lasts n k p) (nu.each p (in_chain p i))

            last_is : (p : ℕ) → p < m → get_or work32' (10 * p + 7) 0 ≡ last_use a.run (read_there P a) p
            last_is p i =
                word_is p i
                ∙ ap (λ (x : ℕ). cond (all (result_test regs work64' o p) (defs_of P.recs w' p)) x n) (readers_P.each p (let z = m_few in omega arith))
                ∙ sym (last_use_is (view P.recs P.ops w' regs) n a.run told.stands p (in_chain p i) regs work64' o (read_there P a)
                (λ r j. let k = writes_low P.recs P.regs (fact_in w' p).rec (al.safe.good p (in_chain p i)).fits r j in (al.ended.each r (omega (arith, regs_long)), row_is r k)))

            lasts_after : Lasts P a m work32'
            lasts_after = record {
              is = last_is;
              low = λ p i.
                  let z = m_few in
                  let y = al.few in
                  let u : use_of P.recs regs work64' o lasts n (fact_in w' p).rec p < 4096 =
                  cond_low (all (result_test regs work64' o p) (defs_of P.recs w' p))
                  (let x = readers_P.each p (omega arith) in let v = reader_low (defs_of P.recs w') (reads_of P.recs P.ops w') n p (omega arith) y in omega arith) (omega arith) in
                  subst (λ (x : ℕ). x < 4096) (sym (word_is p i)) u;
            }

        used : {moved : ℕ} → (moved ≡ 0 → ⊥) → Used bounds recs ops s c work64 work32 moved into m n work64' work32'
        used d = record {
          size64 = ar.size;
          size32 = pt.size;
          behind = bh;
          still = λ z. absurd (d z);
          held = λ P G l h. held_after P l G h;
          others = pt.others;
          lasts = λ _ P G w' b l h al nu ei eb. lasts_after P l G w' b h al nu ei eb;
        }

      -- the words of the chain, and the words behind them
      pub used_parts : {lasts front back words : List ℕ} {moved : ℕ} → front ≡ take 8000 work32 → back ≡ drop 8000 work32 → ReadersAlong recs ops bounds c lasts
          → Lasting recs lasts (take s.regs back) work64' front words (b * v) n m → (moved ≡ 0 → ⊥) → Used bounds recs ops s c work64 work32 moved into m n work64' (words ++ back)
      used_parts {lasts} {front} {back} {words} {moved} ef ek rd pt d =
          let room : 8000 ≤ length work32 = let z = plan_room in let y = z.words32 in omega arith in
          let h : Lasting recs lasts (take s.regs (drop 8000 work32)) work64' (take 8000 work32) words (b * v) n m = rw (ef, ek) at pt in
          subst (λ (k : List ℕ). Used bounds recs ops s c work64 work32 moved into m n work64' (words ++ k)) (sym ek)
          (used rd (lasting_whole work32 room m_few h) (behind_same work32 room m_few h) d)
