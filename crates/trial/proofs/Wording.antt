-- `put_facts` and `put_uses`: the words say what the move asks. Assumes nothing.
use mathlib.Core.Path.{◌≡◌, refl, sym, ap, ◌∙◌, subst}
use mathlib.Core.Logic.{inl}
use mathlib.Core.Bool.{Bool, true, false, not, cond}
use mathlib.Core.List.{List, [], ◌∷◌, map}
use Prim.Native.Nat.{ℕ, ◌+◌, ◌*◌, ◌-◌, ◌≤◌, ◌<◌}
use native.Mathlib.Omega.{arith}
use borrow.Author.Tests.{ne_eqb}
use lib.Dec.{eqb}
use lib.ListN.{get_or, length, take, length-map}
use lib.Seq.{get_or-take}
use Rattle.words.specs.Lists.{In, member}
use Rattle.words.proofs.Lists.{get_d_map}
use Rattle.model.specs.Picture.{Picture, Inst, inst, absent, writes, starts, size}
use Rattle.model.specs.Analyse.{Facts, Fact, movable}
use Rattle.model.specs.Legal.{fact_at}
use Rattle.model.specs.Move.{Plan, chain_places, run_of, last_use}
use Rattle.model.specs.Results.{is_movable}
use Rattle.model.proofs.Results.{movable_writes_one}
use Rattle.laws.proofs.Sizes.{recs_length}
use Rattle.laws.proofs.Analysed.{fact_of}
use Rattle.laws.proofs.Chains.{lead}
use Rattle.facts.specs.declared.Fact as F
use Rattle.facts.specs.Marks.{fact_in, bare}
use Rattle.chains.specs.declared.chain.Chain.{Chain}
use Rattle.chains.specs.Chain.{blocks_of, Few}
use Rattle.chains.proofs.Struct.{blocks_long}
use Rattle.legalset.specs.Chain.{Told}
use Rattle.legalset.specs.Marks.{in_set}
use Rattle.plan.specs.Sweep.{marks}
use Rattle.summary.proofs.Backing.{writes_low}
use Rattle.plan.proofs.Sweeping.{marks_at, shown}
use Rattle.pool.specs.Pool.{wrote_at, regs_of}
use Rattle.pool.specs.Plan.{read_there}
use Rattle.sizes.specs.declared.Sizes.{Sizes}
use Rattle.chainwords.specs.Work.{chain_words, copied_words, Lists}
use Rattle.chainwords.specs.Puts as U
use Rattle.chainwords.specs.Along.{Along, Marked, FromX, Numbered, Lasts}
use Rattle.chains.specs.Chain.{chain_in}
use Rattle.chainwords.proofs.Kept.{ok}
use Rattle.chainwords.proofs.Rooms.{room}

-- ---- small facts

twice_not : (b : Bool) → b ≡ not (not b)
twice_not true = refl
twice_not false = refl

-- the only register of a list, or absent
one_reg : (R : ℕ) → R ≤ 65536 → (xs : List ℕ) → length xs ≤ 1 → ((r : ℕ) → In r xs → r < R) → regs_of (get_or xs 0 absent) ≡ xs
one_reg R l [] h f = refl
one_reg R l (x ∷ []) h f = let z = f x (inl refl) in ap (λ (b : Bool). cond b [] (x ∷ [])) (ne_eqb x absent (λ e. omega arith))
one_reg R l (x ∷ y ∷ xs) h f = absurd (omega arith)

head_low : (R : ℕ) (xs : List ℕ) → ((r : ℕ) → In r xs → r < R) → (get_or xs 0 absent ≡ absent → ⊥) → get_or xs 0 absent < R
head_low R [] f k = absurd (k refl)
head_low R (x ∷ xs) f k = f x (inl refl)

-- the first positions of a chain are those of its first block
first_places : (P : Picture) (bs : List ℕ) → 0 < length bs → (p : ℕ) → p < size P (get_or bs 0 0) - 1 → get_or (chain_places P bs) p 0 ≡ starts P (get_or bs 0 0) + p
first_places P [] h p i = absurd (omega arith)
first_places P (b ∷ bs) h p i = (lead P b bs p i).1

-- ---- the words of the n positions, by their facts

module _ {fs w : List F.Fact} {xs ys : List ℕ} {n : ℕ} (same : bare fs ≡ w) (ft : U.Facts fs xs ys n) where
  rec_is : (p : ℕ) → p < n → get_or ys (10 * p) 0 ≡ (fact_in w p).rec
  rec_is p i = ft.rec p i ∙ sym (ap (λ (x : F.Fact). x.rec) (shown fs p).same) ∙ ap (λ (v : List F.Fact). (fact_in v p).rec) same

  def_is : (p : ℕ) → p < n → get_or ys (10 * p + 8) 0 ≡ (fact_in w p).def
  def_is p i = ft.wrote p i ∙ sym (ap (λ (x : F.Fact). x.def) (shown fs p).same) ∙ ap (λ (v : List F.Fact). (fact_in v p).def) same

  mark_is : (p : ℕ) → p < n → get_or ys (10 * p + 6) 0 ≡ get_or (marks n fs) p 0
  mark_is p i = ft.mark p i ∙ sym (marks_at n fs p i)

  pub numbered : Numbered w ys n
  numbered = record { each = rec_is }

  -- and after the last uses were put, zs
  module _ (zs : List ℕ) (others : (q j : ℕ) → j < 10 → (j ≡ 7 → ⊥) → get_or zs (10 * q + j) 0 ≡ get_or ys (10 * q + j) 0) (few : n ≤ 800) where
    abbrev W : List ℕ
    W = chain_words zs

    word_at : (p j : ℕ) → p < n → j < 10 → get_or W (10 * p + j) 0 ≡ get_or zs (10 * p + j) 0
    word_at p j i k = get_or-take 8000 zs (10 * p + j) 0 (omega arith)

    pub number : (p : ℕ) → p < n → get_or W (10 * p) 0 ≡ (fact_in w p).rec
    number p i =
        let z : 10 * p ≡ 10 * p + 0 = omega arith in
        ap (λ (k : ℕ). get_or W k 0) z ∙ word_at p 0 i (omega arith) ∙ others p 0 (omega arith) (λ e. let y : ◌≡◌ {A = ℕ} 0 7 = e in absurd (omega arith)) ∙ ap (λ (k : ℕ). get_or ys k 0) (sym z) ∙ rec_is p i

    wrote_word : (p : ℕ) → p < n → wrote_at W p ≡ (fact_in w p).def
    wrote_word p i = word_at p 8 i (omega arith) ∙ others p 8 (omega arith) (λ e. let y : ◌≡◌ {A = ℕ} 8 7 = e in absurd (omega arith)) ∙ def_is p i

    mark_word : (p : ℕ) → p < n → get_or W (10 * p + 6) 0 ≡ get_or (marks n fs) p 0
    mark_word p i = word_at p 6 i (omega arith) ∙ others p 6 (omega arith) (λ e. let y : ◌≡◌ {A = ℕ} 6 7 = e in absurd (omega arith)) ∙ mark_is p i

    -- ---- they stand for the plan b

    module _ {P : Picture} {G : Facts} {bounds recs ops : List ℕ} {s : Sizes} {w64 w32 : ℕ} (l : Lists P bounds recs ops s w64 w32) {c : Chain} (fw : Few c) (al : Along P G c w xs n)
        {m : ℕ} (in_x : m ≤ n) (b : Plan) (fx : FromX P c b.x m) (eb : b.run ≡ run_of P G (chain_in c)) (la : Lasts P b m zs) (es : (p : ℕ) → in_set (marks n fs) p ≡ member b.set p)
        (eo : (p : ℕ) → m ≤ p → member b.set p ≡ false) (em : (p : ℕ) → member b.set p ≡ true → movable (fact_at b.run p).does.class ≡ true) where
      told : Told P.recs P.ops w (copied_words P xs) n b.run
      told = subst (Told P.recs P.ops w (copied_words P xs) n) (sym eb) al.told

      in_chain : (p : ℕ) → p < m → p < n
      in_chain p i = omega arith

      defs_low : (p : ℕ) → p < n → (r : ℕ) → In r (fact_at b.run p).defs → r < P.regs
      defs_low p i r j = writes_low P.recs P.regs (fact_in w p).rec (al.safe.good p i).fits r (subst (In r) (told.stands.defs p i) j)

      wrote_is : (p : ℕ) → p < m → wrote_at W p ≡ get_or (fact_at b.run p).defs 0 absent
      wrote_is p i = wrote_word p (in_chain p i) ∙ al.written p (in_chain p i) ∙ ap (λ (r : List Fact). get_or (fact_at r p).defs 0 absent) (sym eb)

      last_is : (p : ℕ) → p < m → get_or W (10 * p + 7) 0 ≡ last_use b.run (read_there P b) p
      last_is p i = word_at p 7 (in_chain p i) (omega arith) ∙ la.is p i

      -- a member writes one register at most
      few_defs : (p : ℕ) → p < m → member b.set p ≡ true → length (fact_at b.run p).defs ≤ 1
      few_defs p i e =
          let q = in_chain p i in
          let places = chain_places P (blocks_of c) in
          let long = al.long in
          let run = run_of P G (chain_in c) in
          let it : get_or (map (inst P.recs) places) p [] ≡ inst P.recs (fact_in w p).rec = get_d_map (inst P.recs) 0 [] places p (omega arith) ∙ ap (inst P.recs) (sym (al.numbers p q)) in
          let k : length (map (inst P.recs) places) ≡ length places = length-map places (inst P.recs) in
          let f = fact_of G P.ops (map (inst P.recs) places) p (omega arith) in
          let moves : is_movable G P.ops (take p run) (inst P.recs (fact_in w p).rec) ≡ true =
          subst (λ (j : Inst). is_movable G P.ops (take p run) j ≡ true) it
          (ap (λ (y : Fact). movable y.does.class) (sym f) ∙ subst (λ (r : List Fact). movable (fact_at r p).does.class ≡ true) eb (em p e)) in
          let u = (al.safe.good p q).known.within.whole in
          let d = recs_length P (ok l) in
          subst (λ (r : List ℕ). length r ≤ 1) (sym (told.stands.defs p q)) (movable_writes_one G P.ops (take p run) (inst P.recs (fact_in w p).rec) ((ok l).each (fact_in w p).rec (omega arith)).kind_fits moves)

      pub marked_after : Marked P b m n W
      unfolding in_set
      marked_after = record {
        stands = record {
          long = told.stands.long;
          marked = record {
            marks = λ p i.
                ap (λ (x : ℕ). eqb x 0) (mark_word p (in_chain p i))
                ∙ twice_not (eqb (get_or (marks n fs) p 0) 0) ∙ ap not (es p);
            lasts = λ p i e. last_is p i;
            wrotes = λ p i e.
                ap regs_of (wrote_is p i)
                ∙ one_reg P.regs (let z = room l in omega (arith, z.lent, z.few, l.regs_are)) (fact_at b.run p).defs (few_defs p i e) (defs_low p (in_chain p i));
            outside = eo;
          };
          defs = λ p i. told.stands.defs p i ∙ ap (λ (x : ℕ). writes (inst P.recs x)) (sym (number p i));
          x_recs = λ p i.
              number p (in_chain p i) ∙ al.numbers p (in_chain p i)
              ∙ first_places P (blocks_of c) (let z = fw.least in omega (arith, blocks_long fw)) p
              (subst (λ (x : ℕ). p < size P x - 1) (sym fx.first) (let z = fx.inside in omega arith))
              ∙ ap (λ (x : ℕ). starts P x + p) fx.first;
        };
        lasts = λ p i. subst (λ (x : ℕ). x < 4096) (sym (word_at p 7 (in_chain p i) (omega arith))) (la.low p i);
        wrotes = λ p i k.
            subst (λ (x : ℕ). x < P.regs) (sym (wrote_is p i))
            (head_low P.regs (fact_at b.run p).defs (defs_low p (in_chain p i)) (λ e. k (wrote_is p i ∙ e)));
      }
