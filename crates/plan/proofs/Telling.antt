-- What `analyse` says of the structs of a chain makes the view of them stand for the chain's facts. Assumes nothing.
use Rattle.std.specs.Prelude.{Option}
use mathlib.Core.Path.{◌≡◌, refl, sym, ap, ap₂, ◌∙◌, subst}
use mathlib.Core.Logic.{⊎_elim}
use mathlib.Core.Bool.{Bool, true, false, cond}
use mathlib.Core.List.{List, [], ◌∷◌, map}
use Prim.Native.Nat.{ℕ, zero, suc, ◌/◌, ◌%◌, ◌≤◌, ◌<◌}
use native.Mathlib.Nat.{zero-add}
use native.Mathlib.Omega.{arith}
use lib.Dec.{eqb}
use lib.ListN.{get_or, length, take, drop, length-map}
use lib.Seq.{get_or-take}
use Rattle.words.proofs.Bools.{eq?}
use Rattle.words.proofs.Lists.{map_map, map_ext, get_d_map}
use Rattle.model.specs.Kinds.{Arm, row, cat}
use Rattle.model.specs.Picture.{Inst, inst, kind, reads, list_of}
use Rattle.model.specs.Analyse.{Facts, Fact, Read, Org, Unknown, Ro, Frame, fact, analyse, no_fact, last_writer, org_of, len_of, known_of, pieces, arm, is_layout, when_some, positive, unread}
use Rattle.model.specs.Legal.{fact_at}
use Rattle.laws.proofs.Analysed.{analysed, length_analyse}
use Rattle.effects.specs.Origin.{org_at, from_at}
use Rattle.facts.specs.declared.Fact as F
use Rattle.facts.specs.Marks.{fact_in}
use Rattle.analyse.specs.State.{Stands}
use Rattle.legalset.specs.Chain.{reg_org, picked, origins, writer, defs_of, view, place_at, Told}
use Rattle.legalset.proofs.Lasting.{writer_wrote, writer_is'}

-- ---- a Cat's pieces

picked_map : (f : ℕ → Org) (sc : ℕ) (rs : List ℕ) → pieces sc (map f rs) ≡ map f (picked sc rs)
unfolding picked
picked_map f sc [] = refl
picked_map f sc (a ∷ []) = refl
picked_map f sc (a ∷ b ∷ rs) = go (eqb (sc % 2) 0) (picked_map f (sc / 2) rs)
  where
    go : (c : Bool) → pieces (sc / 2) (map f rs) ≡ map f (picked (sc / 2) rs)
        → cond c (f a ∷ pieces (sc / 2) (map f rs)) (pieces (sc / 2) (map f rs)) ≡ map f (cond c (a ∷ picked (sc / 2) rs) (picked (sc / 2) rs))
    go true e = ap (λ (l : List Org). f a ∷ l) e
    go false e = e

drop_map : {A B : Type 0} (f : A → B) (n : ℕ) (xs : List A) → drop n (map f xs) ≡ map f (drop n xs)
drop_map f zero xs = refl
drop_map f (suc n) [] = refl
drop_map f (suc n) (x ∷ xs) = drop_map f n xs

cat_from : (G : Facts) (ops : List ℕ) (past : List Fact) (i : Inst) → (row (kind i)).arm ≡ cat
    → (fact G ops past i).does.from ≡ pieces (get_or i 9 0) (drop 3 (map (org_of G past) (map (λ r. record { reg = r; writer = last_writer 0 past r }) (reads ops i))))
cat_from G ops past i e =
    let us : List Read = map (λ r. record { reg = r; writer = last_writer 0 past r }) (reads ops i) in
    let orgs : List Org = map (org_of G past) us in
    let lens : List Bool = map (len_of G past) us in
    ap (λ (a : Arm). (arm i (length past) (when_some positive (known_of G (get_or us 1 unread).reg).konst) (λ k. get_or orgs k Unknown) (λ k. get_or lens k false) (is_layout past) (drop 3 orgs) a).from) e

-- ---- the whole chain

-- the chain's records, its facts, and the facts G of before round 1 in the registers' flags; where a struct has the code of a Cat, its
-- record is one of three registers and a list
pub record Heard (G : Facts) (recs ops : List ℕ) (w : List F.Fact) (regs places : List ℕ) (run : List Fact) : Type 0 where
  pub is_run : run ≡ analyse G ops [] (map (inst recs) places)
  pub numbers : (k : ℕ) → k < length places → (fact_in w k).rec ≡ get_or places k 0
  pub stands : (p : ℕ) → p < length places → Stands (fact_in w p) (fact_at run p)
  pub cat : (p : ℕ) → p < length places → (fact_in w p).from ≡ 4294967295 → ((row (kind (inst recs (fact_in w p).rec))).arm ≡ cat) × (drop 3 (reads ops (inst recs (fact_in w p).rec)) ≡ list_of ops (inst recs (fact_in w p).rec))
  pub ro : (r : ℕ) → eqb (get_or regs r 0 % 2) 1 ≡ (known_of G r).ro
  pub frame : (r : ℕ) → eqb (get_or regs r 0 / 2 % 2) 1 ≡ (known_of G r).frame

module _ {G : Facts} {recs ops : List ℕ} {w : List F.Fact} {regs places : List ℕ} {run : List Fact} (s : Heard G recs ops w regs places run) where
  abbrev n : ℕ
  n = length places

  long : length run ≡ n
  long = ap length s.is_run ∙ length_analyse G ops [] (map (inst recs) places) ∙ zero-add (length (map (inst recs) places)) ∙ length-map places (inst recs)

  fact_is : (q : ℕ) → q < n → fact_at run q ≡ fact G ops (take q run) (inst recs (fact_in w q).rec)
  fact_is q h =
      ap (λ (l : List Fact). get_or l q no_fact) s.is_run
      ∙ ap (λ (k : ℕ). get_or (analyse G ops [] (map (inst recs) places)) k no_fact) (sym (zero-add q))
      ∙ analysed G ops [] (map (inst recs) places) q (subst (λ (k : ℕ). q < k) (sym (length-map places (inst recs))) h)
      ∙ ap₂ (λ (k : ℕ) (i : Inst). fact G ops (take k (analyse G ops [] (map (inst recs) places))) i) (zero-add q)
      (get_d_map (inst recs) 0 [] places q h ∙ ap (inst recs) (sym (s.numbers q h)))
      ∙ ap (λ (l : List Fact). fact G ops (take q l) (inst recs (fact_in w q).rec)) (sym s.is_run)

  defs_are : (q : ℕ) → q < n → (fact_at run q).defs ≡ defs_of recs w q
  defs_are q h = ap (λ (f : Fact). f.defs) (fact_is q h)

  writers_are : (r q : ℕ) → q ≤ n → last_writer 0 (take q run) r ≡ place_at (writer (defs_of recs w) r q)
  writers_are = writer_is' (defs_of recs w) n run long defs_are

  points : (q : ℕ) → q < n → (r : ℕ) → org_of G (take q run) (record { reg = r; writer = last_writer 0 (take q run) r }) ≡ org_at (reg_org w regs r (writer (defs_of recs w) r q))
  unfolding reg_org org_at place_at
  points q h r = ap (λ (o : Option ℕ). org_of G (take q run) (record { reg = r; writer = o })) (writers_are r q (omega arith)) ∙ go (writer (defs_of recs w) r q) refl
    where
      known : (a b : Bool) → cond a Ro (cond b Frame Unknown) ≡ org_at (cond a 1 (cond b 3 0))
      known true b = refl
      known false true = refl
      known false false = refl

      go : (d : ℕ) → writer (defs_of recs w) r q ≡ d → org_of G (take q run) (record { reg = r; writer = place_at d }) ≡ org_at (reg_org w regs r d)
      go zero e = known (known_of G r).ro (known_of G r).frame ∙ ap₂ (λ (a b : Bool). org_at (cond a 1 (cond b 3 0))) (sym (s.ro r)) (sym (s.frame r))
      go (suc d) e =
          let z = (writer_wrote (defs_of recs w) r q d e).before in
          ap (λ (f : Fact). f.does.org) (get_or-take q run d no_fact z) ∙ sym (s.stands d (omega arith)).org

  from_is : (q : ℕ) → q < n → (fact_at run q).does.from ≡ map org_at ((view recs ops w regs).from q)
  unfolding origins from_at
  from_is q h = ⊎_elim coded plain (eq? (fact_in w q).from 4294967295)
    where
      i : Inst
      i = inst recs (fact_in w q).rec

      d : ℕ → ℕ
      d r = writer (defs_of recs w) r q

      plain : ((fact_in w q).from ≡ 4294967295 → ⊥) → (fact_at run q).does.from ≡ map org_at (origins w regs ops i d (fact_in w q).from)
      plain k = sym (s.stands q h).from ∙ go (fact_in w q).from k
        where
          go : (x : ℕ) → (x ≡ 4294967295 → ⊥) → from_at x (fact_at run q).does.from ≡ map org_at (origins w regs ops i d x)
          go zero k = refl
          go (suc o) k =
              let e = borrow.Author.Tests.ne_eqb (suc o) 4294967295 k in
              ap (λ (b : Bool). cond b (fact_at run q).does.from (org_at o ∷ [])) e
              ∙ sym (ap (λ (b : Bool). map org_at (cond b (map (λ r. reg_org w regs r (d r)) (picked (get_or i 9 0) (list_of ops i))) (o ∷ []))) e)

      coded : (fact_in w q).from ≡ 4294967295 → (fact_at run q).does.from ≡ map org_at (origins w regs ops i d (fact_in w q).from)
      coded k =
          let t = s.cat q h k in
          ap (λ (f : Fact). f.does.from) (fact_is q h) ∙ cat_from G ops (take q run) i t.0
          ∙ ap (λ (l : List Org). pieces (get_or i 9 0) (drop 3 l)) (map_map (org_of G (take q run)) (λ r. record { reg = r; writer = last_writer 0 (take q run) r }) (reads ops i))
          ∙ ap (pieces (get_or i 9 0)) (drop_map (λ r. org_of G (take q run) (record { reg = r; writer = last_writer 0 (take q run) r })) 3 (reads ops i))
          ∙ ap (λ (l : List ℕ). pieces (get_or i 9 0) (map (λ r. org_of G (take q run) (record { reg = r; writer = last_writer 0 (take q run) r })) l)) t.1
          ∙ picked_map (λ r. org_of G (take q run) (record { reg = r; writer = last_writer 0 (take q run) r })) (get_or i 9 0) (list_of ops i)
          ∙ map_ext (λ r. org_of G (take q run) (record { reg = r; writer = last_writer 0 (take q run) r })) (λ r. org_at (reg_org w regs r (d r))) (points q h) (picked (get_or i 9 0) (list_of ops i))
          ∙ sym (map_map org_at (λ r. reg_org w regs r (d r)) (picked (get_or i 9 0) (list_of ops i)))
          ∙ ap (λ (x : ℕ). map org_at (origins w regs ops i d x)) (sym k)

  pub told : Told recs ops w regs (length places) run
  told = record {
    stands = record {
      long = long;
      defs = defs_are;
      uses = λ q h. ap (λ (f : Fact). f.uses) (fact_is q h);
      from = from_is;
      wrote = λ q h. sym (s.stands q h).wrote;
      creates = λ q h. sym (s.stands q h).creates;
      barrier = λ q h. sym (s.stands q h).barrier;
      suspends = λ q h. sym (s.stands q h).suspends;
    };
    class = λ p h. sym (s.stands p h).class;
  }
