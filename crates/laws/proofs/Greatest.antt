-- The greatest legal set is legal, and every legal set of movable positions lies within it. Assumes nothing.
use Rattle.std.specs.Prelude.{Option, None, Some}
use mathlib.Core.Path.{◌≡◌, refl, sym, ap, ◌∙◌, subst}
use mathlib.Core.Bool.{Bool, true, false, ◌&&◌, ◌||◌}
use mathlib.Core.List.{List, [], ◌∷◌}
use Prim.Native.Nat.{ℕ, zero, suc, ◌≤◌, ◌<◌}
use native.Mathlib.Nat.{zero-add, le_trans, le_of_eq, lt_of_not-le, le_of_suc-le-suc}
use native.Mathlib.Decide.{dec_lt}
use lib.Dec.{T}
use lib.ListN.{length}
use Rattle.words.specs.Lists.{upto, all, conj, iterate, member, count}
use Rattle.words.proofs.Bools.{both, left, right, T_true, true_T, and_mono, implies_mono, or_mono, or_first, or_second}
use Rattle.words.proofs.Lists.{get_or-made, get_d_past, length_made}
use Rattle.words.proofs.Alls.{all_mono}
use Rattle.words.proofs.Sets.{◌⊑◌, rests, count_le, count_within}
use Rattle.model.specs.Analyse.{Org, Unknown, Ro, Heap, Frame, Temp, Img, Fact, movable, when_some, unless_some}
use Rattle.model.specs.Legal.{LegalSet, legal, rule1, rule3, rule4, rule5_barrier, rule5_write, rule6, tests, kept, after, reads_from, readable, dropped, candidates, greatest, fact_at}
use Rattle.laws.proofs.Rules.{legal→Legal, Legal→legal}

-- ---- the rules only get easier as the set grows

some_mono : {A : Type 0} (f g : A → Bool) → ((a : A) → T (f a) → T (g a)) → (o : Option A) → T (when_some f o) → T (when_some g o)
some_mono f g h None t = t
some_mono f g h (Some a) t = h a t

rule6_mono : (run : List Fact) (w : ℕ → Bool) (L M : ℕ → Bool) → L ⊑ M → (o : Org) → T (rule6 run w L o) → T (rule6 run w M o)
rule6_mono run w L M i Unknown t = t
rule6_mono run w L M i Ro t = t
rule6_mono run w L M i Heap t = t
rule6_mono run w L M i Frame t = t
rule6_mono run w L M i (Temp k) t = i k t
rule6_mono run w L M i (Img k) t = t

-- test by test
abbrev Each : List Bool → List Bool → Type 0
Each [] [] = Unit {0}
Each [] (c ∷ cs) = ⊥
Each (b ∷ bs) [] = ⊥
Each (b ∷ bs) (c ∷ cs) = (T b → T c) × Each bs cs

conj_mono : (bs cs : List Bool) → Each bs cs → T (conj bs) → T (conj cs)
conj_mono [] [] e t = tt
conj_mono [] (c ∷ cs) e t = absurd e
conj_mono (b ∷ bs) [] e t = absurd e
conj_mono (b ∷ bs) (c ∷ cs) e t = both c (conj cs) (e.0 (left b (conj bs) t)) (conj_mono bs cs e.1 (right b (conj bs) t))

unless_mono : {A : Type 0} (f g : A → Bool) → ((a : A) → T (f a) → T (g a)) → (o : Option A) → T (unless_some f o) → T (unless_some g o)
unless_mono f g h None t = tt
unless_mono f g h (Some a) t = h a t

pub legal_mono : (run : List Fact) (w : ℕ → Bool) (L M : ℕ → Bool) → L ⊑ M → (p : ℕ) → T (legal run w L p) → T (legal run w M p)
legal_mono run w L M i p =
    conj_mono (tests run w L p) (tests run w M p) (
      all_mono (rule1 run w L p) (rule1 run w M p) (λ q. implies_mono (reads_from run q p) (L q) (M q) (i q)) (upto (length run)),
      (
        λ t. t,
        (
          kept_mono (rule3 run w L p) (rule3 run w M p) (λ q. all_mono _ _ (λ u. or_mono (when_some L u.writer) _ (when_some M u.writer) _ (some_mono L M i u.writer) (λ t. t)) (fact_at run p).uses),
          (
            kept_mono (rule4 run w L) (rule4 run w M) (λ q t. t),
            (
              and_mono (kept run w L p (rule5_barrier run w L p) && kept run w L p (rule5_write run w L p)) (all readable (fact_at run p).does.from)
                  (kept run w M p (rule5_barrier run w M p) && kept run w M p (rule5_write run w M p)) (all readable (fact_at run p).does.from)
                  (and_mono (kept run w L p (rule5_barrier run w L p)) (kept run w L p (rule5_write run w L p)) (kept run w M p (rule5_barrier run w M p)) (kept run w M p (rule5_write run w M p))
                  (kept_mono (rule5_barrier run w L p) (rule5_barrier run w M p) (λ q t. t)) (kept_mono (rule5_write run w L p) (rule5_write run w M p) (λ q t. t)))
                  (λ t. t),
              (unless_mono (rule6 run w L) (rule6 run w M) (rule6_mono run w L M i) (fact_at run p).does.wrote, tt),
            ),
          ),
        ),
      ),
    )
  where
    kept_mono : (f g : ℕ → Bool) → ((q : ℕ) → T (f q) → T (g q)) → T (kept run w L p f) → T (kept run w M p g)
    kept_mono f g h = all_mono (λ q. L q || f q) (λ q. M q || g q) (λ q. or_mono (L q) (f q) (M q) (g q) (i q) (h q)) (after run p)

-- ---- dropping, for any rule

module _ (ok : (ℕ → Bool) → ℕ → Bool) (m : ℕ) where
  within : (S : List Bool) (p : ℕ) → T (member (dropped ok m S) p) → (p < m) × T (member S p) × T (ok (member S) p)
  within S p t = go (dec_lt p m)
    where
      go : Dec (p < m) → (p < m) × T (member S p) × T (ok (member S) p)
      go (yes h) =
          let t' = subst T (get_or-made (λ q. member S q && ok (member S) q) false 0 m p h ∙ ap (λ (q : ℕ). member S q && ok (member S) q) (zero-add p)) t in
          (h, left (member S p) (ok (member S) p) t', right (member S p) (ok (member S) p) t')
      go (no h) = absurd (subst T (get_d_past (λ q. member S q && ok (member S) q) false 0 m p (le_of_suc-le-suc (lt_of_not-le h))) t)

  into : (S : List Bool) (p : ℕ) → p < m → T (member S p) → T (ok (member S) p) → T (member (dropped ok m S) p)
  into S p h s o =
      subst T (sym (get_or-made (λ q. member S q && ok (member S) q) false 0 m p h ∙ ap (λ (q : ℕ). member S q && ok (member S) q) (zero-add p)))
      (both (member S p) (ok (member S) p) s o)

  -- what is left when nothing more drops breaks no rule
  pub left_legal : (S : List Bool) → length S ≡ m → (p : ℕ) → T (member (iterate (dropped ok m) m S) p) → T (ok (member (iterate (dropped ok m) m S)) p)
  left_legal S e p t =
      (within (iterate (dropped ok m) m S) p
      (subst (λ (X : List Bool). T (member X p)) (sym (rests (dropped ok m) m (λ X. length_made _ 0 m) (λ X q s. (within X q s).1) m S e (le_trans (count_le S) (le_of_eq e)))) t)).2

  -- what is dropped is in no set that breaks none
  module _ (mono : (L M : ℕ → Bool) → L ⊑ M → (p : ℕ) → T (ok L p) → T (ok M p)) (L : ℕ → Bool) (low : (p : ℕ) → T (L p) → p < m) (lawful : (p : ℕ) → T (L p) → T (ok L p)) where
    pub never_dropped : (k : ℕ) (S : List Bool) → L ⊑ member S → L ⊑ member (iterate (dropped ok m) k S)
    never_dropped zero S i = i
    never_dropped (suc k) S i = never_dropped k (dropped ok m S) (λ p t. into S p (low p t) (i p t) (mono L (member S) i p (lawful p t)))

-- ---- the greatest legal set

module _ (run : List Fact) (needed : ℕ → Bool) (m : ℕ) where
  pub greatest_legal : (p : ℕ) → T (member (greatest run needed m) p) → T (legal run needed (member (greatest run needed m)) p)
  greatest_legal = left_legal (legal run needed) m (candidates m run) (length_made _ 0 m)

  pub greatest_most : (L : ℕ → Bool) → ((p : ℕ) → T (L p) → p < m) → ((p : ℕ) → T (L p) → T (movable (fact_at run p).does.class))
      → ((p : ℕ) → T (L p) → T (legal run needed L p)) → L ⊑ member (greatest run needed m)
  greatest_most L low mv lawful =
      never_dropped (legal run needed) m (legal_mono run needed) L low lawful m (candidates m run)
      (λ p t. subst T (sym (get_or-made (λ q. movable (fact_at run q).does.class) false 0 m p (low p t) ∙ ap (λ (q : ℕ). movable (fact_at run q).does.class) (zero-add p))) (mv p t))

  -- all of them are movable, and below m
  stays_in : (ok : (ℕ → Bool) → ℕ → Bool) (k : ℕ) (S : List Bool) → member (iterate (dropped ok m) k S) ⊑ member S
  stays_in ok zero S p t = t
  stays_in ok (suc k) S p t = (within ok m S p (stays_in ok k (dropped ok m S) p t)).1

  pub greatest_movable : (p : ℕ) → T (member (greatest run needed m) p) → (p < m) × T (movable (fact_at run p).does.class)
  greatest_movable p t = go (dec_lt p m)
    where
      b : T (member (candidates m run) p)
      b = stays_in (legal run needed) m (candidates m run) p t

      go : Dec (p < m) → (p < m) × T (movable (fact_at run p).does.class)
      go (yes h) = (h, subst T (get_or-made (λ q. movable (fact_at run q).does.class) false 0 m p h ∙ ap (λ (q : ℕ). movable (fact_at run q).does.class) (zero-add p)) b)
      go (no h) = absurd (subst T (get_d_past (λ q. movable (fact_at run q).does.class) false 0 m p (le_of_suc-le-suc (lt_of_not-le h))) b)

  -- ---- the same of legal sets

  -- it is a legal set,
  pub greatest_is_legal : LegalSet run needed (member (greatest run needed m)) m
  greatest_is_legal = record {
    in_x = λ p e. (greatest_movable p (true_T (member (greatest run needed m) p) e)).0;
    can_move = λ p e. T_true (movable (fact_at run p).does.class) (greatest_movable p (true_T (member (greatest run needed m) p) e)).1;
    lawful = λ p e. legal→Legal run needed (member (greatest run needed m)) p (greatest_legal p (true_T (member (greatest run needed m) p) e));
  }

  -- and every legal set lies within it,
  pub greatest_contains : (L : ℕ → Bool) → LegalSet run needed L m → L ⊑ member (greatest run needed m)
  greatest_contains L l =
      greatest_most L (λ p t. l.in_x p (T_true (L p) t)) (λ p t. true_T (movable (fact_at run p).does.class) (l.can_move p (T_true (L p) t)))
      (λ p t. Legal→legal run needed L p (l.lawful p (T_true (L p) t)))

  -- so that none has more members
  pub greatest_count : (S : List Bool) → LegalSet run needed (member S) m → count S ≤ count (greatest run needed m)
  greatest_count S l = count_within S (greatest run needed m) (greatest_contains (member S) l)

-- "Unions of legal sets are legal"
pub union_legal : (run : List Fact) (needed L M : ℕ → Bool) (m : ℕ) → LegalSet run needed L m → LegalSet run needed M m → LegalSet run needed (λ p. L p || M p) m
union_legal run needed L M m l k =
    record {
      in_x = λ p e. either p e (l.in_x p) (k.in_x p);
      can_move = λ p e. either p e (l.can_move p) (k.can_move p);
      lawful = λ p e. legal→Legal run needed (λ q. L q || M q) p
          (either p e (λ h. legal_mono run needed L (λ q. L q || M q) (λ q t. or_first (L q) (M q) t) p (Legal→legal run needed L p (l.lawful p h)))
          (λ h. legal_mono run needed M (λ q. L q || M q) (λ q t. or_second (L q) (M q) t) p (Legal→legal run needed M p (k.lawful p h))));
    }
  where
    either : {A : Type 0} (p : ℕ) → (L p || M p) ≡ true → (L p ≡ true → A) → (M p ≡ true → A) → A
    either {A} p e f g = go (L p) refl e
      where
        go : (b : Bool) → L p ≡ b → (b || M p) ≡ true → A
        go true q e = f q
        go false q e = g e
