-- The pool of new registers: each is at or above R, and one is reused only once the last reader of its value is before the member
-- that gets it. Assumes nothing.
use Rattle.std.proofs.lemmas.Option.{none-some, same_Some}
use Rattle.std.specs.Prelude.{Option, None, Some}
use mathlib.Core.Path.{◌≡◌, refl, sym, subst}
use mathlib.Core.Logic.{◌⊎◌, inl, inr, ⊎_elim}
use mathlib.Core.Bool.{Bool, true, false, not, cond}
use mathlib.Core.List.{List, [], ◌∷◌, ◌++◌}
use Prim.Native.Nat.{ℕ, zero, suc, ◌+◌, ◌≤◌, ◌<◌}
use native.Mathlib.Nat.{lt_of_lt_of_le, le_trans, lt_irrefl, le_of_lt, le_refl, le-suc}
use native.Mathlib.Omega.{arith}
use lib.Dec.{T, ltb, eqb, ltb→lt}
use lib.ListN.{length, get_or, length-append}
use Rattle.words.specs.Lists.{In, range, filter}
use Rattle.model.specs.Move.{Held, Pool, freed, found, without, grown, given_reg, given_types, give, gives, release, last_use, pooled}
use Rattle.model.specs.Analyse.{Fact}
use Rattle.model.specs.Legal.{fact_at}

-- ---- being in a list

abbrev Apart : List ℕ → Type 0
Apart [] = Unit {0}
Apart (x ∷ xs) = ¬ In x xs × Apart xs

-- p was given r
abbrev pub Got : ℕ → ℕ → List (ℕ × ℕ) → Type 0
Got p r [] = ⊥
Got p r (g ∷ gs) = ((p ≡ g.0) × (r ≡ g.1)) ⊎ Got p r gs

-- r is held until u
abbrev Holds : ℕ → ℕ → List Held → Type 0
Holds u r [] = ⊥
Holds u r (h ∷ hs) = ((u ≡ h.until) × (r ≡ h.reg)) ⊎ Holds u r hs

abbrev hregs : List Held → List ℕ
hregs [] = []
hregs (h ∷ hs) = h.reg ∷ hregs hs

abbrev fregs : List (ℕ × ℕ) → List ℕ
fregs [] = []
fregs (f ∷ fs) = f.1 ∷ fregs fs

holds_in : (u r : ℕ) (hs : List Held) → Holds u r hs → In r (hregs hs)
holds_in u r [] i = i
holds_in u r (h ∷ hs) (inl e) = inl e.1
holds_in u r (h ∷ hs) (inr i) = inr (holds_in u r hs i)

-- ---- freeing

freed_in : (p r : ℕ) (hs : List Held) (fs : List (ℕ × ℕ)) → In r (fregs (freed p hs fs)) → In r (fregs fs) ⊎ In r (hregs hs)
freed_in p r [] fs i = inl i
freed_in p r (h ∷ hs) fs i = go (ltb h.until p) (freed_in p r hs (cond (ltb h.until p) ((h.type, h.reg) ∷ fs) fs) i)
  where
    go : (b : Bool) → In r (fregs (cond b ((h.type, h.reg) ∷ fs) fs)) ⊎ In r (hregs hs) → In r (fregs fs) ⊎ In r (hregs (h ∷ hs))
    go true (inl (inl e)) = inr (inl e)
    go true (inl (inr j)) = inl j
    go false (inl j) = inl j
    go b (inr j) = inr (inr j)

freed_apart : (p : ℕ) (hs : List Held) (fs : List (ℕ × ℕ)) → Apart (hregs hs) → Apart (fregs fs) → ((r : ℕ) → In r (hregs hs) → ¬ In r (fregs fs)) → Apart (fregs (freed p hs fs))
freed_apart p [] fs a b c = b
freed_apart p (h ∷ hs) fs a b c =
    freed_apart p hs (cond (ltb h.until p) ((h.type, h.reg) ∷ fs) fs) a.1 (one (ltb h.until p)) (λ r i. two r i (ltb h.until p))
  where
    one : (t : Bool) → Apart (fregs (cond t ((h.type, h.reg) ∷ fs) fs))
    one true = (c h.reg (inl refl), b)
    one false = b

    two : (r : ℕ) → In r (hregs hs) → (t : Bool) → ¬ In r (fregs (cond t ((h.type, h.reg) ∷ fs) fs))
    two r i true (inl e) = a.0 (subst (λ (x : ℕ). In x (hregs hs)) e i)
    two r i true (inr j) = c r (inr i) j
    two r i false j = c r (inr i) j

-- what stays held
abbrev stay : ℕ → List Held → List Held
stay p hs = filter (λ h. not (ltb h.until p)) hs

stay_in : (p r : ℕ) (hs : List Held) → In r (hregs (stay p hs)) → In r (hregs hs)
stay_in p r [] i = i
stay_in p r (h ∷ hs) i = go (not (ltb h.until p)) (stay_in p r hs) i
  where
    go : (b : Bool) → (In r (hregs (stay p hs)) → In r (hregs hs)) → In r (hregs (cond b (h ∷ stay p hs) (stay p hs))) → In r (hregs (h ∷ hs))
    go true k (inl e) = inl e
    go true k (inr j) = inr (k j)
    go false k j = inr (k j)

stay_apart : (p : ℕ) (hs : List Held) → Apart (hregs hs) → Apart (hregs (stay p hs))
stay_apart p [] a = tt
stay_apart p (h ∷ hs) a = go (not (ltb h.until p)) (stay_apart p hs a.1)
  where
    go : (b : Bool) → Apart (hregs (stay p hs)) → Apart (hregs (cond b (h ∷ stay p hs) (stay p hs)))
    go true k = (λ i. a.0 (stay_in p h.reg hs i), k)
    go false k = k

-- a register that is held stays so, or its last reader is before p
stay_or_past : (p u r : ℕ) (hs : List Held) → Holds u r hs → (u < p) ⊎ Holds u r (stay p hs)
stay_or_past p u r [] i = absurd i
stay_or_past p u r (h ∷ hs) (inl e) = go (ltb h.until p) (λ t. t)
  where
    go : (b : Bool) → (T b → T (ltb h.until p)) → (u < p) ⊎ Holds u r (cond (not b) (h ∷ stay p hs) (stay p hs))
    go true k = inl (subst (λ (x : ℕ). x < p) (sym e.0) (ltb→lt h.until p (k tt)))
    go false k = inr (inl e)
stay_or_past p u r (h ∷ hs) (inr i) = go (not (ltb h.until p)) (stay_or_past p u r hs i)
  where
    go : (b : Bool) → (u < p) ⊎ Holds u r (stay p hs) → (u < p) ⊎ Holds u r (cond b (h ∷ stay p hs) (stay p hs))
    go b (inl l) = inl l
    go true (inr j) = inr (inr j)
    go false (inr j) = inr j

-- nothing is both free and held after a release
release_apart : (p : ℕ) (hs : List Held) (fs : List (ℕ × ℕ)) → Apart (hregs hs) → ((r : ℕ) → In r (hregs hs) → ¬ In r (fregs fs))
    → (r : ℕ) → In r (hregs (stay p hs)) → ¬ In r (fregs (freed p hs fs))
release_apart p [] fs a c r i j = i
release_apart p (h ∷ hs) fs a c r i j = go (ltb h.until p) (λ fs'. release_apart p hs fs' a.1) i j
  where
    go : (b : Bool) → ((fs' : List (ℕ × ℕ)) → ((r : ℕ) → In r (hregs hs) → ¬ In r (fregs fs')) → (r : ℕ) → In r (hregs (stay p hs)) → ¬ In r (fregs (freed p hs fs')))
        → In r (hregs (cond (not b) (h ∷ stay p hs) (stay p hs))) → In r (fregs (freed p hs (cond b ((h.type, h.reg) ∷ fs) fs))) → ⊥
    go true k i j = k ((h.type, h.reg) ∷ fs) two r i j
      where
        two : (r : ℕ) → In r (hregs hs) → ¬ In r (fregs ((h.type, h.reg) ∷ fs))
        two r i (inl e) = a.0 (subst (λ (x : ℕ). In x (hregs hs)) e i)
        two r i (inr j) = c r (inr i) j
    go false k (inl e) j =
        ⊎_elim (λ m. c h.reg (inl refl) (subst (λ (x : ℕ). In x (fregs fs)) e m)) (λ m. a.0 (subst (λ (x : ℕ). In x (hregs hs)) e m)) (freed_in p r hs fs j)
    go false k (inr i) j = k fs (λ r m. c r (inr m)) r i j

-- ---- giving

found_in : (ty r : ℕ) (fs : List (ℕ × ℕ)) → found ty fs ≡ Some r → In r (fregs fs)
found_in ty r [] e = absurd (none-some r e)
found_in ty r (f ∷ fs) e = go (eqb f.0 ty) (found_in ty r fs) e
  where
    go : (b : Bool) → (found ty fs ≡ Some r → In r (fregs fs)) → cond b (Some f.1) (found ty fs) ≡ Some r → In r (fregs (f ∷ fs))
    go true k e = inl (sym (same_Some f.1 r e))
    go false k e = inr (k e)

without_in : (ty r : ℕ) (fs : List (ℕ × ℕ)) → In r (fregs (without ty fs)) → In r (fregs fs)
without_in ty r [] i = i
without_in ty r (f ∷ fs) i = go (eqb f.0 ty) (without_in ty r fs) i
  where
    go : (b : Bool) → (In r (fregs (without ty fs)) → In r (fregs fs)) → In r (fregs (cond b fs (f ∷ without ty fs))) → In r (fregs (f ∷ fs))
    go true k i = inr i
    go false k (inl e) = inl e
    go false k (inr i) = inr (k i)

without_apart : (ty : ℕ) (fs : List (ℕ × ℕ)) → Apart (fregs fs) → Apart (fregs (without ty fs))
without_apart ty [] a = tt
without_apart ty (f ∷ fs) a = go (eqb f.0 ty) (without_apart ty fs a.1)
  where
    go : (b : Bool) → Apart (fregs (without ty fs)) → Apart (fregs (cond b fs (f ∷ without ty fs)))
    go true k = a.1
    go false k = (λ i. a.0 (without_in ty f.1 fs i), k)

-- the one found is gone
without_found : (ty r : ℕ) (fs : List (ℕ × ℕ)) → Apart (fregs fs) → found ty fs ≡ Some r → ¬ In r (fregs (without ty fs))
without_found ty r [] a e i = i
without_found ty r (f ∷ fs) a e i = go (eqb f.0 ty) (without_found ty r fs a.1) e i
  where
    go : (b : Bool) → (found ty fs ≡ Some r → ¬ In r (fregs (without ty fs))) → cond b (Some f.1) (found ty fs) ≡ Some r → ¬ In r (fregs (cond b fs (f ∷ without ty fs)))
    go true k e i = a.0 (subst (λ (x : ℕ). In x (fregs fs)) (sym (same_Some f.1 r e)) i)
    go false k e (inl q) = a.0 (subst (λ (x : ℕ). In x (fregs fs)) q (found_in ty r fs e))
    go false k e (inr i) = k e i

snoc_in : (r : ℕ) (hs : List Held) (h : Held) → In r (hregs (hs ++ h ∷ [])) → In r (hregs hs) ⊎ (r ≡ h.reg)
snoc_in r [] h (inl e) = inr e
snoc_in r [] h (inr i) = absurd i
snoc_in r (x ∷ hs) h (inl e) = inl (inl e)
snoc_in r (x ∷ hs) h (inr i) = ⊎_elim (λ j. inl (inr j)) inr (snoc_in r hs h i)

snoc_apart : (hs : List Held) (h : Held) → Apart (hregs hs) → ¬ In h.reg (hregs hs) → Apart (hregs (hs ++ h ∷ []))
snoc_apart [] h a n = (λ i. i, tt)
snoc_apart (x ∷ hs) h a n = (λ i. ⊎_elim a.0 (λ e. n (inl (sym e))) (snoc_in x.reg hs h i), snoc_apart hs h a.1 (λ i. n (inr i)))

snoc_old : (u r : ℕ) (hs : List Held) (h : Held) → Holds u r hs → Holds u r (hs ++ h ∷ [])
snoc_old u r [] h i = absurd i
snoc_old u r (x ∷ hs) h (inl e) = inl e
snoc_old u r (x ∷ hs) h (inr i) = inr (snoc_old u r hs h i)

snoc_new : (hs : List Held) (h : Held) → Holds h.until h.reg (hs ++ h ∷ [])
snoc_new [] h = inl (refl, refl)
snoc_new (x ∷ hs) h = inr (snoc_new hs h)

-- ---- the pool, while member p is served: lu gives each member's last reader

record Fine (lu : ℕ → ℕ) (R p : ℕ) (s : Pool) : Type 0 where
  held_apart : Apart (hregs s.held)
  free_apart : Apart (fregs s.free)
  both_apart : (r : ℕ) → In r (hregs s.held) → ¬ In r (fregs s.free)
  held_known : (r : ℕ) → In r (hregs s.held) → r < length s.types
  free_known : (r : ℕ) → In r (fregs s.free) → r < length s.types
  new : (d r : ℕ) → Got d r s.given → (R ≤ r) × (r < length s.types)
  served : (d r : ℕ) → Got d r s.given → d ≤ p
  held_or_past : (d r : ℕ) → Got d r s.given → (lu d < p) ⊎ Holds (lu d) r s.held
  free_new : (r : ℕ) → In r (fregs s.free) → R ≤ r
  held_new : (r : ℕ) → In r (hregs s.held) → R ≤ r
  room : R ≤ length s.types
  -- a register that q gets after d has no reader of d's value from q on
  reused : (d q r : ℕ) → Got d r s.given → Got q r s.given → d < q → lu d < q

module _ (lu : ℕ → ℕ) (R : ℕ) where
  released : (p p' : ℕ) (s : Pool) → p ≤ p' → Fine lu R p s → Fine lu R p' (release p' s)
  released p p' s l F =
      record {
        held_apart = stay_apart p' s.held F.held_apart;
        free_apart = freed_apart p' s.held s.free F.held_apart F.free_apart F.both_apart;
        both_apart = release_apart p' s.held s.free F.held_apart F.both_apart;
        held_known = λ r i. F.held_known r (stay_in p' r s.held i);
        free_known = λ r i. ⊎_elim (F.free_known r) (F.held_known r) (freed_in p' r s.held s.free i);
        new = F.new;
        served = λ d r g. le_trans (F.served d r g) l;
        held_or_past = λ d r g. ⊎_elim (λ u. inl (lt_of_lt_of_le u l)) (λ i. stay_or_past p' (lu d) r s.held i) (F.held_or_past d r g);
        free_new = λ r i. ⊎_elim (F.free_new r) (F.held_new r) (freed_in p' r s.held s.free i);
        held_new = λ r i. F.held_new r (stay_in p' r s.held i);
        room = F.room;
        reused = F.reused;
      }

  grown_longer : (ts : List ℕ) (ty : ℕ) → length ts < length (grown ts ty)
  grown_longer ts ty = subst (λ (n : ℕ). length ts < n) (sym (length-append ts (cond (eqb ty 4) (4 ∷ 0 ∷ []) (ty ∷ [])))) (go (eqb ty 4))
    where
      go : (b : Bool) → length ts < length ts + length (cond b (4 ∷ 0 ∷ []) (ty ∷ []))
      go true = omega arith
      go false = omega arith

  reused_more : (p r₀ : ℕ) (s : Pool) → Fine lu R p s → ((d : ℕ) → Got d r₀ s.given → lu d < p)
      → (d q r : ℕ) → Got d r ((p, r₀) ∷ s.given) → Got q r ((p, r₀) ∷ s.given) → d < q → lu d < q
  reused_more p r₀ s F k d q r (inl e) (inl f) l = absurd (lt_irrefl p (subst (λ (x : ℕ). x < p) e.0 (subst (λ (x : ℕ). d < x) f.0 l)))
  reused_more p r₀ s F k d q r (inl e) (inr g) l = absurd (lt_irrefl p (lt_of_lt_of_le (subst (λ (x : ℕ). x < q) e.0 l) (F.served q r g)))
  reused_more p r₀ s F k d q r (inr g) (inl f) l = subst (λ (x : ℕ). lu d < x) (sym f.0) (k d (subst (λ (x : ℕ). Got d x s.given) f.1 g))
  reused_more p r₀ s F k d q r (inr g) (inr g') l = F.reused d q r g g' l

  -- what is known of the register that p gets for an old one of type ty
  record Serves (p ty : ℕ) (s : Pool) (o : Option ℕ) : Type 0 where
    not_held : ¬ In (given_reg s.types o) (hregs s.held)
    not_free : ¬ In (given_reg s.types o) (fregs (without ty s.free))
    above : R ≤ given_reg s.types o
    below : given_reg s.types o < length (given_types s.types ty o)
    longer : length s.types ≤ length (given_types s.types ty o)
    unread : (d : ℕ) → Got d (given_reg s.types o) s.given → lu d < p

  serves : (p ty : ℕ) (s : Pool) (o : Option ℕ) → found ty s.free ≡ o → Fine lu R p s → Serves p ty s o
  serves p ty s None e F =
      let n = length s.types in
      record {
        not_held = λ i. lt_irrefl n (F.held_known n i);
        not_free = λ i. lt_irrefl n (F.free_known n (without_in ty n s.free i));
        above = F.room;
        below = grown_longer s.types ty;
        longer = le_of_lt (grown_longer s.types ty);
        unread = λ d g. absurd (lt_irrefl n (F.new d n g).1);
      }
  serves p ty s (Some r) e F =
      let was_free = found_in ty r s.free e in
      let not_held : ¬ In r (hregs s.held) = λ i. F.both_apart r i was_free in
      record {
        not_held = not_held;
        not_free = without_found ty r s.free F.free_apart e;
        above = F.free_new r was_free;
        below = F.free_known r was_free;
        longer = le_refl (length s.types);
        unread = λ d g. ⊎_elim (λ l. l) (λ i. absurd (not_held (holds_in (lu d) r s.held i))) (F.held_or_past d r g);
      }

  given_one : (p : ℕ) (s : Pool) (d : ℕ) → Fine lu R p s → Fine lu R p (give p (lu p) s d)
  given_one p s old F =
      let ty = get_or s.types old 0 in
      let o = found ty s.free in
      let n = given_reg s.types o in
      let ts = given_types s.types ty o in
      let S : Serves p ty s o = serves p ty s o refl F in
      let h : Held = record { until = lu p; reg = n; type = ty } in
      let up : (r : ℕ) → r < length s.types → r < length ts = λ r l. le_trans l S.longer in
      let is_new : (r : ℕ) → r ≡ n → (R ≤ r) × (r < length ts) = λ r e. subst (λ (x : ℕ). (R ≤ x) × (x < length ts)) (sym e) (S.above, S.below) in
      record {
        held_apart = snoc_apart s.held h F.held_apart S.not_held;
        free_apart = without_apart ty s.free F.free_apart;
        both_apart = λ r i j. ⊎_elim (λ k. F.both_apart r k (without_in ty r s.free j)) (λ e. S.not_free (subst (λ (x : ℕ). In x (fregs (without ty s.free))) e j)) (snoc_in r s.held h i);
        held_known = λ r i. ⊎_elim (λ k. up r (F.held_known r k)) (λ e. (is_new r e).1) (snoc_in r s.held h i);
        free_known = λ r i. up r (F.free_known r (without_in ty r s.free i));
        new = λ d r g. ⊎_elim (λ e. is_new r e.1) (λ k. ((F.new d r k).0, up r (F.new d r k).1)) g;
        served = λ d r g. ⊎_elim (λ e. subst (λ (x : ℕ). x ≤ p) (sym e.0) (le_refl p)) (F.served d r) g;
        held_or_past = λ d r g. ⊎_elim (λ e. inr (subst (λ (x : ℕ). Holds (lu x) r (s.held ++ h ∷ [])) (sym e.0) (subst (λ (x : ℕ). Holds (lu p) x (s.held ++ h ∷ [])) (sym e.1) (snoc_new s.held h))))
            (λ k. ⊎_elim inl (λ i. inr (snoc_old (lu d) r s.held h i)) (F.held_or_past d r k)) g;
        free_new = λ r i. F.free_new r (without_in ty r s.free i);
        held_new = λ r i. ⊎_elim (F.held_new r) (λ e. (is_new r e).0) (snoc_in r s.held h i);
        room = le_trans F.room S.longer;
        reused = reused_more p n s F S.unread;
      }

  given_all : (p : ℕ) (ds : List ℕ) (s : Pool) → Fine lu R p s → Fine lu R p (gives p (lu p) s ds)
  given_all p [] s F = F
  given_all p (d ∷ ds) s F = given_all p ds (give p (lu p) s d) (given_one p s d F)

-- ---- over a round's members, in order

abbrev pub Rising : ℕ → List ℕ → Type 0
Rising p [] = Unit {0}
Rising p (q ∷ qs) = (p ≤ q) × Rising q qs

abbrev lastly : ℕ → List ℕ → ℕ
lastly p [] = p
lastly p (q ∷ qs) = lastly q qs

pool_fine : (run : List Fact) (there : ℕ → Bool) (R p : ℕ) (s : Pool) (ps : List ℕ) → Rising p ps → Fine (last_use run there) R p s → Fine (last_use run there) R (lastly p ps) (pooled run there s ps)
pool_fine run there R p s [] o F = F
pool_fine run there R p s (q ∷ qs) o F =
    pool_fine run there R q (gives q (last_use run there q) (release q s) (fact_at run q).defs) qs o.1
    (given_all (last_use run there) R q (fact_at run q).defs (release q s) (released (last_use run there) R p q s o.0 F))

abbrev pub empty : List ℕ → Pool
empty ts = record { free = []; held = []; types = ts; given = [] }

empty_fine : (lu : ℕ → ℕ) (ts : List ℕ) → Fine lu (length ts) 0 (empty ts)
empty_fine lu ts =
    record {
      held_apart = tt;
      free_apart = tt;
      both_apart = λ r i j. i;
      held_known = λ r i. absurd i;
      free_known = λ r i. absurd i;
      new = λ d r g. absurd g;
      served = λ d r g. absurd g;
      held_or_past = λ d r g. absurd g;
      free_new = λ r i. absurd i;
      held_new = λ r i. absurd i;
      room = le_refl (length ts);
      reused = λ d q r g g' l. absurd g;
    }

-- every register given is new; and one that q gets after d has no reader of d's value from q on
pub pool_new : (run : List Fact) (there : ℕ → Bool) (ts : List ℕ) (ps : List ℕ) → Rising 0 ps → (d r : ℕ) → Got d r (pooled run there (empty ts) ps).given → length ts ≤ r
pool_new run there ts ps o d r g = ((pool_fine run there (length ts) 0 (empty ts) ps o (empty_fine (last_use run there) ts)).new d r g).0

pub pool_reused : (run : List Fact) (there : ℕ → Bool) (ts : List ℕ) (ps : List ℕ) → Rising 0 ps
    → (d q r : ℕ) → Got d r (pooled run there (empty ts) ps).given → Got q r (pooled run there (empty ts) ps).given → d < q → last_use run there d < q
pool_reused run there ts ps o = (pool_fine run there (length ts) 0 (empty ts) ps o (empty_fine (last_use run there) ts)).reused

-- and below the count
pub pool_below : (run : List Fact) (there : ℕ → Bool) (ts : List ℕ) (ps : List ℕ) → Rising 0 ps → (d r : ℕ) → Got d r (pooled run there (empty ts) ps).given → r < length (pooled run there (empty ts) ps).types
pool_below run there ts ps o d r g = ((pool_fine run there (length ts) 0 (empty ts) ps o (empty_fine (last_use run there) ts)).new d r g).1

pub pool_grows : (run : List Fact) (there : ℕ → Bool) (ts : List ℕ) (ps : List ℕ) → Rising 0 ps → length ts ≤ length (pooled run there (empty ts) ps).types
pool_grows run there ts ps o = (pool_fine run there (length ts) 0 (empty ts) ps o (empty_fine (last_use run there) ts)).room

-- the members of a set, in order
pub rising : (f : ℕ → Bool) (p s n : ℕ) → p ≤ s → Rising p (filter f (range s n))
rising f p s zero h = tt
rising f p s (suc n) h = go (rising f s (suc s) n (le-suc s)) (rising f p (suc s) n (le_trans h (le-suc s))) (f s)
  where
    go : Rising s (filter f (range (suc s) n)) → Rising p (filter f (range (suc s) n)) → (b : Bool) → Rising p (cond b (s ∷ filter f (range (suc s) n)) (filter f (range (suc s) n)))
    go k l true = (h, k)
    go k l false = l
