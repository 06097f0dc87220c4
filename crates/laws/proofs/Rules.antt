-- The six tests say what the record of rules says. Assumes nothing.
use Rattle.std.proofs.lemmas.Option.{none-some}
use Rattle.std.specs.Prelude.{Option, None, Some}
use mathlib.Core.Path.{◌≡◌, refl, sym, subst}
use mathlib.Core.Bool.{Bool, true, not, ◌&&◌, ◌||◌}
use mathlib.Core.List.{List}
use Prim.Native.Nat.{ℕ, suc, ◌-◌, ◌<◌}
use native.Mathlib.Nat.{zero-add}
use native.Mathlib.Omega.{arith}
use lib.Dec.{T}
use lib.ListN.{length}
use Rattle.words.specs.Lists.{all, mem}
use Rattle.words.proofs.Bools.{both, left, right, T_true, true_T, T_false, false_T, hold, conj_of, implied, implies_of, denied, denies, or_rest, or_of}
use Rattle.words.proofs.Members.{all_in, all_of}
use Rattle.words.proofs.Alls.{all_range, range_all}
use Rattle.model.specs.Analyse.{Org, Unknown, Ro, Heap, Frame, Temp, Img, Fact, Effect, alias, is_some, when_some, unless_some}
use Rattle.model.specs.Legal.{Legal, Kept, legal, tests, rule1, rule2, rule3, rule4, rule5_barrier, rule5_write, rule6, kept, reads_from, writes_last, readable, steady, fact_at}

-- ---- tests and what they say

pub no_some : {A : Type 0} (o : Option A) → T (not (is_some o)) → o ≡ None
no_some None t = refl
no_some (Some a) t = absurd t

pub no_some_of : {A : Type 0} (o : Option A) → o ≡ None → T (not (is_some o))
no_some_of None e = tt
no_some_of (Some a) e = none-some a (sym e)

pub unless_at : {A : Type 0} (f : A → Bool) (o : Option A) → T (unless_some f o) → (a : A) → o ≡ Some a → T (f a)
unless_at f o t a e = subst (λ x. T (unless_some f x)) e t

pub unless_of : {A : Type 0} (f : A → Bool) (o : Option A) → ((a : A) → o ≡ Some a → T (f a)) → T (unless_some f o)
unless_of f None h = tt
unless_of f (Some a) h = h a refl

-- memory that is a member's own
pub own_memory : (run : List Fact) (needed L : ℕ → Bool) (w : Org) → T (rule6 run needed L w) → (k : ℕ) × (w ≡ Temp k) × (L k ≡ true)
own_memory run needed L Unknown t = absurd t
own_memory run needed L Ro t = absurd t
own_memory run needed L Heap t = absurd t
own_memory run needed L Frame t = absurd t
own_memory run needed L (Temp k) t = (k, refl, T_true (L k) t)
own_memory run needed L (Img k) t = absurd t

-- ---- rule by rule

module _ (run : List Fact) (needed L : ℕ → Bool) (p : ℕ) where
  at_kept : (f : ℕ → Bool) → T (kept run needed L p f) → (q : ℕ) → Kept run needed L p q → T (f q)
  at_kept f t q k =
      let a = k.later in
      let b = k.inside in
      or_rest (L q) (f q)
      (subst (λ (x : ℕ). T (L x || f x)) (omega arith) (range_all (λ x. L x || f x) (suc p) (length run - suc p) t (q - suc p) (omega arith))) k.outside

  kept_of : (f : ℕ → Bool) → ((q : ℕ) → Kept run needed L p q → T (f q)) → T (kept run needed L p f)
  kept_of f h =
      all_range (λ x. L x || f x) (suc p) (length run - suc p)
      (λ q a b. or_of (L q) (f q) (λ e. h q (record { later = a; inside = omega arith; outside = e })))

  abbrev e : Effect
  e = (fact_at run p).does

  abbrev still : Bool
  still = not e.creates && not (is_some e.wrote)

  -- rule 5's three tests
  abbrev bars : Bool
  bars = kept run needed L p (rule5_barrier run needed L p)

  abbrev meets : Bool
  meets = kept run needed L p (rule5_write run needed L p)

  pub legal→Legal : T (legal run needed L p) → Legal run needed L p
  legal→Legal t =
      let h = hold (tests run needed L p) t in
      let five = left (bars && meets) (all readable e.from) h.1.1.1.1.0 in
      record {
        readers = λ q b r.
            T_true (L q)
            (implied (reads_from run q p) (L q)
            (subst (λ (x : ℕ). T (rule1 run needed L p x)) (zero-add q) (range_all (rule1 run needed L p) 0 (length run) h.0 q b)) r);
        results = λ r i w. denied (needed r) (writes_last run p r) (all_in (rule2 run needed L p) r (fact_at run p).defs h.1.0 i) w;
        operands = λ u i n q k.
            T_false (mem u.reg (fact_at run q).defs)
            (or_rest (when_some L u.writer) (not (mem u.reg (fact_at run q).defs))
            (all_in (λ u. when_some L u.writer || not (mem u.reg (fact_at run q).defs)) u (fact_at run p).uses (at_kept (rule3 run needed L p) h.1.1.0 q k) i) n);
        suspensions = λ q k. T_false (fact_at run q).suspends (at_kept (rule4 run needed L) h.1.1.1.0 q k);
        barriers = λ q k b.
            let s = implied (fact_at run q).does.barrier (still && all steady e.from) (at_kept (rule5_barrier run needed L p) (left bars meets five) q k) b in
            let c = left still (all steady e.from) s in (
              T_false e.creates (left (not e.creates) (not (is_some e.wrote)) c),
              no_some e.wrote (right (not e.creates) (not (is_some e.wrote)) c),
              λ o i. T_true (steady o) (all_in steady o e.from (right still (all steady e.from) s) i),
            );
        aliases = λ q k w o g i.
            T_false (alias w o)
            (all_in (λ o. not (alias w o)) o e.from
            (unless_at (λ w. all (λ o. not (alias w o)) e.from) (fact_at run q).does.wrote (at_kept (rule5_write run needed L p) (right bars meets five) q k) w g) i);
        origins = λ o i. T_true (readable o) (all_in readable o e.from (right (bars && meets) (all readable e.from) h.1.1.1.1.0) i);
        memory = λ w g. own_memory run needed L w (unless_at (rule6 run needed L) e.wrote h.1.1.1.1.1.0 w g);
      }

  pub Legal→legal : Legal run needed L p → T (legal run needed L p)
  Legal→legal r =
      conj_of (tests run needed L p) (
        all_range (rule1 run needed L p) 0 (length run)
            (λ q a b. implies_of (reads_from run q p) (L q) (λ h. true_T (L q) (r.readers q (subst (λ (x : ℕ). q < x) (zero-add (length run)) b) h))),
        (
          all_of (rule2 run needed L p) (fact_at run p).defs (λ d i. denies (needed d) (writes_last run p d) (r.results d i)),
          (
            kept_of (rule3 run needed L p)
                (λ q k. all_of (λ u. when_some L u.writer || not (mem u.reg (fact_at run q).defs)) (fact_at run p).uses
                (λ u i. or_of (when_some L u.writer) (not (mem u.reg (fact_at run q).defs)) (λ n. false_T (mem u.reg (fact_at run q).defs) (r.operands u i n q k)))),
            (
              kept_of (rule4 run needed L) (λ q k. false_T (fact_at run q).suspends (r.suspensions q k)),
              (
                both (bars && meets) (all readable e.from)
                    (both bars meets
                    (kept_of (rule5_barrier run needed L p)
                    (λ q k. implies_of (fact_at run q).does.barrier (still && all steady e.from)
                    (λ b. let s = r.barriers q k b in
                    both still (all steady e.from) (both (not e.creates) (not (is_some e.wrote)) (false_T e.creates s.0) (no_some_of e.wrote s.1)) (all_of steady e.from (λ o i. true_T (steady o) (s.2 o i))))))
                    (kept_of (rule5_write run needed L p)
                    (λ q k. unless_of (λ w. all (λ o. not (alias w o)) e.from) (fact_at run q).does.wrote
                    (λ w g. all_of (λ o. not (alias w o)) e.from (λ o i. false_T (alias w o) (r.aliases q k w o g i))))))
                    (all_of readable e.from (λ o i. true_T (readable o) (r.origins o i))),
                (
                  unless_of (rule6 run needed L) e.wrote (λ w g. let m = r.memory w g in subst (λ x. T (rule6 run needed L x)) (sym m.1) (true_T (L m.0) m.2)),
                  tt,
                ),
              ),
            ),
          ),
        ),
      )
