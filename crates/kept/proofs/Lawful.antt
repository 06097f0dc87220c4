-- The greatest legal set keeps the rules on registers that the walk asks for. Assumes nothing.
use Rattle.std.proofs.lemmas.Option.{none-some, same_Some}
use Rattle.std.specs.Prelude.{Option, None, Some}
use mathlib.Core.Path.{◌≡◌, refl, sym, ap, ◌∙◌, subst}
use mathlib.Core.Bool.{Bool, true, false, true≢false}
use mathlib.Core.List.{List}
use Prim.Native.Nat.{ℕ, ◌≤◌, ◌<◌}
use native.Mathlib.Omega.{arith}
use lib.ListN.{get_or, length, take}
use Rattle.words.specs.Lists.{mem, member, In}
use Rattle.words.proofs.Bools.{T_true, true_T}
use Rattle.words.proofs.Members.{in_mem, map_in}
use Rattle.model.specs.Analyse.{Fact, Read, last_writer, when_some}
use Rattle.model.specs.Legal.{reads_from, writes_last, greatest}
use Rattle.model.specs.Legal as L
use Rattle.laws.proofs.Greatest.{greatest_legal, greatest_movable}
use Rattle.laws.proofs.Rules.{legal→Legal}
use Rattle.walk.specs.Machine.{Instr, no_instr}
use Rattle.walk.specs.Rules.{Definer, entry, by, defined_by, Legal}
use Rattle.kept.proofs.Straight.{opt, Tied, def_writer, reads_it, last_writes}

back : (e : Definer) (d : ℕ) → opt e ≡ Some d → e ≡ by d
back entry d q = absurd (none-some d q)
back (by p) d q = ap by (same_Some p d q)

module _ (run : List Fact) (S : List Instr) (tied : Tied run S) (needed : ℕ → Bool) (m : ℕ) (short : m ≤ length S) where
  abbrev pub mark : ℕ → Bool
  mark = member (greatest run needed m)

  rules : (p : ℕ) → mark p ≡ true → L.Legal run needed mark p
  rules p e = legal→Legal run needed mark p (greatest_legal run needed m p (true_T (mark p) e))

  pub below_m : (p : ℕ) → mark p ≡ true → p < m
  below_m p e = (greatest_movable run needed m p (true_T (mark p) e)).0

  unneeded : (r p : ℕ) → defined_by S (length S) r ≡ by p → mark p ≡ true → needed r ≡ true → ⊥
  unneeded r p e k w =
      let z = last_writes run S tied r p e in
      true≢false (sym w ∙ (rules p k).results r (subst (In r) (sym (tied.defs p z.0)) z.1) (T_true (writes_last run p r) z.2))

  pub lawful : (liveU outT : ℕ → Type 0) → ((r : ℕ) → liveU r → needed r ≡ true) → ((r : ℕ) → outT r → needed r ≡ true) → Legal S m mark liveU outT
  lawful liveU outT u o = record {
    inside = below_m;
    readers = λ q r p h i e k. (rules p k).readers q (let f = tied.len in omega arith) (T_true (reads_from run q p) (reads_it run S tied q r p h i e));
    last_not_other = λ r p e k w. unneeded r p e k (u r w);
    last_not_past = λ r p e k w. unneeded r p e k (o r w);
    stable = λ p r q k i n l h f w.
        let pm = below_m p k in
        let v : Read = record { reg = r; writer = last_writer 0 (take p run) r } in
        let outside : when_some mark v.writer ≡ false =
        none_marked (last_writer 0 (take p run) r) (λ d e g. n d (back (defined_by S p r) d (def_writer run S tied r p (omega arith) ∙ e)) g) in
        true≢false (sym (ap (mem r) (tied.defs q h) ∙ in_mem r (get_or S q no_instr).writes w)
        ∙ (rules p k).operands v (subst (In v) (sym (tied.uses p (omega arith))) (map_in (λ r. record { reg = r; writer = last_writer 0 (take p run) r }) r (get_or S p no_instr).reads i)) outside
        q (record { later = l; inside = (let g = tied.len in omega arith); outside = f }));
  }
    where
      none_marked : (o : Option ℕ) → ((d : ℕ) → o ≡ Some d → mark d ≡ true → ⊥) → when_some mark o ≡ false
      none_marked None h = refl
      none_marked (Some d) h = go (mark d) refl
        where
          go : (b : Bool) → mark d ≡ b → b ≡ false
          go true e = absurd (h d refl e)
          go false e = refl
