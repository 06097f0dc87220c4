-- `give` in words is `give` of the pool. Assumes nothing.
use Rattle.std.proofs.lemmas.Option.{none-some}
use Rattle.std.proofs.lemmas.Grind.{get_or_default_zero}
use Rattle.std.specs.Prelude.{Option, None, Some}
use mathlib.Core.Path.{◌≡◌, refl, sym, ap, ap₂, ◌∙◌, subst}
use mathlib.Core.Bool.{Bool, true, false, cond}
use mathlib.Core.List.{List, [], ◌∷◌, ◌++◌, map}
use Prim.Native.Nat.{ℕ, suc, ◌+◌, ◌*◌, ◌/◌, ◌%◌, ◌≤◌, ◌<◌}
use native.Mathlib.Nat.{mod-eq_of_lt, mod-lt, mul-add-mod_self_right, div-le_self}
use native.Mathlib.Omega.{arith}
use borrow.Author.Tests.{eq-eqb, ne_eqb}
use lib.Dec.{eqb}
use lib.Arith.{digits_div}
use lib.ListN.{length, get_or, get_or-append, length-append}
use Rattle.words.proofs.Lists.{map_append}
use Rattle.std.specs.Int.{from_bool}
use Rattle.model.specs.Move.{Held, Pool, found, without, give, grown, given_reg, given_types}
use Rattle.pool.specs.declared.held.Pool.{Pool as Words}
use Rattle.pool.specs.Pool.{held_of, free_of, piled, held_words, free_words, rest_at, Top, Is, Gives, Gave, width, grow_if, Low}
use Rattle.pool.proofs.Lows.{low_give, found_low, grown_length}

pub held_word : (u x : ℕ) → x < 1048576 → held_of (u * 1048576 + x) ≡ record { until = u; reg = x / 8; type = x % 8 }
unfolding held_of
held_word u x h =
    let q : (u * 1048576 + x) / 1048576 ≡ u = digits_div u h in
    let r : (u * 1048576 + x) % 1048576 ≡ x = mul-add-mod_self_right u 1048576 x ∙ mod-eq_of_lt h in
    ap₂ (λ (a b : ℕ). record { until = a; reg = b / 8; type = b % 8 }) q r

pub width_small : (ty : ℕ) → width ty ≤ 2
width_small ty = go (eqb ty 4)
  where
    go : (b : Bool) → suc (from_bool b) ≤ 2
    go true = omega arith
    go false = omega arith

-- the word that is stored, and those held then
held_more : (xs ys : List ℕ) (s : Pool) (h : Held) (v : ℕ) → ys ≡ xs ++ (v ∷ []) → map held_of xs ≡ s.held → held_of v ≡ h → map held_of ys ≡ s.held ++ (h ∷ [])
held_more xs ys s h v put hs e =
    ap (map held_of) put ∙ map_append held_of xs (v ∷ []) ∙ ap₂ (λ (l : List Held) (x : Held). l ++ (x ∷ [])) hs e

-- nothing is taken out where nothing is found
none_gone : (ty : ℕ) (fs : List (ℕ × ℕ)) → found ty fs ≡ None → fs ≡ without ty fs
none_gone ty [] e = refl
none_gone ty (f ∷ fs) e = go (eqb f.0 ty) e (none_gone ty fs)
  where
    go : (b : Bool) → cond b (Some f.1) (found ty fs) ≡ None → (found ty fs ≡ None → fs ≡ without ty fs) → f ∷ fs ≡ cond b fs (f ∷ without ty fs)
    go true q more = absurd (none-some f.1 (sym q))
    go false q more = ap (λ (l : List (ℕ × ℕ)). f ∷ l) (more q)

-- the pool after, by what was found
abbrev given_by : ℕ → ℕ → ℕ → Pool → Option ℕ → Pool
given_by p until ty s o = record {
  free = without ty s.free;
  held = s.held ++ record { until = until; reg = given_reg s.types o; type = ty } ∷ [];
  types = given_types s.types ty o;
  given = (p, given_reg s.types o) ∷ s.given;
}

module _ {R : ℕ} {types : List ℕ} {a : Words} {s : Pool} (i : Is R types a s) (until ty p d : ℕ) (lt : d < R) (is_ty : get_or types d 0 ≡ ty) where
  give_is : (o : Option ℕ) → found ty (piled (free_words a) []) ≡ o → give p until s d ≡ given_by p until ty s o
  give_is o e =
      ap (λ (t : ℕ). given_by p until t s (found t s.free)) (i.types_are d lt ∙ is_ty)
      ∙ ap (given_by p until ty s) (ap (found ty) (sym i.free_is) ∙ e)

  types_more : (k : ℕ) → k < R → get_or (grown s.types ty) k 0 ≡ get_or types k 0
  types_more k h = get_or-append s.types (cond (eqb ty 4) (4 ∷ 0 ∷ []) (ty ∷ [])) 0 k (omega (arith, i.enough, i.next_is)) ∙ i.types_are k h

-- a word stood behind those held
more_held : (xs ys : List ℕ) (v : ℕ) → ys ≡ xs ++ (v ∷ []) → length ys ≡ length xs + 1
more_held xs ys v put = ap length put ∙ length-append xs (v ∷ [])

-- the next register, where none of its type is free
pub gave_new : {until ty k : ℕ} {a b : Words} → Top ty a None → a.next < 131000 → ty < 8 → k ≡ width ty
    → held_words b ≡ held_words a ++ ((until * 1048576 + (a.next * 8 + ty)) ∷ []) → free_words b ≡ free_words a → b.next ≡ a.next + k → Gave until ty a b a.next
gave_new {until} {ty} {k} {a} {b} t small tys kw put free then =
    let next : ℕ = a.next in
    let v : ℕ = until * 1048576 + (next * 8 + ty) in
    let x_small : next * 8 + ty < 1048576 = omega arith in
    let reg_is : (next * 8 + ty) / 8 ≡ next = digits_div next tys in
    let type_is : (next * 8 + ty) % 8 ≡ ty = mul-add-mod_self_right next 8 ty ∙ mod-eq_of_lt tys in
    let more = more_held (held_words a) (held_words b) v put in
    let same_free = ap length free in
    record {
      room = omega arith;
      small = omega (arith, width_small ty);
      low = omega arith;
      step = λ R p d types s i lt e.
          let word : held_of v ≡ record { until = until; reg = length s.types; type = ty } =
          held_word until (next * 8 + ty) x_small ∙ ap₂ (λ (a b : ℕ). record { until = until; reg = a; type = b }) (reg_is ∙ sym i.next_is) type_is in
          let same : give p until s d ≡ given_by p until ty s None = give_is i until ty p d lt e None t.found_is in
          let n_is = i.next_is in
          let l_is = grown_length s.types ty in
          subst (Gives R types b p next ty s) (sym same)
          (record {
            is = record {
              held_is = held_more (held_words a) (held_words b) s (record { until = until; reg = length s.types; type = ty }) v put i.held_is word;
              free_is = ap (λ (l : List ℕ). piled l []) free ∙ i.free_is ∙ none_gone ty s.free (ap (found ty) (sym i.free_is) ∙ t.found_is);
              next_is = omega arith;
              enough = omega (arith, i.enough);
              types_are = types_more i until ty p d lt e;
              low = subst Low same (low_give p until s d i.low);
            };
            given_is = ap (λ (n : ℕ). (p, n) ∷ s.given) i.next_is;
            types_is = sym (ap (λ (b : Bool). grow_if b s.types ty) (eq-eqb next (length s.types) (sym i.next_is)));
          });
    }

-- the register of the free word at place k, which was taken out
gave_back : {until ty k : ℕ} {a b : Words} → Top ty a (Some k) → free_words b ≡ rest_at (free_words a) (Some k)
    → length (free_words b) + 1 ≡ length (free_words a)
    → held_words b ≡ held_words a ++ ((until * 1048576 + get_or (free_words a) k 0 % 1048576) ∷ []) → b.next ≡ a.next
    → Gave until ty a b (get_or (free_words a) k 0 % 1048576 / 8)
unfolding free_of
gave_back {until} {ty} {k} {a} {b} t closed less put next =
    let w : ℕ = get_or (free_words a) k 0 in
    let x : ℕ = w % 1048576 in
    let v : ℕ = until * 1048576 + x in
    let pos : 0 < 1048576 = omega arith in
    let x_small : x < 1048576 = mod-lt w pos in
    let more = more_held (held_words a) (held_words b) v put in
    record {
      room = omega arith;
      small = omega arith;
      low = let q = div-le_self x 8 in omega arith;
      step = λ R p d types s i lt e.
          let word : held_of v ≡ record { until = until; reg = x / 8; type = ty } =
          held_word until x x_small ∙ ap (λ (b : ℕ). record { until = until; reg = x / 8; type = b }) (t.type_is k refl) in
          let same : give p until s d ≡ given_by p until ty s (Some (x / 8)) = give_is i until ty p d lt e (Some (x / 8)) t.found_is in
          let below : x / 8 < length s.types = found_low s i.low ty (x / 8) (ap (found ty) (sym i.free_is) ∙ t.found_is) in
          subst (Gives R types b p (x / 8) ty s) (sym same)
          (record {
            is = record {
              held_is = held_more (held_words a) (held_words b) s (record { until = until; reg = x / 8; type = ty }) v put i.held_is word;
              free_is = ap (λ (l : List ℕ). piled l []) closed ∙ sym t.rest_is ∙ ap (without ty) i.free_is;
              next_is = i.next_is ∙ sym next;
              enough = let n = i.enough in omega arith;
              types_are = i.types_are;
              low = subst Low same (low_give p until s d i.low);
            };
            given_is = refl;
            types_is = sym (ap (λ (b : Bool). grow_if b s.types ty) (ne_eqb (x / 8) (length s.types) (λ q. omega arith)));
          });
    }

-- the same of that word as it was taken out
pub gave_again : {until ty k : ℕ} {a b : Words} (w : ℕ) → w ≡ get_or (free_words a) k w → Top ty a (Some k) → free_words b ≡ rest_at (free_words a) (Some k)
    → length (free_words b) + 1 ≡ length (free_words a) → held_words b ≡ held_words a ++ ((until * 1048576 + w % 1048576) ∷ []) → b.next ≡ a.next
    → Gave until ty a b (w % 1048576 / 8)
gave_again {until} {ty} {k} {a} {b} w got t closed less put next =
    let is : w ≡ get_or (free_words a) k 0 = got ∙ get_or_default_zero (free_words a) k w (t.within k refl) in
    subst (λ (x : ℕ). Gave until ty a b (x % 1048576 / 8)) (sym is)
    (gave_back t closed less (put ∙ ap (λ (x : ℕ). held_words a ++ ((until * 1048576 + x % 1048576) ∷ [])) is) next)
