-- Every register that the pool holds or has free is one whose type is known: so one that is given is new just if it is the next.
-- Assumes nothing.
use Rattle.std.proofs.lemmas.Option.{none-some, same_Some}
use Rattle.std.specs.Prelude.{Option, None, Some}
use mathlib.Core.Path.{◌≡◌, refl, sym, ap, ◌∙◌, subst}
use mathlib.Core.Logic.{◌⊎◌, inl, inr, ⊎_elim}
use mathlib.Core.Bool.{Bool, true, false, not, cond}
use mathlib.Core.List.{List, [], ◌∷◌, ◌++◌}
use Prim.Native.Nat.{ℕ, suc, ◌+◌, ◌<◌}
use native.Mathlib.Omega.{arith}
use lib.Dec.{eqb}
use lib.ListN.{length, get_or, length-append}
use Rattle.words.specs.Lists.{In}
use Rattle.words.proofs.Members.{filter_in, in_split}
use Rattle.model.specs.Move.{Held, Pool, past, freed, release, found, without, grown, given_reg, given_types, give}
use Rattle.std.specs.Int.{from_bool}
use Rattle.pool.specs.Pool.{Low, width}

freed_in : (p : ℕ) (hs : List Held) (fs : List (ℕ × ℕ)) (f : ℕ × ℕ) → In f (freed p hs fs) → In f fs ⊎ ((h : Held) × In h hs × (f.1 ≡ h.reg))
freed_in p [] fs f i = inl i
freed_in p (h ∷ hs) fs f i =
    ⊎_elim (λ j. first (past p h) j) (λ r. inr (r.0, inr r.1, r.2)) (freed_in p hs (cond (past p h) ((h.type, h.reg) ∷ fs) fs) f i)
  where
    first : (b : Bool) → In f (cond b ((h.type, h.reg) ∷ fs) fs) → In f fs ⊎ ((k : Held) × In k (h ∷ hs) × (f.1 ≡ k.reg))
    first true (inl e) = inr (h, inl refl, ap (λ (x : ℕ × ℕ). x.1) e)
    first true (inr j) = inl j
    first false j = inl j

pub low_release : (p : ℕ) (s : Pool) → Low s → Low (release p s)
low_release p s l =
    record {
      free_low = λ f i. ⊎_elim (λ j. l.free_low f j) (λ r. subst (λ (k : ℕ). k < length s.types) (sym r.2) (l.held_low r.0 r.1)) (freed_in p s.held s.free f i);
      held_low = λ h i. l.held_low h (filter_in (λ k. not (past p k)) h s.held i).0;
    }

found_in : (ty : ℕ) (fs : List (ℕ × ℕ)) (r : ℕ) → found ty fs ≡ Some r → (f : ℕ × ℕ) × In f fs × (r ≡ f.1)
found_in ty [] r e = absurd (none-some r e)
found_in ty (f ∷ fs) r e = go (eqb f.0 ty) e (found_in ty fs r)
  where
    go : (b : Bool) → cond b (Some f.1) (found ty fs) ≡ Some r → (found ty fs ≡ Some r → (k : ℕ × ℕ) × In k fs × (r ≡ k.1)) → (k : ℕ × ℕ) × In k (f ∷ fs) × (r ≡ k.1)
    go true q more = (f, inl refl, sym (same_Some f.1 r q))
    go false q more = let k = more q in (k.0, inr k.1, k.2)

without_in : (ty : ℕ) (fs : List (ℕ × ℕ)) (f : ℕ × ℕ) → In f (without ty fs) → In f fs
without_in ty [] f i = i
without_in ty (g ∷ fs) f i = go (eqb g.0 ty) i (without_in ty fs f)
  where
    go : (b : Bool) → In f (cond b fs (g ∷ without ty fs)) → (In f (without ty fs) → In f fs) → In f (g ∷ fs)
    go true j more = inr j
    go false (inl e) more = inl e
    go false (inr j) more = inr (more j)

pub grown_length : (ts : List ℕ) (ty : ℕ) → length (grown ts ty) ≡ length ts + width ty
grown_length ts ty = length-append ts (cond (eqb ty 4) (4 ∷ 0 ∷ []) (ty ∷ [])) ∙ ap (λ (n : ℕ). length ts + n) (go (eqb ty 4))
  where
    go : (b : Bool) → length (cond b (4 ∷ 0 ∷ []) (ty ∷ [])) ≡ suc (from_bool b)
    go true = refl
    go false = refl

pub found_low : (s : Pool) → Low s → (ty r : ℕ) → found ty s.free ≡ Some r → r < length s.types
found_low s l ty r e = let k = found_in ty s.free r e in subst (λ (x : ℕ). x < length s.types) (sym k.2) (l.free_low k.0 k.1)

pub low_give : (p until : ℕ) (s : Pool) (d : ℕ) → Low s → Low (give p until s d)
low_give p until s d l = go (found ty s.free) refl
  where
    ty : ℕ
    ty = get_or s.types d 0

    go : (o : Option ℕ) → found ty s.free ≡ o → Low (record {
      free = without ty s.free;
      held = s.held ++ record { until = until; reg = given_reg s.types o; type = ty } ∷ [];
      types = given_types s.types ty o;
      given = (p, given_reg s.types o) ∷ s.given;
    })
    go None e =
        let g = grown_length s.types ty in
        let up : (r : ℕ) → r < length s.types → r < length (grown s.types ty) = λ r h. omega arith in
        record {
          free_low = λ f i. up f.1 (l.free_low f (without_in ty s.free f i));
          held_low = λ h i. ⊎_elim (λ j. up h.reg (l.held_low h j)) (λ j. ⊎_elim (λ q. subst (λ (k : Held). k.reg < length (grown s.types ty)) (sym q) (omega arith)) (λ z. absurd z) j) (in_split h s.held (record { until = until; reg = length s.types; type = ty } ∷ []) i);
        }
    go (Some r) e =
        record {
          free_low = λ f i. l.free_low f (without_in ty s.free f i);
          held_low = λ h i. ⊎_elim (λ j. l.held_low h j) (λ j. ⊎_elim (λ q. subst (λ (k : Held). k.reg < length s.types) (sym q) (found_low s l ty r e)) (λ z. absurd z) j) (in_split h s.held (record { until = until; reg = r; type = ty } ∷ []) i);
        }
