-- Laws of tests: `T b`, `b ≡ true`, `b ≡ false` and the operators on Bool. (lib.Dec and borrow.Author.Tests have those of eqb, ltb
-- and leb; mathlib.Core.Bool has the equations of && and ||.) Assumes nothing.
use mathlib.Core.Path.{◌≡◌, refl, sym, ◌∙◌, subst}
use mathlib.Core.Logic.{◌⊎◌, inl, inr}
use mathlib.Core.Bool.{Bool, true, false, not, ◌&&◌, ◌||◌, true≢false}
use mathlib.Core.List.{List, [], ◌∷◌}
use Prim.Native.Nat.{ℕ, ◌-◌, ◌≤◌, ◌<◌, min, max}
use native.Mathlib.Omega.{arith}
use lib.Dec.{T, eqb}
use borrow.Author.Tests.{eqb-true, eqb-false, eq-eqb, ltb-true, ltb-false}
use Rattle.words.specs.Lists.{conj, hit, ◌implies◌}

-- ---- from one form to the other

pub T_true : (b : Bool) → T b → b ≡ true
T_true true t = refl
T_true false t = absurd t

pub true_T : (b : Bool) → b ≡ true → T b
true_T b e = subst T (sym e) tt

pub T_false : (b : Bool) → T (not b) → b ≡ false
T_false true t = absurd t
T_false false t = refl

pub false_T : (b : Bool) → b ≡ false → T (not b)
false_T b e = subst (λ (x : Bool). T (not x)) (sym e) tt

pub not_false_T : (b : Bool) → not b ≡ false → T b
not_false_T true e = tt
not_false_T false e = absurd (true≢false e)

-- both at once
pub clash : {C : Type 0} {b : Bool} → b ≡ true → b ≡ false → C
clash p q = absurd (true≢false (sym p ∙ q))

pub bool? : (b : Bool) → (b ≡ true) ⊎ (b ≡ false)
bool? true = inl refl
bool? false = inr refl

-- tests that hold together are one
pub bool_ext : (a b : Bool) → (T a → T b) → (T b → T a) → a ≡ b
bool_ext true b f g = sym (T_true b (f tt))
bool_ext false true f g = absurd (g tt)
bool_ext false false f g = refl

pub not_true_is_false : (b : Bool) → (b ≡ true → ⊥) → b ≡ false
not_true_is_false true n = absurd (n refl)
not_true_is_false false n = refl

-- ---- and

pub both : (a b : Bool) → T a → T b → T (a && b)
both true b s t = t
both false b s t = absurd s

pub left : (a b : Bool) → T (a && b) → T a
left true b t = tt
left false b t = t

pub right : (a b : Bool) → T (a && b) → T b
right true b t = t
right false b t = absurd t

pub both_true : (a b : Bool) → a ≡ true → b ≡ true → a && b ≡ true
both_true true b p q = q
both_true false b p q = p

pub left_true : (a b : Bool) → a && b ≡ true → a ≡ true
left_true true b p = refl
left_true false b p = p

pub right_true : (a b : Bool) → a && b ≡ true → b ≡ true
right_true true b p = p
right_true false b p = absurd (true≢false (sym p))

pub and_no : (a : Bool) {b : Bool} → b ≡ false → (a && b) ≡ false
and_no true e = e
and_no false e = refl

pub and_mono : (a b c d : Bool) → (T a → T c) → (T b → T d) → T (a && b) → T (c && d)
and_mono a b c d f g t = both c d (f (left a b t)) (g (right a b t))

-- ---- or

pub or_first : (a b : Bool) → T a → T (a || b)
or_first true b t = tt
or_first false b t = absurd t

pub or_second : (a b : Bool) → T b → T (a || b)
or_second true b t = tt
or_second false b t = t

pub or_cases : (a b : Bool) → T (a || b) → T a ⊎ T b
or_cases true b t = inl tt
or_cases false b t = inr t

pub or_rest : (a b : Bool) → T (a || b) → a ≡ false → T b
or_rest true b t e = absurd (true≢false e)
or_rest false b t e = t

pub or_of : (a b : Bool) → (a ≡ false → T b) → T (a || b)
or_of true b f = tt
or_of false b f = f refl

pub or_left : (a b : Bool) → (a || b) ≡ false → a ≡ false
or_left true b e = e
or_left false b e = refl

pub or_right : (a b : Bool) → (a || b) ≡ false → b ≡ false
or_right true b e = absurd (true≢false e)
or_right false b e = e

pub or_mono : (a b c d : Bool) → (T a → T c) → (T b → T d) → T (a || b) → T (c || d)
or_mono true b c d f g t = or_first c d (f tt)
or_mono false b c d f g t = or_second c d (g t)

-- ---- implies

pub implied : (a b : Bool) → T (a implies b) → a ≡ true → T b
implied true b t e = t
implied false b t e = absurd (true≢false (sym e))

pub implies_of : (a b : Bool) → (a ≡ true → T b) → T (a implies b)
implies_of true b f = f refl
implies_of false b f = tt

pub implies_mono : (a b c : Bool) → (T b → T c) → T (a implies b) → T (a implies c)
implies_mono true b c f t = f t
implies_mono false b c f t = tt

pub denied : (a b : Bool) → T (a implies not b) → b ≡ true → a ≡ false
denied true b t e = clash e (T_false b t)
denied false b t e = refl

pub denies : (a b : Bool) → (b ≡ true → a ≡ false) → T (a implies not b)
denies true true f = absurd (true≢false (f refl))
denies true false f = tt
denies false b f = tt

-- ---- a list of tests

abbrev pub Hold : List Bool → Type 0
Hold [] = Unit {0}
Hold (b ∷ bs) = T b × Hold bs

pub hold : (bs : List Bool) → T (conj bs) → Hold bs
hold [] t = tt
hold (b ∷ bs) t = (left b (conj bs) t, hold bs (right b (conj bs) t))

pub conj_of : (bs : List Bool) → Hold bs → T (conj bs)
conj_of [] h = tt
conj_of (b ∷ bs) h = both b (conj bs) h.0 (conj_of bs h.1)

-- ---- equal or not, below or not

pub eqb_self : (a : ℕ) → eqb a a ≡ true
eqb_self a = eq-eqb a a refl

pub eqb_comm : (a b : ℕ) → eqb a b ≡ eqb b a
eqb_comm a b = bool_ext (eqb a b) (eqb b a) (flip a b) (flip b a)
  where
    flip : (a b : ℕ) → T (eqb a b) → T (eqb b a)
    flip a b t = true_T (eqb b a) (eq-eqb b a (sym (lib.Dec.eqb→eq a b t)))

pub eq? : (a b : ℕ) → (a ≡ b) ⊎ (a ≡ b → ⊥)
eq? a b = go (eqb a b) refl
  where
    go : (t : Bool) → eqb a b ≡ t → (a ≡ b) ⊎ (a ≡ b → ⊥)
    go true e = inl (eqb-true a b e)
    go false e = inr (eqb-false a b e)

pub lt? : (a b : ℕ) → (a < b) ⊎ (b ≤ a)
lt? a b = go (lib.Dec.ltb a b) refl
  where
    go : (t : Bool) → lib.Dec.ltb a b ≡ t → (a < b) ⊎ (b ≤ a)
    go true e = inl (ltb-true a b e)
    go false e = inr (ltb-false a b e)

-- ---- tests as numbers 0 and 1, which omega reads: max is "or", min "and", 1 - "not"

pub hit_or : (a b : Bool) → hit (a || b) ≡ max (hit a) (hit b)
hit_or true true = refl
hit_or true false = refl
hit_or false true = refl
hit_or false false = refl

pub hit_and : (a b : Bool) → hit (a && b) ≡ min (hit a) (hit b)
hit_and true true = refl
hit_and true false = refl
hit_and false true = refl
hit_and false false = refl

pub hit_not : (a : Bool) → hit (not a) ≡ 1 - hit a
hit_not true = refl
hit_not false = refl

pub hit_le : (a : Bool) → hit a ≤ 1
hit_le true = omega arith
hit_le false = omega arith

pub hit_inj : (a b : Bool) → hit a ≡ hit b → a ≡ b
hit_inj true true e = refl
hit_inj true false e = absurd (omega arith)
hit_inj false true e = absurd (omega arith)
hit_inj false false e = refl
