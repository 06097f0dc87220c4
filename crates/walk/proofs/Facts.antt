-- Facts on tests, functions changed at one place and what is left of a list, beside those of `words`. Assumes nothing.
use mathlib.Core.Path.{◌≡◌, refl, sym, ◌∙◌, ap, subst}
use mathlib.Core.Bool.{Bool, true, false, cond}
use mathlib.Core.List.{List, [], ◌∷◌, ◌++◌, map, append_assoc, append_cancel_left, head-eq_of_cons-eq, tail-eq_of_cons-eq}
use mathlib.Core.Logic.{◌⊎◌, inl, inr, ⊎_elim}
use Prim.Native.Nat.{ℕ, suc, ◌+◌}
use native.Mathlib.Omega.{arith}
use lib.Dec.{eqb, T, eqb→eq, eqb_refl}
use lib.ListN.{length, get_or, length-append}
use lib.Seq.{get_or_at, append_snoc}
use Rattle.words.specs.Lists.{In, mem}
use Rattle.words.proofs.Members.{in_mem, not_in_mem}
use Rattle.words.proofs.Members as Members
use Rattle.walk.specs.Machine.{put}

-- ---- numbers and Bools

pub eq→eqb : (s r : ℕ) → s ≡ r → T (eqb s r)
eq→eqb s r e = subst (λ z. T (eqb s z)) e (eqb_refl s)

pub cond_yes : {A : Type 0} (b : Bool) (x y : A) → T b → cond b x y ≡ x
cond_yes true x y t = refl
cond_yes false x y t = absurd t

pub cond_no : {A : Type 0} (b : Bool) (x y : A) → (T b → ⊥) → cond b x y ≡ y
cond_no true x y t = absurd (t tt)
cond_no false x y t = refl

-- ---- a function changed at one place

pub put_same : {A : Type 0} (f : ℕ → A) (r : ℕ) (v : A) → put f r v r ≡ v
unfolding put
put_same f r v = cond_yes (eqb r r) v (f r) (eqb_refl r)

pub put_other : {A : Type 0} (f : ℕ → A) (r : ℕ) (v : A) (s : ℕ) → (s ≡ r → ⊥) → put f r v s ≡ f s
unfolding put
put_other f r v s h = cond_no (eqb s r) v (f s) (λ t. h (eqb→eq s r t))

-- ---- standing in a list

-- whether r stands there, with what `mem` says
pub in? : (r : ℕ) (l : List ℕ) → (In r l × (mem r l ≡ true)) ⊎ ((In r l → ⊥) × (mem r l ≡ false))
in? r l = ⊎_elim (λ (i : In r l). inl (i, in_mem r l i)) (λ (n : In r l → ⊥). inr (n, not_in_mem r l n)) (Members.in? r l)

pub none_in : (l : List ℕ) (r : ℕ) → l ≡ [] → In r l → ⊥
none_in l r e h = subst (In r) e h

pub in_constant : (f : ℕ) (rs : List ℕ) (r : ℕ) → In r (map (λ (x : ℕ). f) rs) → r ≡ f
in_constant f [] r h = absurd h
in_constant f (x ∷ rs) r (inl e) = e
in_constant f (x ∷ rs) r (inr h) = in_constant f rs r h

-- ---- lists

-- c is what is left of `whole` from index j on
pub record Rest {A : Type 0} (whole : List A) (j : ℕ) (c : List A) : Type 0 where
  pub front : List A
  pub parts : whole ≡ front ++ c
  pub index : j ≡ length front

pub rest_all : {A : Type 0} (c : List A) → Rest c 0 c
rest_all c = record { front = []; parts = refl; index = refl }

module _ {A : Type 0} {whole : List A} {j : ℕ} where
  pub rest_next : {i : A} {c : List A} → Rest whole j (i ∷ c) → Rest whole (suc j) c
  rest_next {i} {c} r = let n = r.index in record { front = r.front ++ i ∷ []; parts = r.parts ∙ sym (append_snoc r.front i c); index = omega (arith, length-append r.front (i ∷ [])) }

  pub rest_behind : (d c : List A) → Rest whole j (d ++ c) → Rest whole (j + length d) c
  rest_behind d c r = let n = r.index in record { front = r.front ++ d; parts = r.parts ∙ sym (append_assoc r.front d c); index = omega (arith, length-append r.front d) }

  pub rest_at : (d : A) {i : A} {c : List A} → Rest whole j (i ∷ c) → get_or whole j d ≡ i
  rest_at d {i} {c} r = ap (λ z. get_or z j d) r.parts ∙ get_or_at r.front i c d j (sym r.index)

  pub rest_length : {c : List A} → Rest whole j c → length whole ≡ j + length c
  rest_length {c} r = let n = r.index in omega (arith, ap length r.parts, length-append r.front c)

-- the element behind one prefix
pub behind_same : {A : Type 0} (pre : List A) (b c : A) (post : List A) (d : A) (rest : List A) → pre ++ b ∷ c ∷ post ≡ pre ++ b ∷ d ∷ rest → c ≡ d
behind_same pre b c post d rest e = head-eq_of_cons-eq (tail-eq_of_cons-eq (append_cancel_left pre (b ∷ c ∷ post) (b ∷ d ∷ rest) e))
