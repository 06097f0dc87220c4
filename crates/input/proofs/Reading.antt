-- What was read until the input's end, or the room's, is the front of what the input held; and what is written of it. Assumes nothing.
use Rattle.std.proofs.Common.{◌≡◌, inl, inr, ℕ, ◌<◌, ◌≤◌, List, ◌++◌, Option, None, Some, IfSome, Result, Ok, Err, OnOk, sym, ap, subst, ◌∙◌, append-nil, length, take, take_all, arith}
use Rattle.std.proofs.lemmas.List.{take-append-le}
use Rattle.std.proofs.Math.Nat.{eq-or-lt_of_le}
use Rattle.std.specs.Io.KnownBytes.{Consumes, IsAtEnd, Appends}

-- front is what came, and there is room for m bytes
pub front_read : (a b : Option (List ℕ)) (front : List ℕ) (m : ℕ) → length front ≤ m → Consumes a b front → (length front < m → IsAtEnd b)
    → IfSome a (λ xs. take m xs ≡ front)
front_read None b front m fits came ended = tt
front_read (Some x) None front m fits came ended = absurd came
front_read (Some x) (Some y) front m fits came ended = elim (eq-or-lt_of_le fits) [
  | inl e ↦ ap (take m) came ∙ take-append-le m front y (omega (arith, e)) ∙ take_all m front (omega (arith, e))
  | inr l ↦ ap (take m) (came ∙ ap (λ r. front ++ r) (ended l) ∙ append-nil front) ∙ take_all m front fits
]

pub on_ok : {T E : Type 0} {P Q : Type 0} (r : Result T E) → (P → Q) → OnOk r P → OnOk r Q
on_ok (Ok x) f p = f p
on_ok (Err e) f p = tt

-- what is written of the front is written of what the input held
pub written_of : (a o w : Option (List ℕ)) (f : List ℕ → List ℕ) (front : List ℕ) (m : ℕ) → IfSome a (λ xs. take m xs ≡ front) → Appends o w (f front)
    → IfSome a (λ xs. Appends o w (f (take m xs)))
written_of None o w f front m same wrote = tt
written_of (Some x) o w f front m same wrote = subst (λ l. Appends o w (f l)) (sym same) wrote
