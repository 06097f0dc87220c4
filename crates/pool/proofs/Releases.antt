-- What `release` makes free. Assumes nothing.
use mathlib.Core.Path.{◌≡◌, refl, sym, ap, ◌∙◌, subst}
use mathlib.Core.Bool.{Bool, true, false, not, cond}
use mathlib.Core.List.{List, [], ◌∷◌, ◌++◌, append-nil}
use Prim.Native.Nat.{ℕ, suc, ◌+◌, ◌<◌, ◌≤◌}
use native.Mathlib.Omega.{arith}
use lib.ListN.{length, take, length-append}
use lib.Seq.{take-suc}
use Rattle.std.specs.List.Retain.{RetainsInTurn}
use Rattle.pool.specs.declared.held.Pool.{Pool as Words}
use Rattle.pool.specs.Pool.{past, held_words, free_words, Released}
use Rattle.words.specs.Lists.{filter}

module _ (p : ℕ) where
  abbrev stay : List ℕ → List ℕ
  stay xs = filter (λ w. not (past p w)) xs

  abbrev go_on : List ℕ → List ℕ
  go_on xs = filter (past p) xs

  -- each stays or goes
  pub split : (xs : List ℕ) → length (stay xs) + length (go_on xs) ≡ length xs
  split [] = refl
  split (w ∷ ws) = go (past p w) (split ws)
    where
      go : (b : Bool) → length (stay ws) + length (go_on ws) ≡ length ws
          → length (cond (not b) (w ∷ stay ws) (stay ws)) + length (cond b (w ∷ go_on ws) (go_on ws)) ≡ suc (length ws)
      go true e = omega arith
      go false e = omega arith

  -- where none goes, all stay
  none_past : (xs : List ℕ) → ◌≡◌ {A = ℕ} (length (go_on xs)) 0 → stay xs ≡ xs
  none_past [] e = refl
  none_past (w ∷ ws) e = go (past p w) e (none_past ws)
    where
      go : (b : Bool) → ◌≡◌ {A = ℕ} (length (cond b (w ∷ go_on ws) (go_on ws))) 0 → (◌≡◌ {A = ℕ} (length (go_on ws)) 0 → stay ws ≡ ws)
          → cond (not b) (w ∷ stay ws) (stay ws) ≡ w ∷ ws
      go true e h = absurd (omega arith)
      go false e h = ap (λ (l : List ℕ). w ∷ l) (h e)

  -- so as many are in the pool as before
  pub as_many : (xs fs ys gs : List ℕ) → gs ≡ fs ++ go_on xs → ys ≡ stay xs → length ys + length gs ≡ length xs + length fs
  as_many xs fs ys gs gone stays =
      let n = ap length gone ∙ length-append fs (go_on xs) in
      let m = ap length stays in
      omega (arith, split xs)

  -- the words that were passed are those held
  pub went : (xs ys fs gs : List ℕ) → gs ≡ fs ++ go_on ys → ys ≡ xs → gs ≡ fs ++ go_on xs
  went xs ys fs gs gone same = gone ∙ ap (λ (l : List ℕ). fs ++ go_on l) same

  pub released_some : (a b : Words) → free_words b ≡ free_words a ++ go_on (held_words a) → held_words b ≡ stay (held_words a) → b.next ≡ a.next → Released p a b
  released_some a b free held next = record { stays = held; gone = free; counts = as_many (held_words a) (free_words a) (held_words b) (free_words b) free held; next_same = next }

  -- those held are the same where no more are free
  pub all_stay : (xs fs gs : List ℕ) → gs ≡ fs ++ go_on xs → length gs ≤ length fs → xs ≡ stay xs
  all_stay xs fs gs gone few =
      let n = ap length gone ∙ length-append fs (go_on xs) in
      sym (none_past xs (omega arith))

  -- the first i of xs were looked at, and those past went behind fs
  pub record Releasing (fs xs gs : List ℕ) (i : ℕ) : Type 0 where
    pub gone : gs ≡ fs ++ go_on (take i xs)

  pub releasing_none : (fs xs : List ℕ) → Releasing fs xs fs 0
  releasing_none fs xs = record { gone = sym (append-nil fs) }

  module _ {fs xs gs : List ℕ} {i : ℕ} (h : Releasing fs xs gs i) (lt : i < length xs) where
    -- there is room for one more
    pub releasing_room : (n : ℕ) → length xs + length fs ≤ n → length gs < n
    releasing_room n few =
        let a = ap length h.gone ∙ length-append fs (go_on (take i xs)) in
        let b = split (take i xs) in
        let c = lib.Seq.length-take-le i xs (omega arith) in
        omega arith

-- where no call changes the closure or the element, `retain` leaves what passes the test
pub kept_by : {F : Type 0} (R : F → ℕ → Bool → F → ℕ → Type 0) (test : ℕ → Bool) (f : F)
    → ((x : ℕ) (b : Bool) (g : F) (y : ℕ) → R f x b g y → (b ≡ test x) × (g ≡ f) × (y ≡ x)) → (xs ys : List ℕ) → RetainsInTurn R f xs ys → ys ≡ filter test xs
kept_by R test f says [] ys h = h
kept_by R test f says (x ∷ xs) ys h =
    let said = says x h.0 h.1 h.2 h.3 in
    let later = subst (λ g. RetainsInTurn R g xs h.4) said.1 h.5 in
    let rest = kept_by R test f says xs h.4 later in
    h.6 ∙ (λ i. cond (said.0 i) (said.2 i ∷ rest i) (rest i))
