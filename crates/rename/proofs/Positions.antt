-- A position's words as a value: what is said of the one is said of the other. Assumes nothing.
use Rattle.std.specs.Prelude.{Option, Some, None}
use mathlib.Core.Path.{◌≡◌, refl, sym, subst}
use mathlib.Core.Bool.{Bool}
use mathlib.Core.List.{List}
use Prim.Native.Nat.{ℕ, ◌≤◌, ◌<◌}
use native.Mathlib.Omega.{arith}
use Rattle.model.specs.Picture.{absent}
use Rattle.inst.specs.Index.{word_of, Among}
use Rattle.inst.specs.declared.index.Reg.{Reg}
use Rattle.pool.specs.Pool.{wrote_at, new_at}
use Rattle.inst.proofs.Indices.{among_made, word_made}
use Rattle.rename.specs.Runs.{Parted, Pass, Passed, marked, goes}
use Rattle.rename.specs.Counts.{Counted}

pub among_ok : (count : ℕ) (d : Option Reg) → Among count d → (word_of d ≡ absent → ⊥) → word_of d < count
among_ok count (Some k) a f = a.0
among_ok count None a f = absurd (f refl)

module _ {p count mark new : ℕ} {w : List ℕ} {def : Option Reg} (k : Parted w p count mark def new) where
  pub part_among : count ≤ absent → Among count def
  part_among few = among_made (wrote_at w p) count k.def_is refl count few (omega arith)

  module _ (ok : (wrote_at w p ≡ absent → ⊥) → wrote_at w p < count) where
    word : word_of def ≡ wrote_at w p
    word = word_made (wrote_at w p) count k.def_is refl ok

    from_words : (F : Bool → ℕ → ℕ → Type 0) → F (goes w p) (wrote_at w p) (new_at w p) → F (marked mark) (word_of def) new
    from_words F h =
        subst (λ (x : Bool). F x (word_of def) new) (sym k.goes_is)
        (subst (λ (x : ℕ). F (goes w p) x new) (sym word) (subst (F (goes w p) (wrote_at w p)) (sym k.new_is) h))

    to_words : (F : Bool → ℕ → ℕ → Type 0) → F (marked mark) (word_of def) new → F (goes w p) (wrote_at w p) (new_at w p)
    to_words F h =
        subst (λ (x : Bool). F x (wrote_at w p) (new_at w p)) k.goes_is
        (subst (λ (x : ℕ). F (marked mark) x (new_at w p)) word (subst (F (marked mark) (word_of def)) k.new_is h))

    pub pass_part : {q u o : ℕ} {ws xs ops : List ℕ} → Pass q u o ws (goes w p) (wrote_at w p) (new_at w p) xs ops → Pass q u o ws (marked mark) (word_of def) new xs ops
    pass_part {q} {u} {o} {ws} {xs} {ops} h = from_words (λ a b c. Pass q u o ws a b c xs ops) h

    pub passed_part : {q o r : ℕ} {ws vs xs ys ops ops' : List ℕ} → Passed q o (marked mark) (word_of def) new ws vs xs ys ops ops' r → Passed q o (goes w p) (wrote_at w p) (new_at w p) ws vs xs ys ops ops' r
    passed_part {q} {o} {r} {ws} {vs} {xs} {ys} {ops} {ops'} h = to_words (λ a b c. Passed q o a b c ws vs xs ys ops ops' r) h

    pub counted_part : {q r : ℕ} {ws vs xs ops : List ℕ} → Counted q (marked mark) (word_of def) new ws vs xs ops r → Counted q (goes w p) (wrote_at w p) (new_at w p) ws vs xs ops r
    counted_part {q} {r} {ws} {vs} {xs} {ops} h = to_words (λ a b c. Counted q a b c ws vs xs ops r) h
