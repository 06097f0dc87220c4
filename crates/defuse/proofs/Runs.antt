-- The loops of sets.rt: one register, one instruction after the other. Assumes nothing.
use Rattle.std.specs.Prelude.{Option, Some, None}
use mathlib.Core.Path.{◌≡◌, sym, ap, ◌∙◌}
use mathlib.Core.Bool.{Bool}
use mathlib.Core.List.{List, ◌++◌, map}
use Prim.Native.Nat.{ℕ, suc, ◌+◌, ◌-◌, ◌*◌, ◌≤◌, ◌<◌}
use native.Mathlib.Nat.{le_antisymm}
use native.Mathlib.Omega.{arith}
use lib.ListN.{length}
use borrow.Author.Tests.{lt-ltb}
use Rattle.words.specs.Bits.{set_bit, unset_bit}
use Rattle.words.specs.Lists.{range}
use Rattle.model.specs.Picture.{Inst, inst, reads, writes}
use Rattle.inst.specs.Record.{Within, read_at, write_at, rest_reads, rest_writes}
use Rattle.inst.specs.Index.{reg_of, pick, one, Low}
use Rattle.inst.specs.declared.index.Reg.{Reg}
use Rattle.inst.proofs.Gathered.{read_next, write_next}
use Rattle.defuse.specs.Sets.{put, wrote, before, run, Code}
use Rattle.words.specs.Steps.{steps}
use Rattle.words.proofs.Steps.{steps_append, steps_on}

-- ---- one register

pub none_held : (f : List ℕ → ℕ → List ℕ) (l : List ℕ) {r : Option Reg} → r ≡ None → l ≡ steps f l (one r)
unfolding steps
none_held f l e = sym (ap (λ (x : Option Reg). steps f l (one x)) e)

pub one_held : (f : List ℕ → ℕ → List ℕ) (l : List ℕ) {r : Option Reg} {k : Reg} → r ≡ Some k → f l k.0 ≡ steps f l (one r)
unfolding steps
one_held f l e = sym (ap (λ (x : Option Reg). steps f l (one x)) e)

pub one_written : (u d q : ℕ) (l : List ℕ) {r : Option Reg} {x : Reg} {k m : List ℕ} → r ≡ Some x → q ≡ x.0 → k ≡ unset_bit l (64 * u + q) → m ≡ set_bit k (64 * d + q) → m ≡ steps (wrote u d) l (one r)
one_written u d q l g e p h =
    h ∙ ap (λ (t : List ℕ). set_bit t (64 * d + q)) p ∙ ap (wrote u d l) e ∙ one_held (wrote u d) l g

pub one_read : (u q : ℕ) (l : List ℕ) {r : Option Reg} {x : Reg} {m : List ℕ} → r ≡ Some x → q ≡ x.0 → m ≡ set_bit l (64 * u + q) → m ≡ steps (put u) l (one r)
one_read u q l g e h = h ∙ ap (put u l) e ∙ one_held (put u) l g

-- a register's word, by its range test
pub step_here : (f : List ℕ → ℕ → List ℕ) (n c : ℕ) {r : Option Reg} {l m : List ℕ} → n < c → r ≡ reg_of n c → m ≡ steps f l (one r) → m ≡ f l n
unfolding reg_of steps
step_here f n c {r} {l} h e q =
    q ∙ ap (λ (x : Option Reg). steps f l (one x)) (e ∙ ap (λ (b : Bool). pick b (record { 0 = n })) (lt-ltb n c h))

-- one slot done, the others left
pub read_on : {recs : List ℕ} {p c s : ℕ} (u : ℕ) → Within recs p → Low c (rest_reads (inst recs p) 0) → s < 5 → (r : Option Reg) (l m : List ℕ) {e : List ℕ} → r ≡ reg_of (read_at (inst recs p) s) c → m ≡ steps (put u) l (one r)
    → steps (put u) l (rest_reads (inst recs p) s) ≡ e → steps (put u) m (rest_reads (inst recs p) (s + 1)) ≡ e
read_on {recs} {p} {c} {s} u w low h r l m e q = steps_on (put u) (one r) (rest_reads (inst recs p) (s + 1)) (rest_reads (inst recs p) s) l (read_next recs p w h low e) q

-- whatever is done with what is written
pub write_on : {recs : List ℕ} {p c s : ℕ} (f : List ℕ → ℕ → List ℕ) → Within recs p → Low c (writes (inst recs p)) → s < 5 → (r : Option Reg) (l m : List ℕ) {e : List ℕ} → r ≡ reg_of (write_at (inst recs p) s) c → m ≡ steps f l (one r)
    → steps f l (rest_writes (inst recs p) s) ≡ e → steps f m (rest_writes (inst recs p) (s + 1)) ≡ e
write_on {recs} {p} {c} {s} f w low h r l m e q = steps_on f (one r) (rest_writes (inst recs p) (s + 1)) (rest_writes (inst recs p) s) l (write_next recs p w h low e) q

-- ---- one instruction

pub all_before : (ops : List ℕ) (u d : ℕ) (i : Inst) (xs ys l₀ : List ℕ) {l₁ l₂ l₃ : List ℕ} → xs ++ ys ≡ reads ops i
    → l₁ ≡ steps (wrote u d) l₀ (writes i) → l₂ ≡ steps (put u) l₁ xs → l₃ ≡ steps (put u) l₂ ys → l₃ ≡ before ops u d l₀ i
unfolding before
all_before ops u d i xs ys l₀ {l₁} e p q h =
    h ∙ ap (λ (t : List ℕ). steps (put u) t ys) q ∙ sym (steps_append (put u) l₁ xs ys) ∙ ap (steps (put u) l₁) e ∙ ap (λ (t : List ℕ). steps (put u) t (reads ops i)) p

module _ {recs ops : List ℕ} {c : ℕ} (g : Code recs ops c) (p : ℕ) (h : 16 * p + 16 ≤ length recs) where
  pub read_low : Low c (reads ops (inst recs p))
  read_low = record { few = g.few; each = λ q. g.read p q h }

  pub written_low : Low c (writes (inst recs p))
  written_low = record { few = g.few; each = λ q. g.written p q h }

-- ---- a run of them, from the last on

module _ (recs ops : List ℕ) (u d : ℕ) (l₀ : List ℕ) where
  abbrev from : ℕ → ℕ → List ℕ
  from p n = run ops u d l₀ (map (inst recs) (range p n))

  pub run_none : (hi : ℕ) → l₀ ≡ from hi (hi - hi)
  unfolding run
  run_none hi = let z : hi - hi ≡ 0 = omega arith in sym (ap (from hi) z)

  pub run_more : (lo hi p : ℕ) {l m : List ℕ} → lo < p → p ≤ hi → l ≡ from p (hi - p) → m ≡ before ops u d l (inst recs (p - 1)) → m ≡ from (p - 1) (hi - (p - 1))
  unfolding run
  run_more lo hi p a h e q =
      let n : suc (hi - p) ≡ hi - (p - 1) = omega arith in
      let k : p ≡ suc (p - 1) = omega arith in
      q ∙ ap (λ (t : List ℕ). before ops u d t (inst recs (p - 1))) (e ∙ ap (λ (x : ℕ). from x (hi - p)) k) ∙ ap (from (p - 1)) n

  pub run_all : (lo hi p : ℕ) {l : List ℕ} → lo ≤ p → p ≤ lo → l ≡ from p (hi - p) → l ≡ from lo (hi - lo)
  run_all lo hi p a b e = e ∙ ap (λ (x : ℕ). from x (hi - x)) (le_antisymm b a)
