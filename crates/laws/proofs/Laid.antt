-- A picture whose blocks are laid end to end has that code: the flat words against a list of blocks. Assumes nothing.
use mathlib.Core.Path.{◌≡◌, refl, ap, ap₂, ◌∙◌}
use mathlib.Core.List.{List, [], ◌∷◌, ◌++◌, map}
use Prim.Native.Nat.{ℕ, zero, suc, ◌+◌, ◌-◌, ◌*◌, ◌<◌}
use native.Mathlib.Nat.{not-suc-le-zero, le_of_suc-le-suc, zero-add, mul-suc, mul-zero, add-sub_cancel_left}
use native.Mathlib.Omega.{arith}
use lib.ListN.{get_or, length, take, drop}
use lib.Seq.{take_at, drop-append-add}
use Rattle.words.specs.Lists.{range, concat, spans}
use Rattle.words.proofs.Lists.{made_part, spans_start, spans_end, span_part, span_fits}
use Rattle.words.proofs.Each.{Each}
use Rattle.model.specs.Picture.{Picture, Inst, inst, places, code}

-- every record has 16 words
abbrev pub Whole : List Inst → Type 0
Whole is = Each (λ i. length i ≡ 16) is

-- ---- records

drop_16 : (p : ℕ) (i : Inst) (ws : List ℕ) → length i ≡ 16 → drop (16 * suc p) (i ++ ws) ≡ drop (16 * p) ws
drop_16 p i ws e =
    ap (λ (n : ℕ). drop n (i ++ ws)) (mul-suc 16 p ∙ shift) ∙ drop-append-add i ws (16 * p)
  where
    shift : 16 * p + 16 ≡ length i + 16 * p
    shift = omega arith

-- record p of the records laid end to end
pub inst_laid : (is : List Inst) → Whole is → (p : ℕ) → p < length is → inst (concat is) p ≡ get_or is p []
inst_laid [] w p h = absurd (not-suc-le-zero h)
inst_laid (i ∷ is) w zero h = ap (λ (n : ℕ). take 16 (drop n (i ++ concat is))) (mul-zero 16) ∙ take_at i (concat is) 16 w.0
inst_laid (i ∷ is) w (suc p) h = ap (take 16) (drop_16 p i (concat is) w.0) ∙ inst_laid is w.1 p (le_of_suc-le-suc h)

-- ---- blocks

pub code_laid : (Q : Picture) (cs : List (List Inst)) → Q.bounds ≡ spans 0 cs → Q.recs ≡ concat (concat cs) → Whole (concat cs) → (b : ℕ) → b < length cs → code Q b ≡ get_or cs b []
code_laid Q cs e f w b h =
    let s = length (concat (take b cs)) in
    let n = length (get_or cs b []) in
    ap₂ (λ (x y : ℕ). map (inst Q.recs) (range x (y - x))) (ap (λ (l : List ℕ). get_or l (2 * b) 0) e ∙ spans_start cs 0 b h ∙ zero-add s)
    (ap (λ (l : List ℕ). get_or l (2 * b + 1) 0) e ∙ spans_end cs 0 b h ∙ ap (λ (x : ℕ). x + n) (zero-add s))
    ∙ ap (λ (k : ℕ). map (inst Q.recs) (range s k)) (add-sub_cancel_left s n)
    ∙ ap (λ (l : List ℕ). map (inst l) (range s n)) f
    ∙ made_part (inst (concat (concat cs))) [] (concat cs) (inst_laid (concat cs) w) n s (span_fits cs b h)
    ∙ span_part cs b h

-- and the places of a list of blocks of places, laid the same
pub places_laid : (Q : Picture) (os : List (List ℕ)) → Q.bounds ≡ spans 0 os → (b : ℕ) → b < length os → map (λ p. get_or (concat os) p 0) (places Q b) ≡ get_or os b []
places_laid Q os e b h =
    let s = length (concat (take b os)) in
    let n = length (get_or os b []) in
    ap₂ (λ (x y : ℕ). map (λ p. get_or (concat os) p 0) (range x (y - x))) (ap (λ (l : List ℕ). get_or l (2 * b) 0) e ∙ spans_start os 0 b h ∙ zero-add s)
    (ap (λ (l : List ℕ). get_or l (2 * b + 1) 0) e ∙ spans_end os 0 b h ∙ ap (λ (x : ℕ). x + n) (zero-add s))
    ∙ ap (λ (k : ℕ). map (λ p. get_or (concat os) p 0) (range s k)) (add-sub_cancel_left s n)
    ∙ made_part (λ p. get_or (concat os) p 0) 0 (concat os) (λ p l. refl) n s (span_fits os b h)
    ∙ span_part os b h
