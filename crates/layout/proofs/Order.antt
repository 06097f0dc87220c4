-- The parts of a picture in their order: each ends within the picture, and what is read of it. Assumes nothing.
use mathlib.Core.Path.{◌≡◌, ap, ◌∙◌}
use mathlib.Core.Bool.{true}
use mathlib.Core.List.{List, ◌++◌}
use Rattle.words.specs.Bytes.{words_of}
use lib.ListN.{length, take, drop, replicate, length-take, length-drop}
use Prim.Native.Nat.{ℕ, ◌-◌, min, ◌+◌, ◌*◌, ◌≤◌}
use native.Mathlib.Omega.{arith}
use Rattle.layout.specs.declared.Counts.{Counts}
use Rattle.layout.specs.declared.Part.{Part}
use Rattle.layout.specs.declared.Part.TheVariants.{Bounds, Recs, Locs, Vias, Types, Ops, Pairs, Targets, Replay}
use Rattle.layout.specs.Layout.{held, readable, words_in, start, at_end, room, part_of}
use Rattle.layout.proofs.Reading.{Whole, whole, part_words, words_reach, room_is, room_all}

-- how many parts lie before a part
abbrev pub rank : Part → ℕ
rank Bounds = 0
rank Recs = 1
rank Locs = 2
rank Vias = 3
rank Types = 4
rank Ops = 5
rank Pairs = 6
rank Targets = 7
rank Replay = 8

pub ends_within : (c : Counts) (p : Part) → start p c + words_in p c ≤ at_end c
ends_within c Bounds = omega arith
ends_within c Recs = omega arith
ends_within c Locs = omega arith
ends_within c Vias = omega arith
ends_within c Types = omega arith
ends_within c Ops = omega arith
ends_within c Pairs = omega arith
ends_within c Targets = omega arith
ends_within c Replay = omega arith

-- what stands where a part is read
pub part_read : (bs : List ℕ) (c : Counts) (p : Part) (n k l : ℕ) → readable bs ≡ true → c ≡ held bs → n ≡ min (words_in p c) l → k + n ≡ l
    → words_of (take (4 * n) (drop (4 * start p c) bs)) ++ replicate k 0 ≡ room l (part_of (words_of bs) p)
part_read bs c p n k l r e f g =
    let w : Whole bs = whole bs r in
    let at : ℕ = start p (held bs) in
    let m : ℕ = words_in p (held bs) in
    let fits : 4 * at + 4 * m ≤ length bs = omega (arith, w.ends, ends_within (held bs) p) in
    let f : n ≡ min m l = rw e at f in
    let z : k ≡ l - min m l = omega arith in
    rw (e, f, z) (ap (λ (t : List ℕ). t ++ replicate (l - min m l) 0) (part_words bs at (min m l) (omega arith)) ∙ room_is (words_of bs) at m l (words_reach bs (at + m) (omega arith)))

-- where there is room for just the part, that is what is read
pub part_all : (bs : List ℕ) (p : Part) → readable bs ≡ true → room (words_in p (held bs)) (part_of (words_of bs) p) ≡ part_of (words_of bs) p
part_all bs p r =
    let w : Whole bs = whole bs r in
    let at : ℕ = start p (held bs) in
    let m : ℕ = words_in p (held bs) in
    let fits : 4 * at + 4 * m ≤ length bs = omega (arith, w.ends, ends_within (held bs) p) in
    room_all m (part_of (words_of bs) p) (simp (length-take, length-drop) (omega (arith, words_reach bs (at + m) (omega arith))))
