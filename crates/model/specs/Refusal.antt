-- 01, "The call": the table of causes, cause by cause in its order and words; the sizes of the work slices, and the records
-- ("What changes shape"); and the lowest number whose cause is present. Assumes nothing.
use Rattle.std.specs.Prelude.{Bool, true, false, not, ◌&&◌, ◌||◌, cond, List, [], ◌∷◌, map, ℕ, suc, ◌+◌, ◌*◌, ◌/◌, ◌%◌, eqb, ltb, leb, get_or, length, take}
use Rattle.words.specs.Lists.{upto, any}
use Rattle.model.specs.Kinds.{Role, off, wr, rd, wr?, rd?, row, Br, CondBr, Cat, SigGather}
use Rattle.model.specs.Picture.{Picture, Inst, inst, absent, kind, form, slots, roles, is_kind, nblocks}

abbrev pub all_code : Picture → List Inst
all_code P = map (inst P.recs) (upto (length P.locs))

-- 1: over 4,096 whole block pairs, 32,768 instructions (loc words), 65,536 registers lent, 131,072 operands lent, or 65,536 words
-- of case pairs or case targets; more in use than lent
abbrev pub too_large : Picture → Bool
too_large P =
    ltb 4096 (nblocks P) || ltb 32768 (length P.locs) || ltb 65536 (length P.types) || ltb 131072 (length P.ops)
    || ltb 65536 (length P.pairs) || ltb 65536 (length P.targets) || ltb (length P.types) P.regs || ltb (length P.ops) P.opers

-- 2: records not 16 words for each loc; vias neither none nor one for each loc; odd block or case pair words
abbrev pub uneven : Picture → Bool
uneven P =
    not (eqb (length P.recs) (16 * length P.locs)) || not (eqb (length P.vias) 0 || eqb (length P.vias) (length P.locs))
    || eqb (length P.bounds % 2) 1 || eqb (length P.pairs % 2) 1

-- 3: blocks not end to end: those from `at` on do not lie so up to n
abbrev pub gaps : ℕ → ℕ → List ℕ → Bool
gaps at n [] = not (eqb at n)
gaps at n (s ∷ []) = true
gaps at n (s ∷ e ∷ bs) = not (eqb s at) || ltb e s || gaps e n bs

-- 4: kind, form or scalars (above 65,535) not allowed
abbrev pub bad_kind : Inst → Bool
bad_kind i = ltb 100 (get_or i 0 0) || ltb (form i) (row (kind i)).least || ltb (row (kind i)).most (form i) || (is_kind Cat i && ltb 65535 (get_or i 9 0))

-- 5: a slot is no register below R, or wrongly absent or present
abbrev pub bad_slot : ℕ → Role → ℕ → Bool
bad_slot R off r = not (eqb r absent)
bad_slot R wr r = leb R r
bad_slot R rd r = leb R r
bad_slot R wr? r = leb R r && not (eqb r absent)
bad_slot R rd? r = leb R r && not (eqb r absent)

abbrev pub bad_slots : ℕ → List Role → List ℕ → Bool
bad_slots R os [] = false
bad_slots R [] (r ∷ rs) = bad_slot R off r || bad_slots R [] rs
bad_slots R (o ∷ os) (r ∷ rs) = bad_slot R o r || bad_slots R os rs

-- SigGather has both or neither of its part registers
abbrev pub half_part : Inst → Bool
half_part i = is_kind SigGather i && not (eqb (get_or i 4 0) absent) && eqb (get_or i 5 0) absent || is_kind SigGather i && eqb (get_or i 4 0) absent && not (eqb (get_or i 5 0) absent)

-- 6: list on a kind without one (words 7 and 8 are then 0, 0), or past the operands in use
abbrev pub bad_list : ℕ → Inst → Bool
bad_list O i = cond (row (kind i)).list (ltb O (get_or i 7 0 + get_or i 8 0)) (not (eqb (get_or i 7 0) 0 && eqb (get_or i 8 0) 0))

-- 7: a branch target is no block; a case pair is empty or past its targets
abbrev pub bad_branch : ℕ → Inst → Bool
bad_branch B i = is_kind Br i && leb B (get_or i 9 0) || is_kind CondBr i && (leb B (get_or i 9 0) || leb B (get_or i 10 0))

abbrev pub bad_pairs : ℕ → List ℕ → Bool
bad_pairs n [] = false
bad_pairs n (s ∷ []) = false
bad_pairs n (s ∷ l ∷ ps) = eqb l 0 || ltb n (s + l) || bad_pairs n ps

-- the words of 64 and of 32 bits that the pass works in: 4×B×W+2×K, W being K/64 rounded up, and 8×K+16×B+8,000
abbrev pub work64 : Picture → ℕ
work64 P = 4 * nblocks P * ((length P.types + 63) / 64) + 2 * length P.types

abbrev pub work32 : Picture → ℕ
work32 P = 8 * length P.types + 16 * nblocks P + 8000

-- the facts that it works in: one record per position of a chain
abbrev pub records : ℕ
records = 800

-- each cause, in order, of a picture, the lengths of the two work slices and the records lent
abbrev pub causes : Picture → ℕ → ℕ → ℕ → List Bool
causes P w64 w32 nf =
    let is = all_code P in
    too_large P
    ∷ uneven P
    ∷ gaps 0 (length P.locs) P.bounds
    ∷ any bad_kind is
    ∷ any (λ i. bad_slots P.regs (roles i) (slots i) || half_part i) is
    -- 6, and: any operand in use, listed or not, not below R
    ∷ (any (bad_list P.opers) is || any (leb P.regs) (take P.opers P.ops))
    -- 7, and: any case target word, covered by a pair or not, no block
    ∷ (any (bad_branch (nblocks P)) is || any (leb (nblocks P)) P.targets || bad_pairs (length P.targets) P.pairs)
    -- 8: Cat list over 33
    ∷ any (λ i. is_kind Cat i && ltb 33 (get_or i 8 0)) is
    -- 9: a type in use above 7
    ∷ any (ltb 7) (take P.regs P.types)
    -- 10: work slices too short; fewer than 800 records is cause 10 too
    ∷ (ltb w64 (work64 P) || ltb w32 (work32 P) || ltb nf records)
    -- 11 went with request 2026-11 (specs/Results)
    ∷ []

-- the lowest number whose cause is present, counted from n; 0 where none is
abbrev pub lowest : ℕ → List Bool → ℕ
lowest n [] = 0
lowest n (true ∷ cs) = n
lowest n (false ∷ cs) = lowest (suc n) cs

abbrev pub refusal : Picture → ℕ → ℕ → ℕ → ℕ
refusal P w64 w32 nf = lowest 1 (causes P w64 w32 nf)
