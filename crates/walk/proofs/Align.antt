-- From the rules to the scan, 2: the straight code of a chain runs along the code of its blocks. So the scan over blocks comes to the locations
-- by position, and what is written has a position. Assumes nothing.
use mathlib.Core.Path.{◌≡◌, refl, sym, ◌∙◌, ap, subst}
use mathlib.Core.Bool.{Bool, true, false, cond}
use mathlib.Core.List.{List, [], ◌∷◌, ◌++◌, append-nil}
use mathlib.Core.Logic.{⊎_elim}
use Prim.Native.Nat.{ℕ, suc, ◌+◌, ◌≤◌, ◌<◌}
use native.Mathlib.Omega.{arith}
use lib.ListN.{length, get_or}
use Rattle.words.specs.Lists.{In}
use Rattle.words.proofs.Members.{in_split}
use Rattle.walk.specs.Machine.{Instr, Prog, no_instr}
use Rattle.walk.specs.Rules.{written_by, without_last, straight_code, LastQuiet, Quiet, stays}
use Rattle.walk.proofs.Facts.{none_in, Rest, rest_next, rest_behind, rest_at, rest_length}
use Rattle.walk.proofs.Scan.{Marked, kept, moved, after_code, scan, all_of, kept_of, written_along}
use Rattle.walk.proofs.ScanLaws.{after_none}
use Rattle.walk.proofs.Definers.{locations_at, locations_next}

-- code along positions of S: what is left out reads and writes nothing
pub data Align (S : List Instr) : ℕ → List Instr → ℕ → Type 0 where
  align_end : {q : ℕ} → Align S q [] q
  align_take : {q q' : ℕ} {i : Instr} {c : List Instr} → q < length S → get_or S q no_instr ≡ i → Align S (suc q) c q' → Align S q (i ∷ c) q'
  align_skip : {q q' : ℕ} {i : Instr} {c : List Instr} → i.reads ≡ [] → i.writes ≡ [] → Align S q c q' → Align S q (i ∷ c) q'

-- x's code, where only the last may be left out, and is no member
pub data AlignFirst (S : List Instr) (mark : ℕ → Bool) : ℕ → List Instr → ℕ → Type 0 where
  first_end : {q : ℕ} → AlignFirst S mark q [] q
  first_take : {q q' : ℕ} {i : Instr} {c : List Instr} → q < length S → get_or S q no_instr ≡ i → AlignFirst S mark (suc q) c q' → AlignFirst S mark q (i ∷ c) q'
  first_last : {q : ℕ} {i : Instr} → i.reads ≡ [] → i.writes ≡ [] → mark q ≡ false → AlignFirst S mark q (i ∷ []) q

-- the chain's blocks
abbrev pub AlignChain : Prog → List Instr → ℕ → List ℕ → ℕ → Type 0
AlignChain P S q [] q' = q ≡ q'
AlignChain P S q (b ∷ bs) q' = (m : ℕ) × Align S q (P b) m × AlignChain P S m bs q'

pub align_of : {S : List Instr} {mark : ℕ → Bool} {q q' : ℕ} {c : List Instr} → AlignFirst S mark q c q' → Align S q c q'
align_of first_end = align_end
align_of (first_take h e f) = align_take h e (align_of f)
align_of (first_last r w m) = align_skip r w align_end

pub align_le : {S : List Instr} {q q' : ℕ} {c : List Instr} → Align S q c q' → q ≤ q'
align_le align_end = omega arith
align_le (align_take h e f) = let z = align_le f in omega arith
align_le (align_skip r w f) = align_le f

-- x's code with marks
abbrev pub mark_one : Bool → ℕ → Instr → Marked
mark_one true f i = moved f i
mark_one false f i = kept i

abbrev pub mark_code : (ℕ → Bool) → (ℕ → ℕ) → ℕ → List Instr → List Marked
mark_code mark new_reg q [] = []
mark_code mark new_reg q (i ∷ c) = mark_one (mark q) (new_reg q) i ∷ mark_code mark new_reg (suc q) c

pub all_of_mark : (mark : ℕ → Bool) (new_reg : ℕ → ℕ) (q : ℕ) (c : List Instr) → all_of (mark_code mark new_reg q c) ≡ c
all_of_mark mark new_reg q [] = refl
all_of_mark mark new_reg q (i ∷ c) = go (mark q) ∙ ap (λ z. i ∷ z) (all_of_mark mark new_reg (suc q) c)
  where
    go : (b : Bool) → all_of (mark_one b (new_reg q) i ∷ mark_code mark new_reg (suc q) c) ≡ i ∷ all_of (mark_code mark new_reg (suc q) c)
    go true = refl
    go false = refl

pub kept_of_mark : (mark : ℕ → Bool) (new_reg : ℕ → ℕ) (q : ℕ) (c : List Instr) → kept_of (mark_code mark new_reg q c) ≡ stays mark q c
kept_of_mark mark new_reg q [] = refl
kept_of_mark mark new_reg q (i ∷ c) = go (mark q) (kept_of_mark mark new_reg (suc q) c)
  where
    go : (b : Bool) → kept_of (mark_code mark new_reg (suc q) c) ≡ stays mark (suc q) c
        → kept_of (mark_one b (new_reg q) i ∷ mark_code mark new_reg (suc q) c) ≡ cond b (stays mark (suc q) c) (i ∷ stays mark (suc q) c)
    go true e = e
    go false e = ap (λ z. i ∷ z) e

-- the scan over x comes to the locations by position
pub scan_locations : (S : List Instr) (mark : ℕ → Bool) (new_reg : ℕ → ℕ) (l : ℕ → Bool) {q q' : ℕ} {c : List Instr} → AlignFirst S mark q c q'
    → scan (locations_at S mark new_reg l q) (mark_code mark new_reg q c) ≡ locations_at S mark new_reg l q'
scan_locations S mark new_reg l first_end = refl
scan_locations S mark new_reg l (first_take {q = q} {i = i} {c = c} h e f) = go (mark q) refl ∙ scan_locations S mark new_reg l f
  where
    go : (b : Bool) → mark q ≡ b → scan (locations_at S mark new_reg l q) (mark_one b (new_reg q) i ∷ mark_code mark new_reg (suc q) c) ≡ scan (locations_at S mark new_reg l (suc q)) (mark_code mark new_reg (suc q) c)
    go true m = ap (λ z. scan z (mark_code mark new_reg (suc q) c)) (sym (locations_next S mark new_reg l q i true e m))
    go false m = ap (λ z. scan z (mark_code mark new_reg (suc q) c)) (sym (locations_next S mark new_reg l q i false e m))
scan_locations S mark new_reg l (first_last {q = q} {i = i} r w m) =
    ap (λ b. scan (locations_at S mark new_reg l q) (mark_one b (new_reg q) i ∷ [])) m ∙ after_none (locations_at S mark new_reg l q) i.writes w

-- so does kept code
pub code_locations : (S : List Instr) (mark : ℕ → Bool) (new_reg : ℕ → ℕ) (l : ℕ → Bool) {q q' : ℕ} {c : List Instr} → Align S q c q' → ((p : ℕ) → q ≤ p → mark p ≡ false)
    → after_code (locations_at S mark new_reg l q) c ≡ locations_at S mark new_reg l q'
code_locations S mark new_reg l align_end m = refl
code_locations S mark new_reg l (align_take {q = q} {i = i} {c = c} h e f) m =
    ap (λ z. after_code z c) (sym (locations_next S mark new_reg l q i false e (m q (omega arith)))) ∙ code_locations S mark new_reg l f (λ p h. m p (omega arith))
code_locations S mark new_reg l (align_skip {q = q} {i = i} {c = c} r w f) m =
    ap (λ z. after_code z c) (after_none (locations_at S mark new_reg l q) i.writes w) ∙ code_locations S mark new_reg l f m

-- ---- what is written has a position
abbrev WrittenFrom : List Instr → ℕ → ℕ → Type 0
WrittenFrom S q r = (p : ℕ) × (q ≤ p) × (p < length S) × In r (get_or S p no_instr).writes

-- by kept code
abbrev pub KeptFrom : List Instr → (ℕ → Bool) → ℕ → ℕ → Type 0
KeptFrom S mark q r = (p : ℕ) × (q ≤ p) × (p < length S) × (mark p ≡ false) × In r (get_or S p no_instr).writes

pub written_by-later : (S : List Instr) (r : ℕ) {q q' : ℕ} {c : List Instr} → Align S q c q' → In r (written_by c) → WrittenFrom S q r
written_by-later S r align_end h = absurd h
written_by-later S r (align_take {q = q} {i = i} {c = c} lt e f) h = ⊎_elim
    (λ z. (q, omega arith, lt, subst (λ y. In r y.writes) (sym e) z))
    (λ z. let k = written_by-later S r f z in (k.0, (let y = k.1 in omega arith), k.2, k.3))
    (in_split r i.writes (written_by c) h)
written_by-later S r (align_skip {i = i} {c = c} rr ww f) h = ⊎_elim (λ z. absurd (none_in i.writes r ww z)) (λ z. written_by-later S r f z) (in_split r i.writes (written_by c) h)

pub written_along_later : (P : Prog) (S : List Instr) (r q q' : ℕ) (bs : List ℕ) → AlignChain P S q bs q' → In r (written_along P bs) → WrittenFrom S q r
written_along_later P S r q q' [] al h = absurd h
written_along_later P S r q q' (b ∷ bs) al h = ⊎_elim
    (λ z. written_by-later S r al.1 z)
    (λ z. let k = written_along_later P S r al.0 q' bs al.2 z in (k.0, (let y = k.1 in let v = align_le al.1 in omega arith), k.2, k.3))
    (in_split r (written_by (P b)) (written_along P bs) h)

pub kept_of_later : (S : List Instr) (mark : ℕ → Bool) (new_reg : ℕ → ℕ) (r : ℕ) {q q' : ℕ} {c : List Instr} → AlignFirst S mark q c q'
    → In r (written_by (kept_of (mark_code mark new_reg q c)))
    → KeptFrom S mark q r
kept_of_later S mark new_reg r first_end h = absurd h
kept_of_later S mark new_reg r (first_take {q = q} {i = i} {c = c} lt e f) h = go (λ z. kept_of_later S mark new_reg r f z) (mark q) refl h
  where
    Rec : Type 0
    Rec = In r (written_by (kept_of (mark_code mark new_reg (suc q) c))) → KeptFrom S mark (suc q) r

    later : Rec → In r (written_by (kept_of (mark_code mark new_reg (suc q) c))) → KeptFrom S mark q r
    later rec z = let k = rec z in (k.0, (let y = k.1 in omega arith), k.2, k.3, k.4)

    go : Rec → (b : Bool) → mark q ≡ b → In r (written_by (kept_of (mark_one b (new_reg q) i ∷ mark_code mark new_reg (suc q) c))) → KeptFrom S mark q r
    go rec true m z = later rec z
    go rec false m z = ⊎_elim
        (λ y. (q, omega arith, lt, m, subst (λ v. In r v.writes) (sym e) y))
        (later rec)
        (in_split r i.writes (written_by (kept_of (mark_code mark new_reg (suc q) c))) z)
kept_of_later S mark new_reg r (first_last {q = q} {i = i} rr ww m) h =
    absurd (⊎_elim (λ z. none_in i.writes r ww z) (λ z. z) (in_split r i.writes [] (subst (λ b. In r (written_by (kept_of (mark_one b (new_reg q) i ∷ [])))) m h)))

-- ---- the straight code runs along the blocks

align_whole : (S : List Instr) (mark : ℕ → Bool) (c post : List Instr) (q : ℕ) → Rest S q (c ++ post) → AlignFirst S mark q c (q + length c)
align_whole S mark [] post q e = subst (λ z. AlignFirst S mark q [] z) (omega arith) first_end
align_whole S mark (i ∷ c) post q e = first_take {q = q} {q' = q + length (i ∷ c)} (omega (arith, rest_length e)) (rest_at no_instr e)
    (subst (λ z. AlignFirst S mark (suc q) c z) (omega arith) (align_whole S mark c post (suc q) (rest_next e)))

align_body : (S : List Instr) (mark : ℕ → Bool) (c post : List Instr) (q : ℕ) → Rest S q (without_last c ++ post) → LastQuiet c
    → mark (q + length (without_last c)) ≡ false → AlignFirst S mark q c (q + length (without_last c))
align_body S mark [] post q e qu m = subst (λ z. AlignFirst S mark q [] z) (omega arith) first_end
align_body S mark (i ∷ []) post q e qu m = subst (λ z. AlignFirst S mark q (i ∷ []) z) (omega arith) (first_last qu.0 qu.1 (subst (λ z. mark z ≡ false) (omega arith) m))
align_body S mark (i ∷ j ∷ c) post q e qu m = first_take {q = q} {q' = q + length (without_last (i ∷ j ∷ c))} (omega (arith, rest_length e)) (rest_at no_instr e)
    (subst (λ z. AlignFirst S mark (suc q) (j ∷ c) z) (omega arith) (align_body S mark (j ∷ c) post (suc q) (rest_next e) qu (subst (λ z. mark z ≡ false) (omega arith) m)))

-- the first block's members end before m, and the rest of the chain goes on there
pub align_straight : (P : Prog) (S : List Instr) (mark : ℕ → Bool) (b : ℕ) (bs : List ℕ) (q : ℕ) → Rest S q (straight_code P b bs) → Quiet P b bs
    → ((p : ℕ) → q + length (without_last (P b)) ≤ p → mark p ≡ false)
    → (m : ℕ) × AlignFirst S mark q (P b) m × AlignChain P S m bs (length S) × (q + length (without_last (P b)) ≤ m)
align_straight P S mark b [] q e qu mk =
    (q + length (P b), align_whole S mark (P b) [] q (subst (Rest S q) (sym (append-nil (P b))) e), sym (rest_length e), shorter (P b))
  where
    shorter : (c : List Instr) → q + length (without_last c) ≤ q + length c
    shorter [] = omega arith
    shorter (i ∷ []) = omega arith
    shorter (i ∷ j ∷ c) = let z = shorter (j ∷ c) in omega arith
align_straight P S mark b (c ∷ cs) q e qu mk =
    let r = align_straight P S mark c cs (q + length (without_last (P b))) (rest_behind (without_last (P b)) (straight_code P c cs) e) qu.1 (λ p h. mk p (omega arith)) in
    (q + length (without_last (P b)), align_body S mark (P b) (straight_code P c cs) q e qu.0 (mk (q + length (without_last (P b))) (omega arith)), (r.0, align_of r.1, r.2), omega arith)
