-- What the call begins with (01, "A round"): acceptance gives what the search for facts, predecessors and rows asks, and the words
-- that it leaves stand for them. Assumes nothing.
use mathlib.Core.Path.{◌≡◌, sym, ap, ap₂, ◌∙◌, subst}
use mathlib.Core.List.{List, [], ◌∷◌, ◌++◌, map}
use Prim.Native.Nat.{ℕ, ◌+◌, ◌-◌, ◌*◌, ◌/◌, ◌≤◌, ◌<◌}
use native.Mathlib.Nat.{le_refl, le_of_eq}
use native.Mathlib.Omega.{arith}
use borrow.Author.Tests.{ne_eqb}
use borrow.Rule.Slice.PartMut.{put_mid, mid_len, same_len_mid}
use lib.Dec.{eqb}
use lib.ListN.{length, take, drop, length-map, length-append, length-drop, replicate, length-replicate}
use Rattle.std.proofs.lemmas.List.{take-append-le}
use Rattle.std.proofs.Math.Seq.{take-append_seam, drop-append_seam}
use Rattle.words.specs.Bits.{width}
use Rattle.words.specs.Lists.{upto, concat}
use Rattle.words.proofs.Lists.{length_range, front_same}
use Rattle.words.proofs.Parts.{put_part}
use Rattle.model.specs.Picture.{Picture, nblocks, places, callers}
use Rattle.model.specs.Refusal.{records, refusal}
use Rattle.model.specs.Analyse.{facts}
use Rattle.laws.proofs.Accepted.{Accepted, accepted, work_room}
use Rattle.laws.proofs.Sizes as S
use Rattle.laws.proofs.Blocks.{all_places}
use Rattle.cfg.specs.Drawn.{drawn}
use Rattle.cfg.specs.Graph.{Blocks}
use Rattle.defuse.specs.Sets.{Code}
use Rattle.defuse.specs.Writers.{notes}
use Rattle.defuse.proofs.Noted.{length_notes}
use Rattle.flow.specs.Live.{RowRoom, Rows}
use Rattle.cfg.specs.Preds as F
use Rattle.cfg.specs.Preds.{many, first}
use Rattle.flow.proofs.Accepted.{blocks_given, code_given}
use Rattle.flow.proofs.Standing.{rows_same}
use Rattle.flow.proofs.Whole.{callers_whole}
use Rattle.chains.specs.Chain as C
use Rattle.regfacts.specs.Flags.{Found, Seen}
use Rattle.analyse.proofs.Accepted.{seen_given}
use Rattle.sizes.specs.declared.Sizes.{Sizes}
use Rattle.sizes.specs.Parts.{regs_at}
use Rattle.words.specs.Bits.{width}
use Rattle.chainwords.specs.Work.{at_regs}
use Rattle.chainwords.proofs.Standing.{SameRows, same_rows, firsts_before, rows_room, all_room, rows_of}
use Rattle.search.specs.Search.{Beginning, Began}

-- ---- sizes

pub record Rooms (b lent insts w64 w32 : ℕ) : Type 0 where
  pub few_blocks : b ≤ 4096
  pub few_lent : lent ≤ 65536
  pub few_insts : insts ≤ 32768
  pub room64 : 4 * b * width lent + 2 * lent ≤ w64
  pub room32 : 8 * lent + 16 * b + 8000 ≤ w32

pub rooms_of : (P : Picture) (w64 w32 : ℕ) → refusal P w64 w32 records ≡ 0 → Rooms (nblocks P) (length P.types) (length P.locs) w64 w32
rooms_of P w64 w32 r =
    let ok = accepted P w64 w32 records r in
    let b = S.few_blocks P ok in
    let k = S.few_types P ok in
    record {
      few_blocks = b;
      few_lent = k;
      few_insts = S.few_insts P ok;
      room64 = (work_room P w64 w32 records r).0;
      room32 = (work_room P w64 w32 records r).1;
    }

pub rooms_at : (P : Picture) (w64 w32 : ℕ) → refusal P w64 w32 records ≡ 0 → {b lent insts : ℕ} → b ≡ nblocks P → lent ≡ length P.types → insts ≡ length P.locs → Rooms b lent insts w64 w32
rooms_at P w64 w32 r {b} {lent} {insts} e f g =
    subst (λ (z : ℕ). Rooms z lent insts w64 w32) (sym e)
    (subst (λ (z : ℕ). Rooms (nblocks P) z insts w64 w32) (sym f)
    (subst (λ (z : ℕ). Rooms (nblocks P) (length P.types) z w64 w32) (sym g) (rooms_of P w64 w32 r)))

-- ---- predecessors

count_one : (ps : List ℕ) {k : ℕ} → k ≡ many ps → eqb k 1 ≡ eqb (length ps) 1
count_one [] e = ap (λ (n : ℕ). eqb n 1) e
count_one (x ∷ []) e = ap (λ (n : ℕ). eqb n 1) e
count_one (x ∷ y ∷ l) e = ap (λ (n : ℕ). eqb n 1) e ∙ sym (ne_eqb (length (x ∷ y ∷ l)) 1 (λ q. omega arith))

only : (ps : List ℕ) {w : ℕ} → w ≡ first ps → length ps ≡ 1 → ps ≡ w ∷ []
only [] e h = absurd (omega arith)
only (x ∷ []) e h = ap (λ (z : ℕ). z ∷ []) (sym e)
only (x ∷ y ∷ l) e h = absurd (omega arith)

pub preds_from : (P : Picture) {words : List ℕ} → F.Preds P words → C.Preds P words (nblocks P)
preds_from P f = record { count = λ b h. count_one (callers P b) (f.told b h).count; sole = λ b h e. only (callers P b) (f.told b h).which e }

preds_at : (P : Picture) {bounds recs pairs targets words : List ℕ} → P.bounds ≡ bounds → P.recs ≡ recs → P.pairs ≡ pairs → P.targets ≡ targets
    → F.Preds (drawn bounds recs [] pairs targets) words → F.Preds P words
preds_at P {bounds} {recs} {pairs} {targets} {words} e f g h z =
    let y : F.Preds (drawn P.bounds P.recs [] P.pairs P.targets) words =
    subst (λ (l : List ℕ). F.Preds (drawn l P.recs [] P.pairs P.targets) words) (sym e)
    (subst (λ (l : List ℕ). F.Preds (drawn bounds l [] P.pairs P.targets) words) (sym f)
    (subst (λ (l : List ℕ). F.Preds (drawn bounds recs [] l P.targets) words) (sym g)
    (subst (λ (l : List ℕ). F.Preds (drawn bounds recs [] pairs l) words) (sym h) z))) in
    record { told = λ b u. subst (F.Told words b) (callers_whole P [] b) (y.told b u) }

-- ---- the rows

-- what `flow` asks to make rows of R registers
abbrev pub RowsAsk : List ℕ → List ℕ → List ℕ → ℕ → List ℕ → Type 0
RowsAsk bounds recs ops R bits = Blocks bounds recs × Code recs ops R × RowRoom (length bounds / 2) (width R) bits × (4 * (length bounds / 2) * width R ≤ length bits)

pub rows_asked : (P : Picture) (w32 : ℕ) {bounds recs ops : List ℕ} {R : ℕ} (bits : List ℕ) → refusal P (length bits) w32 records ≡ 0 → bounds ≡ P.bounds → recs ≡ P.recs → ops ≡ P.ops → R ≡ P.regs
    → RowsAsk bounds recs ops R bits
rows_asked P w32 {bounds} {recs} {ops} {R} bits r eb er eo eR =
    let ok = accepted P (length bits) w32 records r in
    subst (λ (l : List ℕ). RowsAsk l recs ops R bits) (sym eb)
    (subst (λ (l : List ℕ). RowsAsk P.bounds l ops R bits) (sym er)
    (subst (λ (l : List ℕ). RowsAsk P.bounds P.recs l R bits) (sym eo)
    (subst (λ (v : ℕ). RowsAsk P.bounds P.recs P.ops v bits) (sym eR)
    (blocks_given P ok, code_given P ok, record { fits = rows_room P (length bits) w32 r }, omega (arith, all_room P ok, (work_room P (length bits) w32 records r).0)))))

-- rows stay where words from at_regs on are written
rows_stay : (P : Picture) → Accepted P → (xs ys : List ℕ) → take (at_regs P) ys ≡ take (at_regs P) xs → (b : ℕ) → b < nblocks P → Rows P (width P.regs) b xs → Rows P (width P.regs) b ys
rows_stay P ok xs ys e b h =
    let f = firsts_before P ok h in
    let s : SameRows (nblocks P) (width P.regs) b xs ys = same_rows xs ys h (λ i p q. front_same (at_regs P) xs ys e i (omega arith)) (λ i p q. front_same (at_regs P) xs ys e i (omega arith)) in
    rows_same P (width P.regs) b xs ys s.first s.wrote

-- ---- the start

facts_few : (P : Picture) → length (facts P) ≤ P.regs
facts_few P = le_of_eq (length-map (upto P.regs) _ ∙ length_range 0 P.regs)

module _ {bounds recs ops pairs targets work64 work32 : List ℕ} {s : Sizes} (k : Beginning bounds recs ops pairs targets work64 work32 s) where
  abbrev lent : ℕ
  lent = s.lent

  abbrev insts : ℕ
  insts = s.insts

  abbrev regs : ℕ
  regs = s.regs

  pub rooms : Rooms (length bounds / 2) lent insts (length work64) (length work32)
  rooms = rooms_at k.P (length work64) (length work32) k.accepted (ap (λ (l : List ℕ). length l / 2) k.bounds_are) k.lent_are k.insts_are

  good : Accepted k.P
  good = accepted k.P (length work64) (length work32) records k.accepted

  pub few_lent : s.lent ≤ 65536
  few_lent = rooms.few_lent

  pub few_blocks : s.blocks ≤ 4096
  few_blocks = let e = k.blocks_are in let b = S.few_blocks k.P good in omega arith

  -- where the words of the registers begin
  pub start_at : {a : ℕ} → a ≡ regs_at s → a ≡ 4 * (length bounds / 2) * width lent
  start_at e = e ∙ ap (λ (n : ℕ). 4 * n * width lent) (k.blocks_are ∙ ap (λ (l : List ℕ). length l / 2) (sym k.bounds_are))

  pub regs_room : {a : ℕ} → a ≡ regs_at s → a + 2 * lent ≤ length work64
  regs_room e = let f = start_at e in let r = rooms.room64 in omega arith

  -- four rows a block end before the words of the registers
  rows_wide : {r a : ℕ} → r ≡ regs → a ≡ regs_at s → 4 * (length bounds / 2) * width r ≤ a
  rows_wide {r} {a} er ea =
      let b : length bounds / 2 ≡ nblocks k.P = ap (λ (l : List ℕ). length l / 2) k.bounds_are in
      let rows : 4 * (length bounds / 2) * width r ≡ 4 * nblocks k.P * width k.P.regs = ap₂ (λ (n v : ℕ). 4 * n * width v) b (er ∙ k.regs_are) in
      let end : a ≡ 4 * nblocks k.P * width (length k.P.types) = start_at ea ∙ ap₂ (λ (n v : ℕ). 4 * n * width v) b k.lent_are in
      omega (arith, rows, end, all_room k.P good)

  -- `all_rows`, over the words before those of the registers
  pub rows_ask : {r a : ℕ} (front : List ℕ) → r ≡ regs → a ≡ regs_at s → length front ≡ a → Blocks bounds recs × Code recs ops r × (4 * (length bounds / 2) * width r ≤ length front)
  rows_ask {r} front er ea el =
      let z = rows_asked k.P (length work32) work64 k.accepted k.bounds_are k.recs_are k.ops_are (er ∙ k.regs_are) in
      (z.0, z.1, omega (arith, rows_wide er ea, el))

  -- the words behind
  pub rest_room : {a : ℕ} (rest : List ℕ) → a ≡ regs_at s → length rest + a ≡ length work64 → lent ≤ length rest
  rest_room rest ea el = omega (arith, regs_room ea, el)

  -- all positions of all blocks are those of all records
  all_of : concat (map (places (drawn bounds recs ops [] [])) (upto (length bounds / 2))) ≡ upto insts
  all_of =
      ap (λ (l : List ℕ). concat (map (places (drawn l recs ops [] [])) (upto (length l / 2)))) k.bounds_are ∙ all_places k.P good.laid ∙ ap upto (sym k.insts_are)

  -- `find_facts`, by what `all_rows` noted in words that were all 0
  pub facts_ask : (n : ℕ) {zeros noted : List ℕ} → zeros ≡ replicate n 0 → noted ≡ notes recs zeros (concat (map (places (drawn bounds recs ops [] [])) (upto (length bounds / 2))))
      → (insts ≤ 32768) × (16 * insts ≤ length recs) × (noted ≡ notes recs (replicate (length noted) 0) (upto insts))
  facts_ask n {zeros} {noted} ez en =
      let long : n ≡ length noted = sym (length-replicate {A = ℕ} n 0) ∙ ap length (sym ez) ∙ sym (length_notes recs zeros _) ∙ ap length (sym en) in
      let recs_long : length recs ≡ 16 * length k.P.locs = ap length k.recs_are ∙ S.recs_length k.P good in
      (rooms.few_insts, omega (arith, recs_long, k.insts_are), en ∙ ap₂ (notes recs) (ez ∙ ap (λ (m : ℕ). replicate m 0) long) all_of)

  pub preds_ask : (p : ℕ) → p ≡ 8000 + lent → 2 * (length bounds / 2) ≤ length (take (p + 2 * (length bounds / 2) - p) (drop p work32))
  preds_ask p e = let r = rooms.room32 in let z = mid_len p (p + 2 * (length bounds / 2)) work32 (omega arith) in omega arith

  -- the rows, the words of the registers, and what is behind them
  pub began : {a p r n : ℕ} {front ys : List ℕ} (rest : List ℕ) {zs : List ℕ} → a ≡ regs_at s → p ≡ 8000 + lent → r ≡ regs → length front ≡ a → length rest + a ≡ length work64 → n ≡ lent
      → ((b : ℕ) → b < length bounds / 2 → Rows (drawn bounds recs ops [] []) (width r) b front) → Found recs insts n ys
      → length zs ≡ length (take (p + 2 * (length bounds / 2) - p) (drop p work32)) → F.Preds (drawn bounds recs [] pairs targets) zs
      → Began bounds recs ops pairs targets work64 work32 s (front ++ (ys ++ drop lent rest)) (put_mid p (p + 2 * (length bounds / 2) - p) work32 zs)
  began {a} {p} {r} {n} {front} {ys} rest {zs} ea ep er el eb en each found long told =
      let k64 : List ℕ = front ++ (ys ++ drop lent rest) in
      let room64 = regs_room ea in
      let room32 = rooms.room32 in
      let behind : length (drop lent rest) ≡ length rest - lent = length-drop lent rest in
      record {
        size64 = length-append front (ys ++ drop lent rest) ∙ ap (λ (m : ℕ). length front + m) (length-append ys (drop lent rest)) ∙ omega (arith, found.size, el, eb, en, behind, room64);
        size32 = same_len_mid p (p + 2 * (length bounds / 2) - p) work32 zs long;
        begun = λ P z fb fr fo fp ft fl fi fg.
            let ok = accepted P (length work64) (length work32) records z in
            let size : length ys ≡ length P.types = found.size ∙ en ∙ sym fl in
            let blocks : nblocks P ≡ length bounds / 2 = ap (λ (l : List ℕ). length l / 2) fb in
            let at : at_regs P ≡ length front = ap₂ (λ (b v : ℕ). 4 * b * width v) blocks fl ∙ sym (start_at ea) ∙ sym el in
            let words : take (length P.types) (drop (at_regs P) k64) ≡ ys =
            ap (λ (m : ℕ). take (length P.types) (drop m k64)) at ∙ ap (take (length P.types)) (drop-append_seam front (ys ++ drop lent rest))
            ∙ ap (λ (m : ℕ). take m (ys ++ drop lent rest)) (sym size) ∙ take-append_seam ys (drop lent rest) in
            let size2 : length zs ≡ 2 * nblocks P = long ∙ mid_len p (p + 2 * (length bounds / 2)) work32 (omega arith) ∙ omega arith in
            let at2 : 8000 + length P.types ≡ p = omega arith in
            let pairs2 : take (2 * nblocks P) (drop (8000 + length P.types) (put_mid p (p + 2 * (length bounds / 2) - p) work32 zs)) ≡ zs =
            ap (λ (m : ℕ). take (2 * nblocks P) (drop m (put_mid p (p + 2 * (length bounds / 2) - p) work32 zs))) at2
            ∙ put_part p (p + 2 * (length bounds / 2) - p) work32 zs (2 * nblocks P) (omega arith) size2 in
            let found2 : Found P.recs (length P.locs) (length P.types) ys =
            subst (λ (l : List ℕ). Found l (length P.locs) (length P.types) ys) (sym fr)
            (subst (λ (m : ℕ). Found recs m (length P.types) ys) (sym fi) (subst (λ (m : ℕ). Found recs insts m ys) (en ∙ sym fl) found)) in
            let before : take (at_regs P) k64 ≡ take (at_regs P) front = take-append-le (at_regs P) front (ys ++ drop lent rest) (le_of_eq at) in
            record {
              known = facts_few P;
              seen = subst (λ (ws : List ℕ). Seen (facts P) (length P.types) ws) (sym words) (seen_given P ok found2 (S.regs_lent P ok) (le_refl (length P.types)));
              preds = subst (λ (ws : List ℕ). C.Preds P ws (nblocks P)) (sym pairs2) (preds_from P (preds_at P fb fr fp ft told));
              rows = λ b h.
                  rows_stay P ok front k64 before b h
                  (rows_of P (sym fb) (sym fr) (sym fo) (ap width (er ∙ sym fg)) front (each b (subst (λ (m : ℕ). b < m) blocks h)));
            };
      }
