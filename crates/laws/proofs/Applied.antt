-- The picture that a move leaves: its operands, its records, its blocks. Assumes nothing.
use Rattle.std.specs.Prelude.{Option, None, Some}
use mathlib.Core.Path.{◌≡◌, refl, sym, ap, ap₂, ◌∙◌, subst}
use mathlib.Core.Logic.{inl, inr, ⊎_elim}
use mathlib.Core.Bool.{Bool, true, false, cond}
use mathlib.Core.List.{List, [], ◌∷◌, ◌++◌, map, append_assoc}
use Prim.Native.Nat.{ℕ, suc, ◌+◌, ◌-◌, ◌*◌, ◌≤◌, ◌<◌}
use native.Mathlib.Nat.{zero-add, le_refl}
use native.Mathlib.Omega.{arith}
use lib.Dec.{eqb}
use lib.ListN.{get_or, length, take, drop, length-append, length-map, length-drop}
use lib.Seq.{take_at, drop-append_seam, length-take-le}
use borrow.Author.Tests.{ne_eqb}
use Rattle.words.specs.Lists.{In, mem, upto, concat, member, lookup, spans}
use Rattle.words.proofs.Bools.{eq?, eqb_self}
use Rattle.words.proofs.Lists.{length_made, get_or-made, length_spans, spans_same}
use Rattle.words.proofs.Members.{in_map}
use Rattle.words.proofs.Each.{Each, each_of, each_append, each_concat, each_made}
use Rattle.words.proofs.Parts.{part_first}
use Rattle.model.specs.Picture.{Picture, Inst, inst, absent, roles, slots, list_of, writes, nblocks, size, places, code}
use Rattle.model.specs.Live.{live_in}
use Rattle.model.specs.Analyse.{Facts, last_writer}
use Rattle.model.specs.Move.{Plan, Job, renamed, made, made_all, changes, more_of, appended, own_jobs, members, fresh, member_job, new_name, jobs, order_of, order, new_code, apply}
use Rattle.laws.proofs.Accepted.{Admitted}
use Rattle.laws.proofs.Admitted.{list_in}
use Rattle.laws.proofs.Sizes.{few_types, regs_lent, opers_lent, record_whole, place_below, admitted_at}
use Rattle.laws.proofs.Renamed.{Present, length_renamed}
use Rattle.laws.proofs.Reuse.{Got, rising, pool_below, pool_grows}
use Rattle.laws.proofs.Laid.{Whole, code_laid, places_laid}
use Rattle.laws.proofs.Made.{Sound, MadeFor, Pairs, made_for}
use Rattle.laws.proofs.Moving.{Moving, member_below, regs_room}
use Rattle.laws.proofs.Ordered.{in_x, at_x, order_into, order_place}

-- ---- records of 16 words

made_sixteen : (j : Job) (start : ℕ) → length j.old ≡ 16 → length (made j start) ≡ 16
made_sixteen j start e =
    let i = j.old in
    let a = length-take-le 2 i (subst (λ (n : ℕ). 2 ≤ n) (sym e) (omega arith)) in
    let d : length (drop 2 i) ≡ 14 = length-drop 2 i ∙ ap (λ (n : ℕ). n - 2) e in
    let s = length-take-le 5 (drop 2 i) (subst (λ (n : ℕ). 5 ≤ n) (sym d) (omega arith)) in
    let b = length_renamed j.rd j.wr (roles i) (slots i) in
    let c : length (drop 8 i) ≡ 8 = length-drop 8 i ∙ ap (λ (n : ℕ). n - 8) e in
    let x = length-append (take 2 i ++ renamed j.rd j.wr (roles i) (slots i)) (start ∷ drop 8 i) in
    let y = length-append (take 2 i) (renamed j.rd j.wr (roles i) (slots i)) in
    omega arith

whole_made : (P : Picture) (R : ℕ) (ops : List ℕ) (n : ℕ) (js : List Job) → Each (Sound P R) js → Whole (made_all ops n js)
whole_made P R ops n [] s = tt
whole_made P R ops n (j ∷ js) s = (made_sixteen j (cond (changes ops j) n (get_or j.old 7 0)) s.0.whole, whole_made P R ops (n + length (more_of ops j)) js s.1)

pub length-made_all : (ops : List ℕ) (n : ℕ) (js : List Job) → length (made_all ops n js) ≡ length js
length-made_all ops n [] = refl
length-made_all ops n (j ∷ js) = ap suc (length-made_all ops (n + length (more_of ops j)) js)

pub length_own : (rd : ℕ → ℕ) (is : List Inst) → length (own_jobs rd is) ≡ length is
length_own rd [] = refl
length_own rd (i ∷ is) = ap suc (length_own (λ r. elim (mem r (writes i)) [ true ↦ r | false ↦ rd r ]) is)

-- ---- what is looked up among the registers given

looked_up : (Q : ℕ → Type 0) (gs : List (ℕ × ℕ)) → ((d r : ℕ) → Got d r gs → Q r) → (p r : ℕ) → Q r → Q (lookup gs p r)
looked_up Q [] h p r e = e
looked_up Q (x ∷ gs) h p r e = go (looked_up Q gs (λ d r g. h d r (inr g)) p r e) (eqb p x.0)
  where
    go : Q (lookup gs p r) → (b : Bool) → Q (elim b as (λ z. ℕ) [ true ↦ x.1 | false ↦ lookup gs p r ])
    go k true = h x.0 x.1 (inl (refl, refl))
    go k false = k

pub present : (r : ℕ) → r < 65536 → eqb r absent ≡ false
present r h = ne_eqb r absent (λ e. omega arith)

module _ (P : Picture) (G : Facts) (a : Plan) (mv : Moving P G a) where
  abbrev pub Q : Picture
  Q = apply P a

  abbrev pub given : List (ℕ × ℕ)
  given = (fresh P a).given

  abbrev pub js : List Job
  js = jobs P a given

  -- how a read is renamed behind the chain
  abbrev pub behind : ℕ → ℕ
  behind r = new_name P a given r (last_writer 0 a.run r)

  -- ---- the registers

  abbrev pub read_there : ℕ → Bool
  read_there r = get_or (map (live_in P a.into) (upto P.regs)) r false

  pub given_low : (d r : ℕ) → Got d r given → r < Q.regs
  given_low = pool_below a.run read_there (take P.regs P.types) (members P a) (rising (member a.set) 0 0 (size P a.x) (omega arith))

  pub regs_grow : P.regs ≤ Q.regs
  regs_grow =
      let g = pool_grows a.run read_there (take P.regs P.types) (members P a) (rising (member a.set) 0 0 (size P a.x) (omega arith)) in
      let e = length-take-le P.regs P.types (regs_lent P mv.ok) in
      omega arith

  given_present : (d r : ℕ) → Got d r given → eqb r absent ≡ false
  given_present d r g = present r (let l = given_low d r g in let s = few_types P mv.ok in let t = regs_room P G a mv in omega arith)

  -- ---- the jobs are sound

  -- what holds of a register and of those given holds of its new name
  named : (K : ℕ → Type 0) → ((d r : ℕ) → Got d r given → K r) → (r : ℕ) (o : Option ℕ) → K r → K (new_name P a given r o)
  named K h r None e = e
  named K h r (Some d) e = go (member a.set d)
    where
      go : (b : Bool) → K (elim b as (λ z. ℕ) [ true ↦ lookup given d r | false ↦ r ])
      go true = looked_up K given h d r e
      go false = e

  abbrev There : ℕ → Type 0
  There r = eqb r absent ≡ false

  abbrev Low : ℕ → Type 0
  Low r = r < Q.regs

  sound_members : (ps : List ℕ) → ((p : ℕ) → In p ps → p < size P a.x) → Each (Sound P Q.regs) (map (member_job P a given) ps)
  sound_members [] h = tt
  sound_members (p ∷ ps) h =
      let i = at_x P G a mv p (h p (inl refl)) in (
        record {
          whole = record_whole P mv.ok (in_x P G a mv p) (place_below P mv.ok a.x (in_x P G a mv p) i).1;
          admitted = admitted_at P mv.ok a.x (in_x P G a mv p) i;
          rd_present = λ r e. named There given_present r (last_writer 0 (take p a.run) r) e;
          wr_present = λ r e. looked_up There given given_present p r e;
          rd_low = λ r e. named Low given_low r (last_writer 0 (take p a.run) r) e;
          wr_low = λ r e. looked_up Low given given_low p r e;
        },
        sound_members ps (λ q j. h q (inr j)),
      )

  sound_own : (rd : ℕ → ℕ) → Present rd → ((r : ℕ) → Low r → Low (rd r)) → (ps : List ℕ) → ((p : ℕ) → In p ps → In p (places P a.into))
      → Each (Sound P Q.regs) (own_jobs rd (map (inst P.recs) ps))
  sound_own rd u v [] h = tt
  sound_own rd u v (p ∷ ps) h =
      let i = h p (inl refl) in
      let ws = writes (inst P.recs p) in (
        record {
          whole = record_whole P mv.ok p (place_below P mv.ok a.into p i).1;
          admitted = admitted_at P mv.ok a.into p i;
          rd_present = u;
          wr_present = λ r e. e;
          rd_low = v;
          wr_low = λ r e. e;
        },
        sound_own (λ r. elim (mem r ws) [ true ↦ r | false ↦ rd r ]) (λ r e. either There r e (u r e) (mem r ws)) (λ r e. either Low r e (v r e) (mem r ws)) ps (λ q j. h q (inr j)),
      )
    where
      either : (K : ℕ → Type 0) (r : ℕ) → K r → K (rd r) → (b : Bool) → K (elim b as (λ z. ℕ) [ true ↦ r | false ↦ rd r ])
      either K r e f true = e
      either K r e f false = f

  pub sound : Each (Sound P Q.regs) js
  sound = each_append (Sound P Q.regs) (map (member_job P a given) (members P a)) (own_jobs behind (code P a.into))
      (sound_members (members P a) (member_below P G a mv))
      (sound_own behind (λ r e. named There given_present r (last_writer 0 a.run r) e) (λ r e. named Low given_low r (last_writer 0 a.run r) e) (places P a.into) (λ p i. i))

  -- ---- the operands: those in use stay, and what is added stands behind them

  abbrev pub extra : List ℕ
  extra = appended P.ops js

  laid_ops : Q.ops ≡ take P.opers P.ops ++ (extra ++ drop (P.opers + length extra) P.ops)
  laid_ops = append_assoc (take P.opers P.ops) extra (drop (P.opers + length extra) P.ops)

  pub taken : length (take P.opers P.ops) ≡ P.opers
  taken = length-take-le P.opers P.ops (opers_lent P mv.ok)

  pub first_ops : take P.opers Q.ops ≡ take P.opers P.ops
  first_ops = ap (take P.opers) laid_ops ∙ take_at (take P.opers P.ops) (extra ++ drop (P.opers + length extra) P.ops) P.opers taken

  pub next_ops : drop P.opers Q.ops ≡ extra ++ drop (P.opers + length extra) P.ops
  next_ops =
      ap (drop P.opers) laid_ops
      ∙ ap (λ (n : ℕ). drop n (take P.opers P.ops ++ (extra ++ drop (P.opers + length extra) P.ops))) (sym taken)
      ∙ drop-append_seam (take P.opers P.ops) (extra ++ drop (P.opers + length extra) P.ops)

  -- the list of an instruction that is not renamed
  pub kept_list : (i : Inst) → Admitted P i → list_of Q.ops i ≡ list_of P.ops i
  kept_list i f =
      let l = list_in P i f in
      sym (part_first (get_or i 7 0) (get_or i 8 0) P.opers Q.ops l) ∙ ap (λ (l : List ℕ). take (get_or i 8 0) (drop (get_or i 7 0) l)) first_ops
      ∙ part_first (get_or i 7 0) (get_or i 8 0) P.opers P.ops l

  -- the records made are those of the jobs
  pub made_here : Pairs (MadeFor P.ops Q.ops Q.opers) (made_all P.ops P.opers js) js
  made_here =
      made_for P Q.regs Q.ops Q.opers (opers_lent P mv.ok) first_ops (omega arith) P.opers js (drop (P.opers + length extra) P.ops) sound next_ops (le_refl (P.opers + length extra))

  -- ---- the code, block by block

  pub code_into : new_code P a js a.into ≡ made_all P.ops P.opers js
  code_into = ap (λ (c : Bool). elim c as (λ z. List Inst) [ true ↦ made_all P.ops P.opers js | false ↦ map (inst P.recs) (order_of P a a.into) ]) (eqb_self a.into)

  pub code_else : (b : ℕ) → (b ≡ a.into → ⊥) → new_code P a js b ≡ map (inst P.recs) (order_of P a b)
  code_else b n = ap (λ (c : Bool). elim c as (λ z. List Inst) [ true ↦ made_all P.ops P.opers js | false ↦ map (inst P.recs) (order_of P a b) ]) (ne_eqb b a.into n)

  pub new_whole : (b : ℕ) → Whole (new_code P a js b)
  new_whole b = ⊎_elim
      (λ (e : b ≡ a.into). subst Whole (sym (ap (new_code P a js) e ∙ code_into)) (whole_made P Q.regs P.ops P.opers js sound))
      (λ (n : b ≡ a.into → ⊥). subst Whole (sym (code_else b n)) (each_of (λ (i : Inst). length i ≡ 16) (map (inst P.recs) (order_of P a b))
      (λ i j. let z = in_map (inst P.recs) i (order_of P a b) j in ap length z.2 ∙ record_whole P mv.ok z.0 (order_place P G a mv b z.0 z.1))))
      (eq? b a.into)

  -- all blocks' code
  abbrev pub cs : List (List Inst)
  cs = map (new_code P a js) (upto (nblocks P))

  pub all_whole : Whole (concat cs)
  all_whole = each_concat (λ (i : Inst). length i ≡ 16) cs (each_made Whole (new_code P a js) 0 (nblocks P) (λ b u v. new_whole b))

  pub code_after : (b : ℕ) → b < nblocks P → code Q b ≡ new_code P a js b
  code_after b h =
      code_laid Q cs refl refl all_whole b (subst (λ (n : ℕ). b < n) (sym (length_made (new_code P a js) 0 (nblocks P))) h)
      ∙ get_or-made (new_code P a js) [] 0 (nblocks P) b h ∙ ap (new_code P a js) (zero-add b)

  -- ---- the bounds: those of the order

  pub same_length : (b : ℕ) → length (new_code P a js b) ≡ length (order_of P a b)
  same_length b = ⊎_elim
      (λ (e : b ≡ a.into). subst (λ (y : ℕ). length (new_code P a js y) ≡ length (order_of P a y)) (sym e)
      (ap length code_into ∙ length-made_all P.ops P.opers js
      ∙ length-append (map (member_job P a given) (members P a)) (own_jobs behind (code P a.into))
      ∙ ap₂ ◌+◌ (length-map (members P a) (member_job P a given) ∙ sym (length-map (members P a) (in_x P G a mv))) (length_own behind (code P a.into) ∙ length-map (places P a.into) (inst P.recs))
      ∙ sym (length-append (map (in_x P G a mv) (members P a)) (places P a.into)) ∙ ap length (sym (order_into P G a mv))))
      (λ (n : b ≡ a.into → ⊥). ap length (code_else b n) ∙ length-map (order_of P a b) (inst P.recs))
      (eq? b a.into)

  pub bounds_order : Q.bounds ≡ spans 0 (order P a)
  bounds_order = spans_same (new_code P a js) (order_of P a) 0 0 (nblocks P) (λ b u v. same_length b)

  pub bounds_length : length Q.bounds ≡ 2 * nblocks P
  bounds_length = length_spans 0 cs ∙ ap (λ (n : ℕ). 2 * n) (length_made (new_code P a js) 0 (nblocks P))

  pub same_blocks : nblocks Q ≡ nblocks P
  same_blocks = omega (arith, bounds_length)

  pub places_after : (b : ℕ) → b < nblocks P → map (λ p. get_or (concat (order P a)) p 0) (places Q b) ≡ order_of P a b
  places_after b h = places_laid Q (order P a) bounds_order b (subst (λ (n : ℕ). b < n) (sym (length_made (order_of P a) 0 (nblocks P))) h) ∙ get_or-made (order_of P a) [] 0 (nblocks P) b h ∙ ap (order_of P a) (zero-add b)
