-- The records that `apply` makes, as instructions of the walk: the old one with its reads and writes renamed. Assumes nothing.
use mathlib.Core.Path.{◌≡◌, refl, ap, ap₂, ◌∙◌}
use mathlib.Core.Bool.{Bool, not, ◌&&◌, cond}
use mathlib.Core.List.{List, [], ◌∷◌, ◌++◌, map}
use Prim.Native.Nat.{ℕ, suc}
use lib.Dec.{eqb}
use lib.ListN.{length}
use Rattle.model.specs.Kinds.{Role, writing}
use Rattle.model.specs.Picture.{Picture, Inst, absent, roles, slots, reads, writes, End, end_of, end_succs}
use Rattle.model.specs.Move.{Job, renamed, made}
use Rattle.laws.proofs.Renamed.{Present, word_absent}
use Rattle.laws.proofs.Made.{made_body, same_roles, made_writes, made_end, made_reads, Sound, MadeFor}
use Rattle.walk.specs.Machine.{Instr}
use Rattle.kept.specs.Walk.{bare}
use Rattle.kept.proofs.Program.{Spot, ins, slots_at}

-- ---- renamed slots are absent where they were

abbrev away : ℕ → ℕ
away r = cond (eqb r absent) 1 0

module _ (f g : ℕ → ℕ) (u : Present f) (v : Present g) where
  absent_renamed : (os : List Role) (rs : List ℕ) → map away (renamed f g os rs) ≡ map away rs
  absent_renamed os [] = refl
  absent_renamed [] (r ∷ rs) = ap (λ (l : List ℕ). away r ∷ l) (absent_renamed [] rs)
  absent_renamed (o ∷ os) (r ∷ rs) = ap₂ (λ (b : Bool) (l : List ℕ). cond b 1 0 ∷ l) (word_absent f g u v o r) (absent_renamed os rs)

  slots_renamed : (k : ℕ) (os : List Role) (rs : List ℕ) → slots_at k os (renamed f g os rs) ≡ slots_at k os rs
  slots_renamed k [] rs = refl
  slots_renamed k (o ∷ os) [] = refl
  slots_renamed k (o ∷ os) (r ∷ rs) = ap₂ (λ (b : Bool) (l : List ℕ). cond (writing o && not b) (k ∷ l) l) (word_absent f g u v o r) (slots_renamed (suc k) os rs)

module _ (j : Job) (start : ℕ) (e : length j.old ≡ 16) (u : Present j.rd) (v : Present j.wr) where
  -- kind, form, payload, absent slots and list length stay
  pub made_bare : bare (made j start) ≡ bare j.old
  made_bare =
      let b = made_body j start e u v in
      ap₂ (λ (h t : List ℕ). h ++ t)
      (ap₂ (λ (s t : List ℕ). s ++ t) b.head_words (ap (map away) b.slot_words ∙ absent_renamed j.rd j.wr u v (roles j.old) (slots j.old))) b.rest_words

  made_slots : slots_at 0 (roles (made j start)) (slots (made j start)) ≡ slots_at 0 (roles j.old) (slots j.old)
  made_slots = ap₂ (slots_at 0) (same_roles j start e u v) (made_body j start e u v).slot_words ∙ slots_renamed j.rd j.wr u v 0 (roles j.old) (slots j.old)

-- what a job makes, in the walk
abbrev pub ins_of : Picture → Spot → Job → Instr
ins_of P s j =
    record {
      old_block = s.block;
      old_index = s.index;
      what = bare j.old;
      goes_to = end_succs P (end_of j.old);
      slots = slots_at 0 (roles j.old) (slots j.old);
      reads = map j.rd (reads P.ops j.old);
      writes = map j.wr (writes j.old);
    }

pub made_ins : (P Q : Picture) → ((x : End) → end_succs Q x ≡ end_succs P x) → (R O' : ℕ) (m : Inst) (j : Job) (s : Spot) → Sound P R j → MadeFor P.ops Q.ops O' m j → ins Q s m ≡ ins_of P s j
made_ins P Q same R O' m j s so a = λ z. record {
  old_block = s.block;
  old_index = s.index;
  what = what z;
  goes_to = to z;
  slots = sl z;
  reads = made_reads P.ops Q.ops O' m j e u v a z;
  writes = wr z;
}
  where
    e : length j.old ≡ 16
    e = so.whole

    u : Present j.rd
    u = so.rd_present

    v : Present j.wr
    v = so.wr_present

    what : bare m ≡ bare j.old
    what = ap bare a.is ∙ made_bare j a.start e u v

    to : end_succs Q (end_of m) ≡ end_succs P (end_of j.old)
    to = same (end_of m) ∙ ap (end_succs P) (ap end_of a.is ∙ made_end j a.start e u v)

    sl : slots_at 0 (roles m) (slots m) ≡ slots_at 0 (roles j.old) (slots j.old)
    sl = ap (λ (i : Inst). slots_at 0 (roles i) (slots i)) a.is ∙ made_slots j a.start e u v

    wr : writes m ≡ map j.wr (writes j.old)
    wr = ap writes a.is ∙ made_writes j a.start e u v
