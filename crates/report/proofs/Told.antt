-- What is printed for a picture that can be read: the text of the outcome. Assumes nothing.
use Rattle.std.proofs.Common.{◌≡◌, sym, ap, ◌∙◌, Bool, true, false, ℕ, ◌*◌, ◌≤◌, le_refl, List, ◌++◌, append_assoc, length, map, take, Some, None, Option}
use Rattle.std.proofs.Math.Seq.{take-append_seam}
use Rattle.words.specs.Bytes.{words_of}
use Rattle.words.specs.Lists.{concat}
use Rattle.words.proofs.Each.{Each}
use Rattle.model.specs.Pass.{Outcome, rounds}
use Rattle.layout.specs.Layout.{readable, picture_in}
use Rattle.rounds.specs.declared.state.Ran.{Ran}
use Rattle.host.specs.Host.{sunk, within_bounds, ran_by, replied}
use Rattle.host.proofs.Left.{came, few_rounds, as_many, sixes_each, SixAre}
use Rattle.host.proofs.Entry.{as_readable}
use Rattle.report.specs.Text.{line, round_heading, answer_heading, last_line, lines_text, text, unread_text}
use Rattle.report.specs.Report.{report_of, ran_text}
use Rattle.report.proofs.Lines.{lines_of, lines_long}

grouped : (a b c d : List ℕ) → a ++ (b ++ c ++ d) ≡ a ++ b ++ c ++ d
grouped a b c d = simp append_assoc

-- the text of what was run is that of the outcome
text_is : (o : Outcome) → length o.lines ≡ rounds o.answer → Each SixAre o.lines → round_heading ++ ran_text (ran_by o).answer (ran_by o).lines ≡ text o
text_is o n s =
    let long : 6 * rounds o.answer ≡ length (concat o.lines) = ap (λ (k : ℕ). 6 * k) (sym n) ∙ sym (lines_long o.lines s) in
    let front : take (6 * rounds o.answer) (ran_by o).lines ≡ concat o.lines = rw long (take-append_seam (concat o.lines) _) in
    ap (λ (ws : List ℕ). round_heading ++ (lines_text ws ++ answer_heading ++ last_line o.answer)) front
    ∙ ap (λ (l : List ℕ). round_heading ++ (l ++ answer_heading ++ last_line o.answer)) (lines_of o.lines s)
    ∙ grouped round_heading (concat (map line o.lines)) answer_heading (last_line o.answer)

module _ (bs : List ℕ) where
  abbrev the_reply : Bool → Option Ran
  the_reply b = elim b as (λ z. Option Ran) [ true ↦ Some (ran_by (sunk bs 512 2048)) | false ↦ None ]

  abbrev the_text : Bool → List ℕ
  the_text b = elim b as (λ z. List ℕ) [ true ↦ text (sunk bs 512 2048) | false ↦ unread_text ]

  pub told : {ran : Ran} {n : ℕ} → 53024 ≤ n → Some ran ≡ replied bs n 512 2048 → (rounds ran.answer ≤ 8) × (round_heading ++ ran_text ran.answer ran.lines ≡ report_of bs)
  told {ran} {n} h e =
      let f : within_bounds bs n 512 2048 ≡ readable bs = as_readable bs n 512 2048 (record { long = h; regs_few = le_refl 512; opers_few = le_refl 2048 }) in
      go (readable bs) (e ∙ ap the_reply f)
    where
      go : (b : Bool) → Some ran ≡ the_reply b → (rounds ran.answer ≤ 8) × (round_heading ++ ran_text ran.answer ran.lines ≡ the_text b)
      go true y =
          let k = came (picture_in (words_of bs) 512 2048) 3072 13120 800 in
          let z : ran ≡ ran_by (sunk bs 512 2048) = cc in
          rw z (few_rounds k, text_is (sunk bs 512 2048) (as_many k) (sixes_each k))
      go false y = absurd (cc)
