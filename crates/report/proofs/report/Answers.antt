-- `report` meets its contract: what is printed for a picture that can be read. Assumes nothing.
use Rattle.std.proofs.Common.{◌∙◌, ◌++◌, List, ℕ, ap, length, le_refl, sym, arith}
use Rattle.report.specs.Text.{round_heading}
use Rattle.report.specs.Report.{ran_text}
use Rattle.report.proofs.Told.{told}
use Rattle.report.proofs.report.Goals as goal

pub put_ran-requires : goal.put_ran-requires
put_ran-requires c = ((told c.args.input.now (le_refl 53024) (sym c.in-Some.is ∙ c.sink_bytes.ensures.value)).0, omega (arith, c.push_str.ensures.len, ap length c.new-text.ensures))

pub returns-in-Some : goal.returns-in-Some
returns-in-Some c =
    let ran = c.in-Some.ran in
    c.put_ran.ensures ∙ ap (λ (t : List ℕ). t ++ ran_text ran.answer ran.lines) (c.push_str.ensures.bytes ∙ ap (λ (t : List ℕ). t ++ round_heading) c.new-text.ensures)
    ∙ (told c.args.input.now (le_refl 53024) (sym c.in-Some.is ∙ c.sink_bytes.ensures.value)).1
