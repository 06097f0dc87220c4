-- What was read is the front of the input, and the text of it is written. Assumes nothing.
use Rattle.std.proofs.Common.{rules, take, ◌∙◌, subst, length-take-le}
use Rattle.std.specs.Io.KnownBytes.{Appends}
use Rattle.report.specs.Report.{report_of}
use Rattle.input.proofs.Reading.{front_read, on_ok, written_of}
use Rattle.sinkrounds.proofs.sink_rounds.Goals as goal

pub returns : goal.returns
returns g c =
    let read = c.in_ok-n.ensures in
    let n = c.in_ok-n.n in
    let out = c.read_full.new.out in
    let long = length-take-le n out read.count in
    let front = front_read _ _ (take n out) 53025 (search (rules, long)) read.bytes (λ less. read.end (search (rules, long, less))) in
    let text = c.as_bytes.ensures.value ∙ c.as_str.ensures.value ∙ c.report.ensures in
    on_ok c.write_all.result (λ wrote. written_of _ _ _ report_of _ 53025 front (subst (Appends _ _) text wrote)) c.write_all.ensures.bytes
