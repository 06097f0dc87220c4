-- What was read is the front of the input, and the text of it is written. Assumes nothing.
use Rattle.std.proofs.Common.{rules, take, ◌∙◌, subst, length-take-le}
use Rattle.std.specs.Io.KnownBytes.{Appends}
use Rattle.rolesource.specs.Source.{source}
use Rattle.input.proofs.Reading.{front_read, on_ok, written_of}
use Rattle.rolesource.proofs.role_source.Goals as goal

pub returns : goal.returns
returns g c =
    let read = c.in_ok-n.ensures in
    let n = c.in_ok-n.n in
    let out = c.read_full.new.out in
    let long = length-take-le n out read.count in
    let front = front_read _ _ (take n out) 32769 (search (rules, long)) read.bytes (λ less. read.end (search (rules, long, less))) in
    let text = c.as_slice.ensures.value ∙ c.source.ensures in
    on_ok c.write_all.result (λ wrote. written_of _ _ _ source _ 32769 front (subst (Appends _ _) text wrote)) c.write_all.ensures.bytes
