use Rattle.std.proofs.Common.{◌+◌, get_or, ◌∙◌, arith}
use Rattle.parts.specs.Details.{details_of}
use Rattle.parts.proofs.Built.{details_made}
use Rattle.report.specs.Layout.{text_at}
use Rattle.report.proofs.Steps.{told_ok, text_good}
use Rattle.report.proofs.Sound.{text_length, details_met}
use Rattle.report.proofs.fields.CheckedDetails.details.Goals as goal

pub returns : goal.returns
returns c =
    let r = c.args.self.now.found in
    let file = r.file.now in
    let met = details_met file r.at (told_ok _ c.args.self.now.met) in
    let small = met.replaceable in
    let high = (text_good file r.at 0 met.revision).high in
    let within = r.within in
    let n = text_length file r.at (omega arith) high in
    let text = c.held.ensures ∙ (λ j. text_at (c.revision.ensures.0 j) (c.revision.ensures.1 j)) in
    details_made (text_at file r.at) (get_or file (r.at + 65) 0) c.in-Ok.details (omega arith) (c.in-Ok.ensures ∙ (λ j. details_of (text j) (c.replaceable.ensures j)))
