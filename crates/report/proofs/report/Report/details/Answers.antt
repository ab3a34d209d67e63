use Rattle.std.proofs.Common.{◌≡◌, is_ok, ◌+◌, get_or, ◌∙◌}
use Rattle.parts.proofs.Built.{details_from}
use Rattle.report.specs.Layout.{details_place, text_at}
use Rattle.report.specs.Checks.{details_at}
use Rattle.report.proofs.Entries.{details_checked}
use Rattle.report.proofs.report.Report.details.Goals as goal

pub invariant_of-checked : goal.invariant_of-checked
invariant_of-checked c =
    let x = c.args.self.now in
    let file = c.details.ensures.0 ∙ c.tables.ensures.0 in
    let at : c.details.result.at ≡ details_place x.keys c.args.i = c.details.ensures.1 ∙ (λ j. details_place (c.tables.ensures.1 j) c.args.i) in
    record { met = (λ j. is_ok (details_at (file j) (at j))) ∙ details_checked x.file.now x.keys c.args.i x.ok x.counted c.requires }

pub returns : goal.returns
returns c =
    let x = c.args.self.now in
    let file = c.details.ensures.0 ∙ c.tables.ensures.0 in
    let at : c.details.result.at ≡ details_place x.keys c.args.i = c.details.ensures.1 ∙ (λ j. details_place (c.tables.ensures.1 j) c.args.i) in
    c.details-2.ensures ∙ (λ j. details_from (text_at (file j) (at j)) (get_or (file j) (at j + 65) 0))
