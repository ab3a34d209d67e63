use Rattle.std.proofs.Common.{◌∙◌}
use Rattle.parts.proofs.Built.{key_from}
use Rattle.report.specs.Layout.{fields_at}
use Rattle.report.proofs.report.Report.part.Goals as goal

pub returns : goal.returns
returns c =
    let key = c.key-2.ensures ∙ (λ j. key_from (fields_at (c.key.ensures.0 j) (c.key.ensures.1 j))) in
    λ j. record { key = key j; details = c.details.ensures j }
