use Rattle.std.proofs.Common.{is_ok, ◌∙◌}
use Rattle.report.specs.Checks.{key_at}
use Rattle.report.proofs.Entries.{key_checked}
use Rattle.report.proofs.report.Report.key.Goals as goal

pub invariant_of-result : goal.invariant_of-result
invariant_of-result c =
    let x = c.args.self.now in
    record { met = (λ j. is_ok (key_at ((c.key.ensures.0 ∙ c.tables.ensures.0) j) (c.key.ensures.1 j))) ∙ key_checked x.file.now x.keys c.args.i x.ok x.counted c.requires }
