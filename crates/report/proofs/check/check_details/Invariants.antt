use Rattle.std.proofs.Common.{◌≡◌, ◌-◌}
use Rattle.report.specs.Checks.{details_from}
use Rattle.report.proofs.check.check_details.Given as goal

abbrev pub invariant-loop-i : goal.invariant-loop-i
invariant-loop-i l = details_from l.tables.file.now l.tables.count l.i (l.tables.count - l.i) ≡ details_from l.tables.file.now l.tables.count 0 l.tables.count
