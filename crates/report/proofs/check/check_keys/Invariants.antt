use Rattle.std.proofs.Common.{◌≡◌, ◌-◌, ◌<◌}
use Rattle.std.specs.Option.{MatchOption}
use Rattle.report.specs.Layout.{key_place, fields_at}
use Rattle.report.specs.Checks.{keys_from}
use Rattle.report.proofs.check.check_keys.Given as goal

abbrev pub invariant-loop-i : goal.invariant-loop-i
invariant-loop-i l = record {
  so_far : keys_from l.tables.file.now l.i (l.tables.count - l.i) ≡ keys_from l.tables.file.now 0 l.tables.count;
  before : MatchOption l.before (l.i ≡ 0) (λ k. (0 < l.i) × (fields_at k.found.file.now k.found.at ≡ fields_at l.tables.file.now (key_place (l.i - 1))));
}
