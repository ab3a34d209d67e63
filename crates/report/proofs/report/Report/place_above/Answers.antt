use Rattle.std.proofs.Common.{true, arith, tests}
use Rattle.std.specs.Ordering.{is_lt}
use Rattle.std.specs.Option.{option_map_or}
use Rattle.parts.specs.Keys.{order}
use Rattle.report.specs.Meaning.{part_at}
use Rattle.report.proofs.Entries.{found_in}
use Rattle.report.proofs.report.Report.place_above.Goals as goal

pub returns : goal.returns
returns c =
    let x = c.args.self.now in
    let found = found_in (λ j. option_map_or (λ k. is_lt (order k.now (part_at x.file.now x.keys j).key)) c.args.key true) x.keys _ (omega arith) _ _ c.find.result c.find.ensures.ran (λ i b q k. ((λ j. (k.called.met.1.0 j, k.called.met.1.1 j)), grind (arith, tests))) in
    record { is = found.0; within = found.1 }
