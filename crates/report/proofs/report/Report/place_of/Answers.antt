use Rattle.std.proofs.Common.{arith, tests}
use Rattle.std.specs.Ordering.{is_eq}
use Rattle.parts.specs.Keys.{order}
use Rattle.report.specs.Meaning.{part_at}
use Rattle.report.proofs.Entries.{found_in}
use Rattle.report.proofs.report.Report.place_of.Goals as goal

pub returns : goal.returns
returns c =
    let x = c.args.self.now in
    let found = found_in (λ j. is_eq (order c.args.key.now (part_at x.file.now x.keys j).key)) x.keys _ (omega arith) _ _ c.find.result c.find.ensures.ran (λ i b q k. ((λ j. (k.called.met.1.0 j, k.called.met.1.1 j)), grind (arith, tests))) in
    record { is = found.0; within = found.1 }
