use Rattle.report.proofs.Entries.{parts_count}
use Rattle.report.proofs.report.ReportInventory.count.Goals as goal

pub returns : goal.returns
returns c = parts_count c.args.self.now.file.now c.args.self.now.keys c.args.self.now.counted
