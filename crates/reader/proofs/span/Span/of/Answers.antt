use Rattle.reader.proofs.Cuts.{cut_within}
use Rattle.reader.proofs.span.Span.of.Goals as goal

pub returns : goal.returns
returns c = cut_within c.args.file.now c.args.self.now.from c.args.self.now.to c.min-from.result c.min-to.result c.min-to.ensures c.min-from.ensures
