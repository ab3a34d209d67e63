use Rattle.std.proofs.Common.{rules}
use Rattle.parts.proofs.Same.{details_told}
use Rattle.parts.proofs.details.Details.same.Goals as goal

pub returns : goal.returns
returns c = search (rules, details_told)
