use Rattle.std.proofs.Common.{rules}
use Rattle.parts.proofs.Same.{head_told}
use Rattle.parts.proofs.head.Head.same.Goals as goal

pub returns : goal.returns
returns c = search (rules, head_told)
