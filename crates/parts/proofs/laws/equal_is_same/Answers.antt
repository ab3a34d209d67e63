use Rattle.parts.proofs.Lawful.{key_told}
use Rattle.parts.proofs.Same as same
use Rattle.parts.proofs.laws.equal_is_same.Goals as goal

pub returns : goal.returns
returns c = record { told = same.equal_is_same; keys = key_told }
