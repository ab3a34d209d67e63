use Rattle.model.proofs.Decided.{decided}
use Rattle.model.proofs.laws.calls_decided.Goals as goal

pub returns : goal.returns
returns g c = decided
