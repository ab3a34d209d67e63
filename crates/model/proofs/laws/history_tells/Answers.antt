use Rattle.model.proofs.Tells.{tells}
use Rattle.model.proofs.laws.history_tells.Goals as goal

pub returns : goal.returns
returns g c = tells
