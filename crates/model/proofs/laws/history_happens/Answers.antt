use Rattle.model.proofs.Story.{happens}
use Rattle.model.proofs.laws.history_happens.Goals as goal

pub returns : goal.returns
returns c = happens
