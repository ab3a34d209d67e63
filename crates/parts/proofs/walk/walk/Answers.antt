use Rattle.std.proofs.lemmas.Iterator.Consumers.{YieldsList-from_first}
use Rattle.parts.proofs.walk.walk.Goals as goal

pub returns-clause-shown : goal.returns-clause-shown
returns-clause-shown g c = (YieldsList-from_first (λ x. x) (λ w. w) _ c.walk_above.ensures).runs
