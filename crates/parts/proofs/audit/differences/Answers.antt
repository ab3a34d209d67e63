use Rattle.model.proofs.Audit.{in_turn, first_agrees}
use Rattle.parts.specs.Keys.{order}
use Rattle.parts.proofs.Lawful.{order_lawful}
use Rattle.parts.proofs.audit.differences.Goals as goal

pub returns-clause-listed : goal.returns-clause-listed
returns-clause-listed g c = in_turn order order_lawful _

pub returns-clause-agrees : goal.returns-clause-agrees
returns-clause-agrees g c = λ keys d. first_agrees order order_lawful _ _ keys (g.A.Inventory.rising c.args.a.now) (g.B.Inventory.rising c.args.b.now) (in_turn order order_lawful _ keys d)
