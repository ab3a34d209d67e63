use Rattle.model.proofs.Audit.{Abreast}
use Rattle.parts.specs.Keys.{order}
use Rattle.parts.proofs.Lawful.{order_lawful}
use Rattle.parts.proofs.audit.audit_from.Given as goal

abbrev pub invariant-loop-q : goal.invariant-loop-q
invariant-loop-q g l = Abreast order order_lawful (g.A.Inventory.parts l.fn.a) (g.B.Inventory.parts l.fn.b) l.fn.from l.left l.right
