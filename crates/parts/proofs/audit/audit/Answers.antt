use Rattle.model.proofs.Audit.{agreeing}
use Rattle.parts.specs.Keys.{order}
use Rattle.parts.proofs.Lawful.{order_lawful}
use Rattle.parts.proofs.audit.audit.Goals as goal

pub returns : goal.returns
returns g c =
    record {
      audits = c.audit_from.ensures;
      agrees = agreeing order order_lawful _ _ c.audit_from.result (g.A.Inventory.rising c.args.a.now) (g.B.Inventory.rising c.args.b.now) c.audit_from.ensures;
    }
