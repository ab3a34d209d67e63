use Rattle.std.proofs.Common.{sym}
use Rattle.model.proofs.Walks.{answers_fall}
use Rattle.parts.specs.Keys.{order}
use Rattle.parts.proofs.Lawful.{order_lawful}
use Rattle.parts.proofs.audit.AuditsIterator.next.Goals as goal

pub returns-clause-goes : goal.returns-clause-goes
returns-clause-goes g c =
    let s = c.self.inside in
    let found = c.in_ok-key.ensures in
    let falls = answers_fall order order_lawful s.passed c.in_ok-key.key _ _ (g.A.Inventory.rising s.a.now) (g.B.Inventory.rising s.b.now) found.0 found.1 in
    rw (sym c.self.view_is) (record { on = λ _. (tt, tt, falls); keeps = tt; rests = λ _. tt })
