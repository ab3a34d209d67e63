use Rattle.std.proofs.Common.{rules, sym, ap, ◌∙◌, arith}
use Rattle.model.specs.Parts.{above}
use Rattle.model.proofs.Walks.{beyond_end, beyond_next}
use Rattle.parts.specs.Keys.{order}
use Rattle.parts.proofs.Lawful.{order_lawful}
use Rattle.parts.proofs.walk.PartsIterator.next.Goals as goal

pub returns-in_err-part-clause-steps : goal.returns-in_err-part-clause-steps
returns-in_err-part-clause-steps g c =
    let shown = sym c.in_err-part.was ∙ (c.next.ensures ∙ ap (λ k. above order k (g.I.Inventory.parts c.self.inside.inventory.now)) c.as_ref.ensures.value) in
    let none = sym c.self.view_is ∙ beyond_end order c.self.inside.passed (g.I.Inventory.parts c.self.inside.inventory.now) shown in
    rw c.from_residual.ensures (none, none)

pub returns-clause-steps : goal.returns-clause-steps
returns-clause-steps g c =
    let shown = sym c.in_ok-part.was ∙ (c.next.ensures ∙ ap (λ k. above order k (g.I.Inventory.parts c.self.inside.inventory.now)) c.as_ref.ensures.value) in
    sym c.self.view_is ∙ beyond_next order order_lawful _ _ _ (g.I.Inventory.rising c.self.inside.inventory.now) shown

pub returns-clause-goes : goal.returns-clause-goes
returns-clause-goes g c = let first = returns-clause-steps g c in search (rules, arith)
