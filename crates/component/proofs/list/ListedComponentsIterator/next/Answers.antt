use Rattle.std.proofs.Common.{sym, ◌∙◌, rules, arith}
use Rattle.component.proofs.Walks.{step}
use Rattle.component.proofs.list.ListedComponentsIterator.next.Goals as goal

pub returns-clause-steps : goal.returns-clause-steps
returns-clause-steps c =
    let l = c.self.inside in
    let r = c.in-Ok.ensures.is in
    rw (r.file, r.end) (sym c.self.view_is ∙ step l.kind l.left l.cursor.file.now l.cursor.at l.cursor.end (c.in-Ok.component, c.read_component.new.cursor.at) c.if-self-eq0.false c.if-self.false (sym r.is))

pub returns-clause-goes : goal.returns-clause-goes
returns-clause-goes c = let first = returns-clause-steps c in search (rules, arith)
