use Rattle.std.proofs.Common.{sym}
use Rattle.std.proofs.lemmas.Bool.Decides.{not_from_Decides}
use Rattle.model.proofs.Audit.{abreast, both_end, left_alone, right_alone, left_lower, right_lower, details_apart, parts_agree}
use Rattle.parts.specs.Keys.{order}
use Rattle.parts.proofs.Lawful.{order_lawful}
use Rattle.parts.proofs.audit.audit_from.Goals as goal

pub loop-q-init : goal.loop-q-init
loop-q-init g c = rw (c.walk_above-left.ensures, c.walk_above-right.ensures) (abreast order order_lawful _ _ c.args.from)

pub returns-in-None-None : goal.returns-in-None-None
returns-in-None-None g c =
    let left = rw c.in-None-None.is-0 at c.next.ensures.steps in
    let right = rw c.in-None-None.is-1 at c.next-in-loop-q.ensures.steps in
    both_end order order_lawful (g.A.Inventory.rising c.args.a.now) (g.B.Inventory.rising c.args.b.now) c.loop-q.invariant left.0 right.0

pub returns-in-None-Some : goal.returns-in-None-Some
returns-in-None-Some g c =
    let left = rw c.in-None-Some.is-0 at c.next.ensures.steps in
    let right = rw c.in-None-Some.is-1 at c.next-in-loop-q.ensures.steps in
    right_alone order order_lawful (g.A.Inventory.rising c.args.a.now) (g.B.Inventory.rising c.args.b.now) c.loop-q.invariant c.in-None-Some.q _ left.0 right

pub returns-in-Some-None : goal.returns-in-Some-None
returns-in-Some-None g c =
    let left = rw c.in-Some-None.is-0 at c.next.ensures.steps in
    let right = rw c.in-Some-None.is-1 at c.next-in-loop-q.ensures.steps in
    left_alone order order_lawful (g.A.Inventory.rising c.args.a.now) (g.B.Inventory.rising c.args.b.now) c.loop-q.invariant c.in-Some-None.p _ left right.0

pub returns-in-Less : goal.returns-in-Less
returns-in-Less g c =
    let left = rw c.in-Some-Some.is-0 at c.next.ensures.steps in
    let right = rw c.in-Some-Some.is-1 at c.next-in-loop-q.ensures.steps in
    left_lower order order_lawful (g.A.Inventory.rising c.args.a.now) (g.B.Inventory.rising c.args.b.now) c.loop-q.invariant c.in-Some-Some.p c.in-Some-Some.q _ _ left right (sym c.in-Less.ensures)

pub returns-in-Greater : goal.returns-in-Greater
returns-in-Greater g c =
    let left = rw c.in-Some-Some.is-0 at c.next.ensures.steps in
    let right = rw c.in-Some-Some.is-1 at c.next-in-loop-q.ensures.steps in
    right_lower order order_lawful (g.A.Inventory.rising c.args.a.now) (g.B.Inventory.rising c.args.b.now) c.loop-q.invariant c.in-Some-Some.p c.in-Some-Some.q _ _ left right (sym c.in-Greater.ensures)

pub returns-then-not-same : goal.returns-then-not-same
returns-then-not-same g c =
    let left = rw c.in-Some-Some.is-0 at c.next.ensures.steps in
    let right = rw c.in-Some-Some.is-1 at c.next-in-loop-q.ensures.steps in
    details_apart order order_lawful (g.A.Inventory.rising c.args.a.now) (g.B.Inventory.rising c.args.b.now) c.loop-q.invariant c.in-Some-Some.p c.in-Some-Some.q _ _ left right (sym c.in-Equal.ensures) (not_from_Decides _ c.same.ensures c.if-not-same.true)

pub loop-q-preserved : goal.loop-q-preserved
loop-q-preserved g c =
    let left = rw c.in-Some-Some.is-0 at c.next.ensures.steps in
    let right = rw c.in-Some-Some.is-1 at c.next-in-loop-q.ensures.steps in
    parts_agree order order_lawful (g.A.Inventory.rising c.args.a.now) (g.B.Inventory.rising c.args.b.now) c.loop-q.invariant c.in-Some-Some.p c.in-Some-Some.q _ _ left right (sym c.in-Equal.ensures) (c.same.ensures.0 c.if-not-same.false)
