use Rattle.std.proofs.Common.{ap, ◌∙◌, arith}
use Rattle.certificate.specs.Checks.{checked}
use Rattle.certificate.proofs.KindLaw.{one_kind}
use Rattle.certificate.proofs.Whole.{told}
use Rattle.certificate.proofs.check.check.Goals as goal

pub returns-clause-told : goal.returns-clause-told
returns-clause-told g c = told c.args.file.now (λ i. omega (arith, c.type_inv.file i)) g.K.OfKind.kind c.check_kind.result (c.check_kind.ensures ∙ ap (λ k. checked k c.args.file.now) c.kind.ensures)

pub returns-clause-one : goal.returns-clause-one
returns-clause-one g c = one_kind c.args.file.now
