use Rattle.std.proofs.Common.{is_ok, ap, arith}
use Rattle.model.proofs.Rises.{rises_tells}
use Rattle.parts.specs.Keys.{order}
use Rattle.report.specs.Meaning.{parts_in}
use Rattle.report.specs.Format.{Reports}
use Rattle.report.proofs.Whole.{sound}
use Rattle.report.proofs.report.Report.make.Goals as goal

pub invariant_of-result-clause-ok : goal.invariant_of-result-clause-ok
invariant_of-result-clause-ok c = ap is_ok c.requires

pub invariant_of-result-clause-up : goal.invariant_of-result-clause-up
invariant_of-result-clause-up c = rises_tells order (parts_in c.args.file.now) (sound c.args.file.now (λ k. omega (arith, c.type_inv.file k)) c.requires).rising

pub invariant_of-result-clause-small : goal.invariant_of-result-clause-small
invariant_of-result-clause-small c =
    let r : Reports c.args.file.now (parts_in c.args.file.now) = sound c.args.file.now (λ k. omega (arith, c.type_inv.file k)) c.requires in
    let few = r.few in
    omega arith

pub returns-clause-means : goal.returns-clause-means
returns-clause-means c = sound c.args.file.now (λ k. omega (arith, c.type_inv.file k)) c.requires
