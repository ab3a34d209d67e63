use Rattle.std.proofs.Common.{arith}
use Rattle.report.proofs.Whole.{told}
use Rattle.report.proofs.check.check_report.Goals as goal

pub returns : goal.returns
returns c =
    record {
      is = c.check_parts.ensures;
      told = told c.args.file.now c.check_parts.result (λ k. omega (arith, c.type_inv.file k)) c.check_parts.ensures;
    }
