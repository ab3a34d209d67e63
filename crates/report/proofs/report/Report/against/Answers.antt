use Rattle.std.proofs.Common.{ap, ◌∙◌}
use Rattle.parts.specs.Keys.{fields_of, in_turn, order}
use Rattle.parts.proofs.Built.{key_from}
use Rattle.report.specs.Layout.{fields_at}
use Rattle.report.proofs.Entries.{order_at, checked_good}
use Rattle.report.proofs.report.Report.against.Goals as goal

pub returns : goal.returns
returns c =
    let r = c.key.result in
    let g = checked_good r.found.file.now r.found.at r.found.within r.met in
    c.against.ensures ∙ ap (in_turn (fields_of c.args.key.now)) c.lent.ensures ∙ order_at c.args.key.now _ g
    ∙ (λ j. order c.args.key.now (key_from (fields_at (c.key.ensures.0 j) (c.key.ensures.1 j))))
