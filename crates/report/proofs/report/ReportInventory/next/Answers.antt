use Rattle.std.proofs.Common.{Some, sym, ap, ◌∙◌}
use Rattle.std.specs.Option.{option_map}
use Rattle.report.specs.Meaning.{part_at}
use Rattle.report.proofs.Entries.{shown_in}
use Rattle.report.proofs.report.ReportInventory.next.Goals as goal

pub returns-in_err-i : goal.returns-in_err-i
returns-in_err-i c =
    let x = c.args.self.now in
    c.from_residual.ensures ∙ ap (option_map (part_at x.file.now x.keys)) c.in_err-i.ensures.is ∙ sym (shown_in (λ k. k.now) x.file.now x.keys c.args.above x.counted)

pub returns : goal.returns
returns c =
    let x = c.args.self.now in
    ap (λ d. Some d) c.part.ensures ∙ ap (option_map (part_at x.file.now x.keys)) c.in_ok-i.ensures.is ∙ sym (shown_in (λ k. k.now) x.file.now x.keys c.args.above x.counted)
