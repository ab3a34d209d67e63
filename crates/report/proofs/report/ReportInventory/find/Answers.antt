use Rattle.std.proofs.Common.{ℕ, List, Some, sym, ap, ◌∙◌}
use Rattle.std.specs.Option.{option_map}
use Rattle.parts.specs.declared.details.Details.{Details}
use Rattle.report.specs.Meaning.{part_at}
use Rattle.report.proofs.Entries.{looked_up_in}
use Rattle.report.proofs.report.ReportInventory.find.Goals as goal

abbrev details_in : List ℕ → ℕ → ℕ → Details
details_in file n i = (part_at file n i).details

pub returns-in_err-i : goal.returns-in_err-i
returns-in_err-i c =
    let x = c.args.self.now in
    c.from_residual.ensures ∙ ap (option_map (details_in x.file.now x.keys)) c.in_err-i.ensures.is ∙ sym (looked_up_in x.file.now x.keys c.args.key.now x.counted)

pub returns : goal.returns
returns c =
    let x = c.args.self.now in
    ap (λ d. Some d) c.details.ensures ∙ ap (option_map (details_in x.file.now x.keys)) c.in_ok-i.ensures.is ∙ sym (looked_up_in x.file.now x.keys c.args.key.now x.counted)
