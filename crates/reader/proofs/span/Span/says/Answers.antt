use Rattle.std.proofs.Common.{ℕ, List, ap, ◌∙◌}
use Rattle.std.proofs.lemmas.Bool.Decides.{same_from_decides}
use Rattle.reader.specs.Readers.{same}
use Rattle.reader.proofs.Labels.{same_decides}
use Rattle.reader.proofs.span.Span.says.Goals as goal

pub returns : goal.returns
returns c = same_from_decides _ _ c.same_identifier.ensures (same_decides c.of.result.now c.args.wanted.now) ∙ ap (λ (xs : List ℕ). same xs c.args.wanted.now) c.of.ensures
