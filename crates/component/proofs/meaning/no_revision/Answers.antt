use Rattle.std.proofs.Common.{[], sym, ◌∙◌}
use Rattle.component.proofs.Makings.{revision_some, none_empty}
use Rattle.component.proofs.meaning.no_revision.Goals as goal

pub returns : goal.returns
returns c = revision_some [] c.in-Some.revision c.in-Some.ensures ∙ sym none_empty
