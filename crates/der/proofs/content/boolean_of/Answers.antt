use Rattle.std.proofs.Common.{[], ◌∷◌, rules}
use Rattle.std.proofs.lemmas.Slice.Eq.{text_from_reads}
use Rattle.der.proofs.content.boolean_of.Goals as goal

pub returns-in-255 : goal.returns-in-255
returns-in-255 c = record { is = search rules; means = text_from_reads c.args.content.now (255 ∷ []) (search rules) (search rules) }

pub returns-in-0 : goal.returns-in-0
returns-in-0 c = record { is = search rules; means = text_from_reads c.args.content.now (0 ∷ []) (search rules) (search rules) }
