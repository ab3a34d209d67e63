use Rattle.std.proofs.Common.{not, ◌∙◌, rules, tests}
use Rattle.std.proofs.lemmas.Iterator.{YieldsList-from_slice}
use Rattle.std.proofs.lemmas.Iterator.Search.{all_from_yields_List}
use Rattle.component.specs.Readings.{same_key}
use Rattle.component.proofs.KeyLaws.{new_of_all}
use Rattle.component.proofs.key.is_new.Goals as goal

pub returns : goal.returns
returns c =
    all_from_yields_List (λ p. not (same_key c.args.file.now p.key c.args.key.now)) _ _ c.all.result c.all.ensures.ran (YieldsList-from_slice c.args.seen.now cc) (λ x b q k. search (rules, tests))
    ∙ new_of_all c.args.file.now c.args.key.now c.args.seen.now
