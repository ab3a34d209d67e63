use Rattle.std.proofs.Common.{rules, tests}
use Rattle.std.proofs.lemmas.Iterator.{YieldsList-from_slice}
use Rattle.std.proofs.lemmas.Iterator.Search.{all_from_yields_List}
use Rattle.der.specs.Times.{is_between}
use Rattle.der.proofs.time.all_digits.Goals as goal

pub returns : goal.returns
returns c = all_from_yields_List (λ x. is_between 48 x 57) _ _ c.all.result c.all.ensures.ran (YieldsList-from_slice c.args.bytes.now cc) (λ x b q k. search (rules, tests))
