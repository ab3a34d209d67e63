use Rattle.std.proofs.Common.{rules}
use Rattle.std.proofs.lemmas.Bool.Decides.{Decides-at}
use Rattle.der.proofs.Rules.{serial_decides}
use Rattle.der.proofs.content.is_serial.Goals as goal

pub returns-then-content-gt1 : goal.returns-then-content-gt1
returns-then-content-gt1 c = record { is = search rules; means = Decides-at _ _ (search rules) (serial_decides c.args.content.now) }

pub returns-else-content-gt1 : goal.returns-else-content-gt1
returns-else-content-gt1 c = record { is = search rules; means = Decides-at _ _ (search rules) (serial_decides c.args.content.now) }
