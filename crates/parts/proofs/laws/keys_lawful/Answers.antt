use Rattle.model.proofs.PartLaws.{part_laws}
use Rattle.parts.specs.Keys.{order}
use Rattle.parts.proofs.Lawful.{order_lawful, byte_order, compared}
use Rattle.parts.proofs.laws.keys_lawful.Goals as goal

pub returns : goal.returns
returns c = record { lawful = order_lawful; bytes = byte_order; parts = part_laws order order_lawful; compared = compared }
