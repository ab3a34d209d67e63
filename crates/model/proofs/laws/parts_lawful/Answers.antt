use Rattle.model.proofs.PartLaws.{part_laws}
use Rattle.model.proofs.laws.parts_lawful.Goals as goal

pub returns : goal.returns
returns g c = part_laws
