use Rattle.std.proofs.Common.{sym, ap}
use Rattle.parts.specs.Keys.{lent_fields, number_of}
use Rattle.parts.proofs.Built.{registry_or}
use Rattle.reader.specs.Readers.{cut}
use Rattle.component.specs.Registries.{registry_named}
use Rattle.component.specs.Meaning.{fields_in}
use Rattle.component.proofs.Makings.{registry_back, key_made, key_never}
use Rattle.component.proofs.meaning.PlacedKey.key.Goals as goal

pub unreachable-requires : goal.unreachable-requires
unreachable-requires c = key_never (lent_fields c.lent-lent.result) (fields_in c.args.self.now.file.now c.args.self.now.places) c.lent-lent.ensures (sym (ap number_of (registry_back (registry_or (registry_named (cut c.args.self.now.file.now c.args.self.now.places.registry)))))) _ _ _ _ c.class_of-class.ensures c.text_of-maker.ensures c.text_of-model.ensures c.text_of-serial.ensures c.in_default.field-0 c.in_default.ensures

pub returns : goal.returns
returns c = key_made (lent_fields c.lent-lent.result) (fields_in c.args.self.now.file.now c.args.self.now.places) c.lent-lent.ensures (sym (ap number_of (registry_back (registry_or (registry_named (cut c.args.self.now.file.now c.args.self.now.places.registry)))))) _ _ _ _ c.class_of-class.ensures c.text_of-maker.ensures c.text_of-model.ensures c.text_of-serial.ensures c.in-Ok.key c.in-Ok.ensures
