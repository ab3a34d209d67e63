use Rattle.std.proofs.Common.{◌≡◌, ◌∙◌, ap, rules}
use Rattle.std.specs.Option.{option_map, unwrap_or}
use Rattle.parts.proofs.Built.{none, bounded_or}
use Rattle.reader.specs.Readers.{cut}
use Rattle.component.specs.Meaning.{or_empty}
use Rattle.component.proofs.Makings.{revision_made}
use Rattle.component.proofs.meaning.PlacedComponent.revision.Goals as goal

pub returns : goal.returns
returns c =
    let held : c.map_or-content.result.now ≡ or_empty (option_map (cut c.args.self.now.file.now) c.args.self.now.places.revision) = search rules in
    let made = revision_made c.map_or-content.result.now c.new.result c.new.ensures in
    c.unwrap_or.ensures ∙ (ap (unwrap_or c.new.result) c.no_revision.ensures ∙ (made ∙ ap (bounded_or none) held))
