use Rattle.std.proofs.Common.{◌≡◌}
use Rattle.std.specs.Option.{option_map}
use Rattle.reader.specs.declared.kind.Kind.TheVariants.{Platform}
use Rattle.model.specs.Parts.{above}
use Rattle.parts.specs.Keys.{order}
use Rattle.certificate.specs.Readings.{reading_at}
use Rattle.certificate.specs.Bottoms.{parts_of}
use Rattle.certificate.proofs.Bottoms.{nearest_in}
use Rattle.certificate.proofs.bottom.BottomInventory.next.Given as goal

-- what is left, with the best so far, gives the answer
abbrev pub invariant-loop-line : goal.invariant-loop-line
invariant-loop-line l = nearest_in (option_map (λ x. x.now) l.above) l.nearest l.line-iterator ≡ above order (option_map (λ x. x.now) l.above) (parts_of (reading_at Platform l.self.file.now l.self.places).components)
