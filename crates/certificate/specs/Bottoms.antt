-- The inventory that a platform certificate certifies.
use Rattle.std.specs.Prelude.{◌≡◌, List, map}
use Rattle.model.specs.declared.part.Part.{Part}
use Rattle.model.specs.Gathered.{gathered}
use Rattle.parts.specs.declared.key.Key.{Key}
use Rattle.parts.specs.declared.details.Details.{Details}
use Rattle.parts.specs.declared.head.Head.{Head}
use Rattle.parts.specs.Bounds.{content}
use Rattle.parts.specs.Keys.{order}
use Rattle.certificate.specs.declared.line.Line.{Line}
use Rattle.certificate.specs.Profile.{Reading}

-- the part that a component is
abbrev pub part_of : Line → Part Key Details
part_of l = record { key = l.key; details = l.details }

-- the parts: the components, as a rising list
abbrev pub parts_of : List Line → List (Part Key Details)
parts_of ls = gathered order (map part_of ls)

-- the head: the certificate's own issuer and serial
pub record HeadOf (r : Reading) (h : Head) : Type 0 where
  pub issuer : content h.issuer ≡ r.issuer
  pub serial : content h.serial ≡ r.serial
