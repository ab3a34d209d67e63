-- The two kinds of certificate.
use Rattle.reader.specs.declared.kind.Kind.{Kind}
use Rattle.reader.specs.declared.kind.Kind.TheVariants.{Platform, Delta}

-- the other one
abbrev pub other : Kind → Kind
other Platform = Delta
other Delta = Platform
