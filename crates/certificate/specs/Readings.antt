-- What stands at the places that a check answers, and what its answer says of the profile.
use Rattle.std.specs.Prelude.{◌≡◌, ℕ, List, map, length, drop, Ok, Err, Option, Result, slice_get}
use Rattle.der.specs.declared.refusal.Refusal.{Refusal}
use Rattle.reader.specs.declared.kind.Kind.{Kind}
use Rattle.reader.specs.Readers.{cut}
use Rattle.component.specs.declared.places.ComponentPlaces.{ComponentPlaces}
use Rattle.component.specs.Syntax.{most}
use Rattle.component.specs.Readings.{components_from}
use Rattle.component.specs.Meaning.{key_in, details_in, status_in}
use Rattle.certificate.specs.declared.line.Line.{Line}
use Rattle.certificate.specs.declared.lent.LentCertificate.{LentCertificate}
use Rattle.certificate.specs.declared.places.Places.{Places}
use Rattle.certificate.specs.Profile.{Certificate, Profile, Reading, reading_of}

-- a component, of where its fields stand
abbrev pub line_in : List ℕ → ComponentPlaces → Line
line_in file p = record { key = key_in file p.key; details = details_in file p; status = status_in file p }

-- the components of the list, one behind the other
abbrev pub places_in : Kind → List ℕ → Places → List ComponentPlaces
places_in kind file p = components_from kind (most kind) file p.components.list.from p.components.list.to

-- what stands at the places
abbrev pub reading_at : Kind → List ℕ → Places → Reading
reading_at kind file p = record {
  signed = cut file p.envelope.signed;
  signature = drop 1 (cut file p.envelope.signature);
  issuer = cut file p.envelope.fields.issuer;
  serial = cut file p.envelope.fields.serial;
  holder = record { issuer = cut file p.envelope.fields.holder.issuer; serial = cut file p.envelope.fields.holder.serial };
  validity = record { first = cut file p.envelope.fields.validity.first; last = cut file p.envelope.fields.validity.last };
  components = map (line_in file) (places_in kind file p);
}

-- what stands at the places of a certificate
abbrev pub reading : LentCertificate → Reading
reading c = reading_at c.kind c.file.now c.places

-- the element of a list with a number from 0, or none
abbrev pub nth_of : {X : Type 0} → ℕ → List X → Option X
nth_of n xs = slice_get xs n

-- the file is a certificate of the kind, its reading stands at the places, it has no other, and the components are
-- counted
pub record Reads (kind : Kind) (file : List ℕ) (p : Places) : Type 0 where
  pub certificate : Certificate
  pub profile : Profile kind file certificate
  pub stands : reading_at kind file p ≡ reading_of certificate
  pub alone : (c : Certificate) → Profile kind file c → reading_of c ≡ reading_of certificate
  pub counted : p.components.count ≡ length (reading_at kind file p).components

-- the answer of a check: yes exactly where the file keeps the profile
abbrev pub Told : Kind → List ℕ → Result Places Refusal → Type 0
Told kind file (Ok p) = Reads kind file p
Told kind file (Err e) = (c : Certificate) → Profile kind file c → ⊥
