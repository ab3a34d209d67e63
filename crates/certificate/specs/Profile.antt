-- The profile of a certificate: which files are certificates of a kind, and what is read from them.
use Rattle.std.specs.Prelude.{◌≡◌, ℕ, ◌≤◌, List, map, length}
use Rattle.reader.specs.declared.kind.Kind.{Kind}
use Rattle.reader.specs.declared.kind.Kind.TheVariants.{Platform, Delta}
use Rattle.reader.specs.Syntax.{Among, other_bytes}
use Rattle.envelope.specs.Identifiers.{platform_configuration}
use Rattle.envelope.specs.Profile.{Reference, Validity, Attribute, signed_bytes, Envelope, KeptEnvelope, envelope_bytes}
use Rattle.component.specs.Syntax.{Component, Configuration, configuration_bytes, KeptConfiguration}
use Rattle.certificate.specs.declared.line.Line.{Line}
use Rattle.certificate.specs.Checks.{most_bytes}

-- a certificate: its envelope, and the configuration that stands in one of its attributes
pub record Certificate : Type 0 where
  pub envelope : Envelope
  pub configuration : Configuration

-- a file is a certificate of a kind: it is not too long, it is the envelope's bytes, the element of the attribute
-- platformConfiguration is the configuration's bytes, and both keep their rules
pub record Profile (kind : Kind) (file : List ℕ) (c : Certificate) : Type 0 where
  pub size : length file ≤ most_bytes
  pub bytes : file ≡ envelope_bytes c.envelope
  pub envelope : KeptEnvelope kind c.envelope
  pub configured : Among (λ (a : Attribute). (a.identifier ≡ platform_configuration) × (other_bytes a.element ≡ configuration_bytes c.configuration)) c.envelope.signed.attributes
  pub configuration : KeptConfiguration kind c.configuration

-- what is read of a component: key, details, status
abbrev pub line_of : Component → Line
line_of c = record { key = c.key; details = c.details; status = c.status }

-- what is read of a certificate: the signed part as a whole, the signature, issuer, serial, holder, validity, and the
-- components in order
pub record Reading : Type 0 where
  pub signed : List ℕ
  pub signature : List ℕ
  pub issuer : List ℕ
  pub serial : List ℕ
  pub holder : Reference
  pub validity : Validity
  pub components : List Line

abbrev pub reading_of : Certificate → Reading
reading_of c = record {
  signed = signed_bytes c.envelope.signed;
  signature = c.envelope.signature;
  issuer = c.envelope.signed.issuer;
  serial = c.envelope.signed.serial;
  holder = c.envelope.signed.holder;
  validity = c.envelope.signed.validity;
  components = map line_of c.configuration.components;
}

-- no file is a certificate of both kinds
abbrev pub OneKind : List ℕ → Type 0
OneKind file = (c d : Certificate) → Profile Platform file c → Profile Delta file d → ⊥
