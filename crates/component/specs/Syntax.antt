-- The format of a configuration: the bytes of a list of components.
use Rattle.std.specs.Prelude.{ℕ, List, [], ◌∷◌, ◌++◌, Some, None, Option}
use Rattle.std.specs.List.{flat_map}
use Rattle.std.specs.Option.{option_map}
use Rattle.der.specs.Contents.{boolean_bytes}
use Rattle.der.specs.Encoding.{encoded}
use Rattle.model.specs.declared.part.Status.{Status}
use Rattle.model.specs.declared.part.Status.TheVariants.{Added, Modified, Removed}
use Rattle.parts.specs.declared.key.Key.{Key}
use Rattle.parts.specs.declared.details.Details.{Details}
use Rattle.parts.specs.Bounds.{content}
use Rattle.reader.specs.declared.kind.Kind.{Kind}
use Rattle.reader.specs.declared.kind.Kind.TheVariants.{Platform, Delta}
use Rattle.reader.specs.Syntax.{perhaps_bytes, Listed}
use Rattle.component.specs.Registries.{registry_bytes}

-- a component: key, details, status, and the contents of the fields that are passed over
pub record Component : Type 0 where
  pub key : Key
  pub details : Details
  pub status : Option Status
  pub manufacturer : Option (List ℕ)
  pub addresses : Option (List ℕ)
  pub certificate : Option (List ℕ)
  pub location : Option (List ℕ)

-- class, maker, model and serial text
abbrev pub key_bytes : Key → List ℕ
key_bytes k =
    encoded 0x30 (encoded 0x06 (registry_bytes k.registry) ++ encoded 0x04 k.class) ++
    (encoded 0x0C (content k.maker) ++ (encoded 0x0C (content k.model) ++ encoded 0x80 (content k.serial)))

-- a text that may be missing: it is where it has no bytes
abbrev pub unless_empty : List ℕ → Option (List ℕ)
unless_empty [] = None
unless_empty (b ∷ bs) = Some (b ∷ bs)

-- a status is one byte
abbrev pub status_bytes : Status → List ℕ
status_bytes Added = 0 ∷ []
status_bytes Modified = 1 ∷ []
status_bytes Removed = 2 ∷ []

-- the fields that may be missing, in their order
abbrev pub field_bytes : Component → List ℕ
field_bytes c =
    perhaps_bytes (encoded 0x81) (unless_empty (content c.details.revision)) ++
    (perhaps_bytes (encoded 0x82) c.manufacturer ++
    (perhaps_bytes (encoded 0x83) (option_map boolean_bytes c.details.replaceable) ++
    (perhaps_bytes (encoded 0xA4) c.addresses ++
    (perhaps_bytes (encoded 0xA5) c.certificate ++
    (perhaps_bytes (encoded 0xA6) c.location ++
    perhaps_bytes (encoded 0x87) (option_map status_bytes c.status))))))

-- a component
abbrev pub component_bytes : Component → List ℕ
component_bytes c = encoded 0x30 (key_bytes c.key ++ field_bytes c)

-- a platform's component has no status, a delta's has one
abbrev pub StatusOf : Kind → Option Status → Type 0
StatusOf Platform None = Unit {0}
StatusOf Platform (Some s) = ⊥
StatusOf Delta None = ⊥
StatusOf Delta (Some s) = Unit {0}

abbrev pub StatusAsked : Kind → Component → Type 0
StatusAsked kind c = StatusOf kind c.status

-- the most components of a certificate
abbrev pub most : Kind → ℕ
most Platform = 128
most Delta = 16

-- a configuration: its components, and the contents of the elements that are passed over
pub record Configuration : Type 0 where
  pub components : List Component
  pub uri : Option (List ℕ)
  pub properties : Option (List ℕ)
  pub properties_uri : Option (List ℕ)

-- its bytes
abbrev pub configuration_bytes : Configuration → List ℕ
configuration_bytes c =
    encoded 0x30
    (encoded 0xA0 (flat_map component_bytes c.components) ++
    (perhaps_bytes (encoded 0xA1) c.uri ++
    (perhaps_bytes (encoded 0xA2) c.properties ++
    perhaps_bytes (encoded 0xA3) c.properties_uri)))

-- its rule: not too many components, each with the status that its kind asks for, no key twice
abbrev pub KeptConfiguration : Kind → Configuration → Type 0
KeptConfiguration kind c = Listed (most kind) (StatusAsked kind) (λ (x : Component). x.key) c.components
