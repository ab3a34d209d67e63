-- What the places of a component mean. Where their bytes keep no rule they mean some value, which nobody asks for.
use Rattle.std.specs.Prelude.{◌≡◌, ℕ, cond, List, [], length, Some, None, Option, ◌==◌, slice_index}
use Rattle.std.specs.Option.{option_map}
use Rattle.der.specs.Contents.{boolean_of}
use Rattle.model.specs.declared.part.Status.{Status}
use Rattle.model.specs.declared.part.Status.TheVariants.{Added, Modified, Removed}
use Rattle.parts.specs.declared.key.Key.{Key}
use Rattle.parts.specs.declared.details.Details.{Details}
use Rattle.parts.specs.Keys.{Fields, said, number_of}
use Rattle.parts.proofs.Built.{key_from, bounded_or, none, registry_or}
use Rattle.reader.specs.Readers.{cut}
use Rattle.component.specs.declared.places.KeyPlaces.{KeyPlaces}
use Rattle.component.specs.declared.places.ComponentPlaces.{ComponentPlaces}
use Rattle.component.specs.Registries.{registry_named}
use Rattle.component.specs.Syntax.{Component}

-- the number of the registry with an identifier
abbrev pub registry_number : List ℕ → ℕ
registry_number name = number_of (registry_or (registry_named name))

-- the fields of a key
abbrev pub fields_in : List ℕ → KeyPlaces → Fields
fields_in file p = said (registry_number (cut file p.registry)) (cut file p.class) (cut file p.maker) (cut file p.model) (cut file p.serial)

-- the key
abbrev pub key_in : List ℕ → KeyPlaces → Key
key_in file p = key_from (fields_in file p)

-- what a content that may be missing stands for
abbrev pub meant : {X : Type 0} → (List ℕ → Option X) → Option (List ℕ) → Option X
meant of None = None
meant of (Some c) = of c

-- the bytes of a text that may be missing
abbrev pub or_empty : Option (List ℕ) → List ℕ
or_empty None = []
or_empty (Some c) = c

-- details by the contents of their fields
abbrev pub details_by : Option (List ℕ) → Option (List ℕ) → Details
details_by revision replaceable = record { revision = bounded_or none (or_empty revision); replaceable = meant boolean_of replaceable }

-- the details
abbrev pub details_in : List ℕ → ComponentPlaces → Details
details_in file p = details_by (option_map (cut file) p.revision) (option_map (cut file) p.replaceable)

-- the status that a content stands for
abbrev pub status_of : List ℕ → Option Status
status_of content =
    cond (length content == 1)
    (cond (slice_index content 0 == 0) (Some Added) (cond (slice_index content 0 == 1) (Some Modified) (cond (slice_index content 0 == 2) (Some Removed) None)))
    None

-- the status
abbrev pub status_in : List ℕ → ComponentPlaces → Option Status
status_in file p = meant status_of (option_map (cut file) p.status)

-- places mean a component: its key, its details, its status
pub record Means (file : List ℕ) (p : ComponentPlaces) (c : Component) : Type 0 where
  pub key : key_in file p.key ≡ c.key
  pub details : details_in file p ≡ c.details
  pub status : status_in file p ≡ c.status
