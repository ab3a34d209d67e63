-- The object identifiers that are looked for, by their content bytes.
use Rattle.std.specs.Prelude.{ℕ, List, [], ◌∷◌}
use Rattle.reader.specs.declared.kind.Kind.{Kind}
use Rattle.reader.specs.declared.kind.Kind.TheVariants.{Platform, Delta}
use Rattle.reader.specs.Kinds.{other}

-- 2.23.133.2.25
abbrev pub credential_type : List ℕ
credential_type = 0x67 ∷ 0x81 ∷ 0x05 ∷ 0x02 ∷ 0x19 ∷ []

-- 2.23.133.2.23
abbrev pub credential_specification : List ℕ
credential_specification = 0x67 ∷ 0x81 ∷ 0x05 ∷ 0x02 ∷ 0x17 ∷ []

-- 2.23.133.5.1.7.2
abbrev pub platform_configuration : List ℕ
platform_configuration = 0x67 ∷ 0x81 ∷ 0x05 ∷ 0x05 ∷ 0x01 ∷ 0x07 ∷ 0x02 ∷ []

-- 2.23.133.8.2
abbrev pub platform_type : List ℕ
platform_type = 0x67 ∷ 0x81 ∷ 0x05 ∷ 0x08 ∷ 0x02 ∷ []

-- 2.23.133.8.5
abbrev pub delta_type : List ℕ
delta_type = 0x67 ∷ 0x81 ∷ 0x05 ∷ 0x08 ∷ 0x05 ∷ []

-- 2.5.29.17
abbrev pub subject_alt_name : List ℕ
subject_alt_name = 0x55 ∷ 0x1D ∷ 0x11 ∷ []

-- 2.5.29.32
abbrev pub certificate_policies : List ℕ
certificate_policies = 0x55 ∷ 0x1D ∷ 0x20 ∷ []

-- 2.5.29.35
abbrev pub authority_key_identifier : List ℕ
authority_key_identifier = 0x55 ∷ 0x1D ∷ 0x23 ∷ []

-- the type of a kind of certificate, and that of the other
abbrev pub type_of : Kind → List ℕ
type_of Platform = platform_type
type_of Delta = delta_type

abbrev pub other_type : Kind → List ℕ
other_type kind = type_of (other kind)
