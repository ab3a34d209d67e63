-- The identifiers of the registries that a component's class comes from.
use Rattle.std.specs.Prelude.{ℕ, cond, List, [], ◌∷◌, Some, None, Option}
use Rattle.std.specs.Str.{bytes_eq}
use Rattle.parts.specs.declared.key.Registry.{Registry}
use Rattle.parts.specs.declared.key.Registry.TheVariants.{Tcg, Dmtf, Pcie, Storage}

-- the content of a registry's identifier, 2.23.133.18.3 and the registry's last number
abbrev pub registry_bytes : Registry → List ℕ
registry_bytes Tcg = 0x67 ∷ 0x81 ∷ 0x05 ∷ 0x12 ∷ 0x03 ∷ 0x01 ∷ []
registry_bytes Dmtf = 0x67 ∷ 0x81 ∷ 0x05 ∷ 0x12 ∷ 0x03 ∷ 0x03 ∷ []
registry_bytes Pcie = 0x67 ∷ 0x81 ∷ 0x05 ∷ 0x12 ∷ 0x03 ∷ 0x04 ∷ []
registry_bytes Storage = 0x67 ∷ 0x81 ∷ 0x05 ∷ 0x12 ∷ 0x03 ∷ 0x05 ∷ []

-- the registry with such an identifier, or none
abbrev pub registry_named : List ℕ → Option Registry
registry_named name =
    cond (bytes_eq name (registry_bytes Tcg)) (Some Tcg)
    (cond (bytes_eq name (registry_bytes Dmtf)) (Some Dmtf)
    (cond (bytes_eq name (registry_bytes Pcie)) (Some Pcie)
    (cond (bytes_eq name (registry_bytes Storage)) (Some Storage) None)))
