-- Reading a configuration: the answer for every byte string, refusals included, in the order in which they come.
use Rattle.std.specs.Prelude.{ℕ, zero, suc, Bool, true, cond, not, ◌&&◌, List, [], ◌∷◌, length, is_some, Ok, Err, Option, nat_lt}
use Rattle.std.specs.Str.{bytes_eq}
use Rattle.der.specs.declared.refusal.Reason.TheVariants as reason
use Rattle.der.specs.Refusals.{refused, then}
use Rattle.der.specs.Elements.{tagged_at}
use Rattle.reader.specs.declared.kind.Kind.{Kind}
use Rattle.reader.specs.declared.kind.Kind.TheVariants.{Platform, Delta}
use Rattle.reader.specs.declared.leaf.Leaf.TheVariants as leaf
use Rattle.reader.specs.declared.span.Span.{Span}
use Rattle.reader.specs.Readers.{Reader, cut, within, inside, both, read, judged, perhaps, entries_at}
use Rattle.reader.specs.Leaves.{leaf_at}
use Rattle.component.specs.declared.places.KeyPlaces.{KeyPlaces}
use Rattle.component.specs.declared.places.ComponentPlaces.{ComponentPlaces}
use Rattle.component.specs.declared.places.Components.{Components}
use Rattle.component.specs.Registries.{registry_named}
use Rattle.component.specs.Syntax.{most}

-- ---- keys

-- an identifier is that of a registry
abbrev pub is_registry : List ℕ → Span → Bool
is_registry file s = is_some (registry_named (cut file s))

-- the class: registry and class value
abbrev pub class_at : Reader (Span × Span)
class_at = inside 0x30 (both (judged is_registry reason.BadContent (λ at s. at) (leaf_at leaf.Identifier)) (leaf_at leaf.Class))

-- where the fields of a key stand
abbrev pub key_places : (Span × Span) × (Span × (Span × Span)) → KeyPlaces
key_places p = record { registry = p.0.0; class = p.0.1; maker = p.1.0; model = p.1.1.0; serial = p.1.1.1 }

-- the key: class, maker, model, serial text
abbrev pub key_at : Reader KeyPlaces
key_at = read key_places (both class_at (both (leaf_at leaf.Text) (both (leaf_at leaf.Text) (leaf_at leaf.SerialText))))

-- two keys are equal; what tells most of them apart comes first
abbrev pub same_key : List ℕ → KeyPlaces → KeyPlaces → Bool
same_key file a b =
    bytes_eq (cut file a.serial) (cut file b.serial) &&
    (bytes_eq (cut file a.model) (cut file b.model) &&
    (bytes_eq (cut file a.maker) (cut file b.maker) &&
    (bytes_eq (cut file a.class) (cut file b.class) &&
    bytes_eq (cut file a.registry) (cut file b.registry))))

-- no component before has this key
abbrev pub is_new : List ComponentPlaces → List ℕ → KeyPlaces → Bool
is_new [] file key = true
is_new (p ∷ ps) file key = not (same_key file p.key key) && is_new ps file key

-- ---- components

-- the fields that may be missing, from the addresses on
unfoldable pub late_at : Reader (Option Span × (Option Span × (Option Span × Option Span)))
late_at =
    both (perhaps 0xA4 (leaf_at (leaf.Opaque 0xA4)))
    (both (perhaps 0xA5 (leaf_at (leaf.Opaque 0xA5)))
    (both (perhaps 0xA6 (leaf_at (leaf.Opaque 0xA6))) (perhaps 0x87 (leaf_at leaf.Status))))

-- the last of them
abbrev pub last_status : Option Span × (Option Span × (Option Span × Option Span)) → Option Span
last_status p = p.1.1.1

-- all fields that may be missing
abbrev pub fields_at : Reader (Option Span × (Option Span × (Option Span × (Option Span × (Option Span × (Option Span × Option Span))))))
fields_at =
    both (perhaps 0x81 (leaf_at leaf.Revision))
    (both (perhaps 0x82 (leaf_at (leaf.Opaque 0x82)))
    (both (perhaps 0x83 (leaf_at leaf.Replaceable)) late_at))

-- where the fields of a component stand that mean something: a key, and the optional fields behind it
abbrev pub places_behind : KeyPlaces → Option Span × (Option Span × (Option Span × (Option Span × (Option Span × (Option Span × Option Span))))) → ComponentPlaces
places_behind key p = record { key = key; revision = p.0; replaceable = p.1.1.0; status = last_status p.1.1.1 }

abbrev pub component_places : KeyPlaces × (Option Span × (Option Span × (Option Span × (Option Span × (Option Span × (Option Span × Option Span)))))) → ComponentPlaces
component_places p = places_behind p.0 p.1

-- a status stands where the kind asks for one, and only there
abbrev pub is_asked : Kind → Bool → Bool
is_asked Platform there = not there
is_asked Delta there = there

-- a component, behind those that were read
abbrev pub component_at : Kind → List ComponentPlaces → Reader ComponentPlaces
component_at kind seen =
    judged (λ file p. is_asked kind (is_some p.status)) reason.Status (λ at p. at)
    (read component_places (within 0x30 (λ at. both (judged (is_new seen) reason.Repeated (λ _ _. at) key_at) fields_at)))

-- ---- configurations

-- the component list, with the place of its content: at least one and at most as many as the kind allows
unfoldable pub components_at : Kind → Reader (Span × List ComponentPlaces)
components_at kind file at end =
    then (tagged_at file at end 0xA0) (λ p.
    cond (nat_lt p.0 p.1)
    (then (entries_at (component_at kind) at (most kind) [] file p.0 p.1) (λ xs. Ok ((record { from = p.0; to = p.1 }, xs), p.1)))
    (refused reason.ListSize at))

-- what stands behind the list is passed over
abbrev pub behind_at : Reader (Option Span × (Option Span × Option Span))
behind_at =
    both (perhaps 0xA1 (leaf_at (leaf.Opaque 0xA1)))
    (both (perhaps 0xA2 (leaf_at (leaf.Opaque 0xA2))) (perhaps 0xA3 (leaf_at (leaf.Opaque 0xA3))))

-- the configuration: where the content of its list stands, and its components
abbrev pub configuration_at : Kind → Reader (Span × List ComponentPlaces)
configuration_at kind = inside 0x30 (read (λ p. p.0) (both (components_at kind) behind_at))

-- what a host keeps of it: where the list stands, and how many components it has
abbrev pub counted : Span × List ComponentPlaces → Components
counted p = record { list = p.0; count = length p.1 }

-- components one after the other, with no search for a key before: at most so many, up to the end or to a refusal
abbrev pub components_from : Kind → ℕ → List ℕ → ℕ → ℕ → List ComponentPlaces
components_from kind zero file at end = []
components_from kind (suc left) file at end =
    cond (nat_lt at end) (elim (component_at kind [] file at end) [ Ok p ↦ p.0 ∷ components_from kind left file p.1 end | Err e ↦ [] ]) []
