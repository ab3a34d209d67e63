-- Reading the envelope: the answer for every byte string, refusals included, in the order in which they come. Answers are
-- places in the file.
use Rattle.std.specs.Prelude.{ℕ, Bool, cond, not, ◌&&◌, ◌||◌, List, is_some, Some, None, Option}
use Rattle.std.specs.Ordering.{is_gt}
use Rattle.std.specs.Option.{option_map}
use Rattle.std.specs.List.{find}
use Rattle.der.specs.declared.refusal.Reason.TheVariants.{BadContent, Repeated, EntryMissing, CriticalMark, AlgorithmsDiffer, OtherKind}
use Rattle.reader.specs.declared.kind.Kind.{Kind}
use Rattle.reader.specs.declared.span.Span.{Span}
use Rattle.reader.specs.declared.leaf.Leaf.TheVariants as leaf
use Rattle.reader.specs.Readers.{Reader, cut, same, within, inside, chain, both, read, read_in, spanned, judged, perhaps, unless_ended, list_at}
use Rattle.reader.specs.Leaves.{leaf_at, passed_at}
use Rattle.parts.specs.Bytewise.{lexed}
use Rattle.envelope.specs.declared.entry.EntryPlaces.{EntryPlaces}
use Rattle.envelope.specs.declared.envelope.EnvelopePlaces.{EnvelopePlaces}
use Rattle.envelope.specs.declared.signed.SignedPlaces.{SignedPlaces}
use Rattle.envelope.specs.declared.names.ReferencePlaces.{ReferencePlaces}
use Rattle.envelope.specs.declared.validity.ValidityPlaces.{ValidityPlaces}
use Rattle.envelope.specs.Profile.{most_entries}
use Rattle.envelope.specs.Identifiers.{credential_type, credential_specification, platform_configuration, subject_alt_name, certificate_policies, authority_key_identifier, type_of, other_type}

-- a SEQUENCE of one name
abbrev pub named_at : Reader Span
named_at = inside 0x30 (leaf_at leaf.Name)

-- the issuer
abbrev pub issuer_at : Reader Span
issuer_at = inside 0xA0 named_at

-- a reference to a certificate: the name of its issuer, and its serial
abbrev pub reference : Span × Span → ReferencePlaces
reference p = record { issuer = p.0; serial = p.1 }

-- the certificate's holder
abbrev pub holder_at : Reader ReferencePlaces
holder_at = inside 0x30 (inside 0xA0 (read reference (both named_at (leaf_at leaf.Serial))))

-- an algorithm: an identifier, and at most one element passed over; its answer is where the whole stands
abbrev pub algorithm_at : Reader Span
algorithm_at = read (λ (p : Span × (Span × Option Span)). p.0) (spanned (inside 0x30 (both (leaf_at leaf.Identifier) (unless_ended passed_at))))

-- a validity: two times
abbrev pub validity : Span × Span → ValidityPlaces
validity p = record { first = p.0; last = p.1 }

-- the first is not after the last, byte by byte
abbrev pub in_order : List ℕ → ValidityPlaces → Bool
in_order file v = not (is_gt (lexed (cut file v.first) (cut file v.last)))

-- a first after the last is refused at the last, which stands where the first ends
abbrev pub validity_at : Reader ValidityPlaces
validity_at = inside 0x30 (judged in_order BadContent (λ _ v. v.first.to) (read validity (both (leaf_at leaf.Time) (leaf_at leaf.Time))))

-- the value of the first entry with this identifier, or none
abbrev pub value_in : List ℕ → List ℕ → List EntryPlaces → Option Span
value_in file identifier es = option_map (λ (e : EntryPlaces). e.value) (find (λ (e : EntryPlaces). same (cut file e.identifier) identifier) es)

-- an identifier that no entry before has, else refused at the entry
abbrev pub new_identifier_at : ℕ → List EntryPlaces → Reader Span
new_identifier_at entry seen = judged (λ file s. not (is_some (value_in file (cut file s) seen))) Repeated (λ _ _. entry) (leaf_at leaf.Identifier)

-- the identifier of the wanted kind: an unknown one is refused, and then that of the other kind
abbrev pub kind_at : Kind → Reader Span
kind_at kind =
    judged (λ file s. same (cut file s) (type_of kind)) OtherKind (λ at _. at)
    (judged (λ file s. same (cut file s) (type_of kind) || same (cut file s) (other_type kind)) BadContent (λ at _. at) (leaf_at leaf.Identifier))

-- the element that says which kind of certificate this is
abbrev pub type_at : Kind → Reader Span
type_at kind = read (λ (p : Span × Span). p.0) (spanned (inside 0x30 (kind_at kind)))

-- the element of an attribute with this identifier
abbrev pub value_at : Kind → List ℕ → Reader Span
value_at kind identifier file at end = cond (same identifier credential_type) (type_at kind file at end) (passed_at file at end)

-- an entry, of its identifier and value
abbrev pub entry : Span × Span → EntryPlaces
entry p = record { identifier = p.0; value = p.1 }

-- an attribute
abbrev pub attribute_at : Kind → List EntryPlaces → Reader EntryPlaces
attribute_at kind seen = within 0x30 (λ at. read entry (chain (new_identifier_at at seen) (λ file s. inside 0x31 (value_at kind (cut file s)))))

-- the three identifiers are there
abbrev pub have_all : List ℕ → List ℕ → List ℕ → List ℕ → List EntryPlaces → Bool
have_all a b c file es = is_some (value_in file a es) && (is_some (value_in file b es) && is_some (value_in file c es))

-- a list of entries, in which the three are there
abbrev pub required_at : List ℕ → List ℕ → List ℕ → (List EntryPlaces → Reader EntryPlaces) → Reader (List EntryPlaces)
required_at a b c reader = judged (have_all a b c) EntryMissing (λ at _. at) (list_at 0x30 most_entries reader)

-- a place, or none in particular
abbrev pub place_or : Option Span → Span
place_or (Some s) = s
place_or None = record { from = 0; to = 0 }

-- the attributes: where the configuration's element stands
abbrev pub attributes_at : Kind → Reader Span
attributes_at kind =
    read_in (λ file es. place_or (value_in file platform_configuration es))
    (required_at credential_type credential_specification platform_configuration (attribute_at kind))

-- an extension before its mark is judged: its identifier, its mark, its value
abbrev pub marked_at : List EntryPlaces → Reader (Span × (Option Span × Span))
marked_at seen = within 0x30 (λ at. both (new_identifier_at at seen) (both (perhaps 0x01 (leaf_at leaf.Critical)) (leaf_at (leaf.Opaque 0x04))))

-- only the policies may be critical
abbrev pub may_be_marked : List ℕ → Span × (Option Span × Span) → Bool
may_be_marked file p = not (is_some p.1.0) || same (cut file p.0) certificate_policies

-- an extension
abbrev pub extension_at : List EntryPlaces → Reader EntryPlaces
extension_at seen = read (λ p. entry (p.0, p.1.1)) (judged may_be_marked CriticalMark (λ at _. at) (marked_at seen))

-- the extensions; nothing of them is shown
abbrev pub extensions_at : Reader (Unit {0})
extensions_at = read (λ _. tt) (required_at subject_alt_name certificate_policies authority_key_identifier extension_at)

-- the fields of the signed part, of what is read one behind the other
abbrev pub signed : Span × (ReferencePlaces × (Span × (Span × (Span × (ValidityPlaces × (Span × Unit {0})))))) → SignedPlaces
signed p = record {
  holder = p.1.0;
  issuer = p.1.1.0;
  algorithm = p.1.1.1.0;
  serial = p.1.1.1.1.0;
  validity = p.1.1.1.1.1.0;
  configuration = p.1.1.1.1.1.1.0;
}

-- the signed part
unfoldable pub signed_at : Kind → Reader SignedPlaces
signed_at kind =
    inside 0x30 (read signed (both (leaf_at leaf.Version) (both holder_at (both issuer_at (both algorithm_at (both (leaf_at leaf.Serial) (both validity_at (both (attributes_at kind) extensions_at))))))))

-- the algorithm behind the signed part is the one inside it, in every byte
abbrev pub same_algorithm : List ℕ → (Span × SignedPlaces) × Span → Bool
same_algorithm file p = same (cut file p.0.1.algorithm) (cut file p.1)

-- the envelope, of what is read one behind the other
abbrev pub envelope : ((Span × SignedPlaces) × Span) × Span → EnvelopePlaces
envelope p = record { signed = p.0.0.0; fields = p.0.0.1; signature = p.1 }

-- the envelope
abbrev pub envelope_at : Kind → Reader EnvelopePlaces
envelope_at kind =
    inside 0x30 (read envelope (both (judged same_algorithm AlgorithmsDiffer (λ _ p. p.1.from) (both (spanned (signed_at kind)) algorithm_at)) (leaf_at leaf.Signature)))
