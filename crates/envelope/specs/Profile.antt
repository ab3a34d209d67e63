-- The profile of the envelope: what its fields are, the bytes of each, and the rules they keep.
use Rattle.std.specs.Prelude.{◌≡◌, ℕ, ◌≤◌, Bool, true, false, List, [], ◌∷◌, ◌++◌, length, Option}
use Rattle.std.specs.declared.cmp.Ordering.TheVariants.{Greater}
use Rattle.std.specs.List.{flat_map}
use Rattle.der.specs.Contents.{Serial, Identifier, boolean_bytes}
use Rattle.der.specs.Times.{Time}
use Rattle.der.specs.Encoding.{encoded}
use Rattle.parts.specs.Bytewise.{lexed}
use Rattle.reader.specs.declared.kind.Kind.{Kind}
use Rattle.reader.specs.Leaves.{Sized}
use Rattle.reader.specs.Syntax.{Other, other_bytes, OneByteTag, perhaps_bytes, WhereThere, Among, Listed}
use Rattle.envelope.specs.Identifiers.{credential_type, credential_specification, platform_configuration, subject_alt_name, certificate_policies, authority_key_identifier, type_of}

-- ---- names and references

-- a name has 1 to 128 bytes
abbrev pub Name : List ℕ → Type 0
Name name = Sized 1 128 name

-- a reference to a certificate: the name of its issuer, and its serial
pub record Reference : Type 0 where
  pub issuer : List ℕ
  pub serial : List ℕ

pub record KeptReference (r : Reference) : Type 0 where
  pub issuer : Name r.issuer
  pub serial : Serial r.serial

-- a SEQUENCE of one directoryName
abbrev pub named_bytes : List ℕ → List ℕ
named_bytes name = encoded 0x30 (encoded 0xA4 name)

-- the issuer of a certificate
abbrev pub issuer_bytes : List ℕ → List ℕ
issuer_bytes name = encoded 0xA0 (named_bytes name)

-- the holder of a certificate is a reference to another one
abbrev pub holder_bytes : Reference → List ℕ
holder_bytes r = encoded 0x30 (encoded 0xA0 (named_bytes r.issuer ++ encoded 0x02 r.serial))

-- ---- algorithm

-- an identifier, and perhaps one element passed over
pub record Algorithm : Type 0 where
  pub identifier : List ℕ
  pub parameters : Option Other

pub record KeptAlgorithm (a : Algorithm) : Type 0 where
  pub identifier : Identifier a.identifier
  pub parameters : WhereThere OneByteTag a.parameters

abbrev pub algorithm_bytes : Algorithm → List ℕ
algorithm_bytes a = encoded 0x30 (encoded 0x06 a.identifier ++ perhaps_bytes other_bytes a.parameters)

-- ---- validity

-- the first and the last moment; the first is not after the last, byte by byte
pub record Validity : Type 0 where
  pub first : List ℕ
  pub last : List ℕ

pub record KeptValidity (v : Validity) : Type 0 where
  pub first : Time v.first
  pub last : Time v.last
  pub order : lexed v.first v.last ≡ Greater → ⊥

abbrev pub validity_bytes : Validity → List ℕ
validity_bytes v = encoded 0x30 (encoded 0x18 v.first ++ encoded 0x18 v.last)

-- ---- attributes

-- the most entries of a list of attributes or extensions
abbrev pub most_entries : ℕ
most_entries = 16

-- an identifier and one element
pub record Attribute : Type 0 where
  pub identifier : List ℕ
  pub element : Other

-- the element of the type names the kind; any other element is passed over
pub record KeptAttribute (kind : Kind) (a : Attribute) : Type 0 where
  pub identifier : Identifier a.identifier
  pub passed : OneByteTag a.element
  pub typed : a.identifier ≡ credential_type → other_bytes a.element ≡ encoded 0x30 (encoded 0x06 (type_of kind))

abbrev pub attribute_bytes : Attribute → List ℕ
attribute_bytes a = encoded 0x30 (encoded 0x06 a.identifier ++ encoded 0x31 (other_bytes a.element))

-- an attribute is there
abbrev pub HasAttribute : List ℕ → List Attribute → Type 0
HasAttribute identifier list = Among (λ (a : Attribute). a.identifier ≡ identifier) list

-- 1 to 16 attributes, no identifier twice, three of them required
pub record KeptAttributes (kind : Kind) (list : List Attribute) : Type 0 where
  pub listed : Listed most_entries (KeptAttribute kind) (λ (a : Attribute). a.identifier) list
  pub type : HasAttribute credential_type list
  pub specification : HasAttribute credential_specification list
  pub configuration : HasAttribute platform_configuration list

abbrev pub attributes_bytes : List Attribute → List ℕ
attributes_bytes list = encoded 0x30 (flat_map attribute_bytes list)

-- ---- extensions

-- an identifier, whether it is critical, and a value that is not looked into
pub record Extension : Type 0 where
  pub identifier : List ℕ
  pub critical : Bool
  pub value : List ℕ

-- only the policies may be critical
pub record KeptExtension (e : Extension) : Type 0 where
  pub identifier : Identifier e.identifier
  pub marked : e.critical ≡ true → e.identifier ≡ certificate_policies

-- the mark of a critical extension; there is none where it is not critical
abbrev pub critical_bytes : Bool → List ℕ
critical_bytes true = encoded 0x01 (boolean_bytes true)
critical_bytes false = []

abbrev pub extension_bytes : Extension → List ℕ
extension_bytes e = encoded 0x30 (encoded 0x06 e.identifier ++ (critical_bytes e.critical ++ encoded 0x04 e.value))

-- an extension is there
abbrev pub HasExtension : List ℕ → List Extension → Type 0
HasExtension identifier es = Among (λ (e : Extension). e.identifier ≡ identifier) es

-- 1 to 16 extensions, no identifier twice, three of them required
pub record KeptExtensions (es : List Extension) : Type 0 where
  pub listed : Listed most_entries KeptExtension (λ (e : Extension). e.identifier) es
  pub alternative_name : HasExtension subject_alt_name es
  pub policies : HasExtension certificate_policies es
  pub authority_key : HasExtension authority_key_identifier es

abbrev pub extensions_bytes : List Extension → List ℕ
extensions_bytes es = encoded 0x30 (flat_map extension_bytes es)

-- ---- the signed part

pub record Signed : Type 0 where
  pub holder : Reference
  pub issuer : List ℕ
  pub algorithm : Algorithm
  pub serial : List ℕ
  pub validity : Validity
  pub attributes : List Attribute
  pub extensions : List Extension

pub record KeptSigned (kind : Kind) (s : Signed) : Type 0 where
  pub holder : KeptReference s.holder
  pub issuer : Name s.issuer
  pub algorithm : KeptAlgorithm s.algorithm
  pub serial : Serial s.serial
  pub validity : KeptValidity s.validity
  pub attributes : KeptAttributes kind s.attributes
  pub extensions : KeptExtensions s.extensions

-- the version is 1
abbrev pub signed_bytes : Signed → List ℕ
signed_bytes s =
    encoded 0x30 (encoded 0x02 (1 ∷ []) ++ (holder_bytes s.holder ++ (issuer_bytes s.issuer ++ (algorithm_bytes s.algorithm
    ++ (encoded 0x02 s.serial ++ (validity_bytes s.validity ++ (attributes_bytes s.attributes ++ extensions_bytes s.extensions)))))))

-- ---- the envelope

-- the signed part and the signature, a BIT STRING of whole bytes
pub record Envelope : Type 0 where
  pub signed : Signed
  pub signature : List ℕ

pub record KeptEnvelope (kind : Kind) (e : Envelope) : Type 0 where
  pub signed : KeptSigned kind e.signed
  pub signature : 1 ≤ length e.signature

-- the algorithm stands twice
abbrev pub envelope_bytes : Envelope → List ℕ
envelope_bytes e = encoded 0x30 (signed_bytes e.signed ++ (algorithm_bytes e.signed.algorithm ++ encoded 0x03 (0 ∷ e.signature)))
