-- No file is a certificate of both kinds.
use Rattle.std.proofs.Common.{◌≡◌, ℕ, List, [], ◌∷◌, ◌++◌, length, get_or, sym, ap, ◌∙◌, inl, inr, arith}
use Rattle.std.specs.List.{flat_map}
use Rattle.der.specs.Encoding.{encoded}
use Rattle.der.proofs.Laws.{encoded_unique}
use Rattle.reader.specs.declared.kind.Kind.TheVariants.{Platform, Delta}
use Rattle.reader.specs.Syntax.{other_bytes, Each, Among}
use Rattle.reader.proofs.Optional.{encoded_begins}
use Rattle.envelope.specs.Identifiers.{credential_type, platform_type, delta_type}
use Rattle.envelope.specs.Profile.{Attribute, KeptAttribute, attribute_bytes, extensions_bytes, Envelope, envelope_bytes}
use Rattle.certificate.specs.Profile.{OneKind}

-- behind equal elements the same follows
behind : (t : ℕ) (c d r s : List ℕ) → encoded t c ++ r ≡ encoded t d ++ s → r ≡ s
behind t c d r s e = (encoded_unique t t c d r s e).2

-- the contents of equal elements are equal
within : (t : ℕ) (c d : List ℕ) → encoded t c ≡ encoded t d → c ≡ d
within t c d e = (encoded_unique t t c d [] [] (ap (λ (z : List ℕ). z ++ []) e)).1

-- the attributes of two envelopes with the same bytes have the same bytes
same_attributes : (d e : Envelope) → envelope_bytes d ≡ envelope_bytes e → flat_map attribute_bytes d.signed.attributes ≡ flat_map attribute_bytes e.signed.attributes
same_attributes d e same =
    let s = d.signed in
    let t = e.signed in
    let outer = within 0x30 _ _ same in
    let signed = (encoded_unique 0x30 0x30 _ _ _ _ outer).1 in
    let holder = behind 0x02 (1 ∷ []) (1 ∷ []) _ _ signed in
    let issuer = behind 0x30 _ _ _ _ holder in
    let algorithm = behind 0xA0 _ _ _ _ issuer in
    let serial = behind 0x30 _ _ _ _ algorithm in
    let validity = behind 0x02 s.serial t.serial _ _ serial in
    let attributes = behind 0x30 _ _ _ _ validity in
    (encoded_unique 0x30 0x30 (flat_map attribute_bytes s.attributes) (flat_map attribute_bytes t.attributes) (extensions_bytes s.extensions) (extensions_bytes t.extensions) attributes).1

-- the two types differ
types_differ : platform_type ≡ delta_type → ⊥
types_differ e = let z : ◌≡◌ {A = ℕ} 2 5 = ap (λ (l : List ℕ). get_or l 4 0) e in omega arith

-- no attributes with the same bytes have both types
one_type : (xs ys : List Attribute) → flat_map attribute_bytes xs ≡ flat_map attribute_bytes ys → Each (KeptAttribute Platform) xs → Each (KeptAttribute Delta) ys → Among (λ (a : Attribute). a.identifier ≡ credential_type) xs → ⊥
one_type [] ys e p d m = m
one_type (a ∷ xs) [] e p d m = let z = ap length (ap (λ (z : List ℕ). z ++ flat_map attribute_bytes xs) (sym (encoded_begins 0x30 _).1) ∙ e) in omega arith
one_type (a ∷ xs) (b ∷ ys) e p d (inl h) =
    let entry = (encoded_unique 0x30 0x30 _ _ _ _ e).1 in
    let fields = encoded_unique 0x06 0x06 a.identifier b.identifier (encoded 0x31 (other_bytes a.element)) (encoded 0x31 (other_bytes b.element)) entry in
    let elements = within 0x31 _ _ fields.2 in
    let types = sym (p.0.typed h) ∙ (elements ∙ d.0.typed (sym fields.1 ∙ h)) in
    types_differ (within 0x06 _ _ (within 0x30 _ _ types))
one_type (a ∷ xs) (b ∷ ys) e p d (inr h) = one_type xs ys (encoded_unique 0x30 0x30 _ _ _ _ e).2 p.1 d.1 h

pub one_kind : (file : List ℕ) → OneKind file
one_kind file c d p q =
    one_type c.envelope.signed.attributes d.envelope.signed.attributes (same_attributes c.envelope d.envelope (sym p.bytes ∙ q.bytes))
    p.envelope.signed.attributes.listed.each q.envelope.signed.attributes.listed.each p.envelope.signed.attributes.type
