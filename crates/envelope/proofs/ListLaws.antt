-- Attributes and extensions are read exactly.
use Rattle.std.proofs.Common.{◌≡◌, ℕ, Bool, true, false, not, ◌||◌, List, ◌∷◌, ◌++◌, is_some, Some, None, Decides, Option, sym, refl, ap, ◌∙◌, subst, arith}
use Rattle.std.proofs.lemmas.Bool.{false≢true}
use Rattle.der.specs.Numbers.{Bytes}
use Rattle.der.specs.Contents.{Identifier, boolean_bytes}
use Rattle.der.specs.Encoding.{encoded}
use Rattle.der.specs.declared.refusal.Reason.TheVariants.{BadContent, EntryMissing, CriticalMark, OtherKind}
use Rattle.der.proofs.Rules.{identifier_decides}
use Rattle.reader.specs.declared.kind.Kind.{Kind}
use Rattle.reader.specs.declared.kind.Kind.TheVariants.{Platform, Delta}
use Rattle.reader.specs.declared.span.Span.{Span}
use Rattle.reader.specs.declared.leaf.Leaf.TheVariants as leaf
use Rattle.reader.specs.Readers.{cut, same, inside}
use Rattle.reader.specs.Leaves.{Kept, leaf_at, passed_at}
use Rattle.reader.specs.Syntax.{Other, other_bytes, OneByteTag, Among, Absent, perhaps_bytes, WhereThere}
use Rattle.reader.proofs.Exact.{Exact, Anything, exact_within, exact_inside, exact_chain, exact_both, exact_read, exact_form, exact_same, exact_spanned, exact_judged}
use Rattle.reader.proofs.LeafLaws.{exact_leaf, exact_passed}
use Rattle.reader.proofs.Optional.{NotFirst, PerhapsShows, encoded_begins, field}
use Rattle.reader.proofs.Lists.{Show, exact_list}
use Rattle.reader.proofs.Labels.{same_decides}
use Rattle.envelope.specs.declared.entry.EntryPlaces.{EntryPlaces}
use Rattle.envelope.specs.Identifiers.{credential_type, credential_specification, platform_configuration, subject_alt_name, certificate_policies, authority_key_identifier, type_of, other_type}
use Rattle.envelope.specs.Profile.{most_entries, Attribute, KeptAttribute, attribute_bytes, KeptAttributes, attributes_bytes, Extension, KeptExtension, critical_bytes, extension_bytes, KeptExtensions, extensions_bytes}
use Rattle.envelope.specs.Readings.{value_in, kind_at, type_at, value_at, entry, attribute_at, have_all, place_or, attributes_at, may_be_marked, extension_at, extensions_at}
use Rattle.envelope.proofs.EntryLaws.{passes, fails, tested, exact_new_identifier, has_all, found}

-- the types are identifiers
type_good : (kind : Kind) → Identifier (type_of kind)
type_good Platform = (identifier_decides (type_of Platform)).0 refl
type_good Delta = (identifier_decides (type_of Delta)).0 refl

or_true : (b c : Bool) → b ≡ true → (b || c) ≡ true
or_true true c e = refl
or_true false c e = absurd (false≢true e)

module _ (file : List ℕ) (typed : Bytes file) (kind : Kind) where
  -- a place shows an element as a whole
  abbrev ShownOther : Span → Other → Type 0
  ShownOther s o = cut file s ≡ other_bytes o

  -- the element of an attribute keeps its rule
  abbrev ValueKept : List ℕ → Other → Type 0
  ValueKept identifier o = OneByteTag o × (identifier ≡ credential_type → other_bytes o ≡ encoded 0x30 (encoded 0x06 (type_of kind)))

  exact_kind : Exact file Anything (kind_at kind) (encoded 0x06) (λ (c : List ℕ). c ≡ type_of kind) (λ (s : Span) (c : List ℕ). cut file s ≡ c)
  exact_kind =
      let decides : (t : List ℕ) (p : Span) (c : List ℕ) → cut file p ≡ c → Decides (same (cut file p) t) (c ≡ t) = λ t p c w. (λ e. sym w ∙ (same_decides (cut file p) t).0 e, λ e. (same_decides (cut file p) t).1 (w ∙ e)) in
      let known = exact_judged file typed (exact_leaf file typed leaf.Identifier) (λ file s. same (cut file s) (type_of kind) || same (cut file s) (other_type kind)) BadContent (λ at _. at) {Holds = λ (c : List ℕ). (same c (type_of kind) || same c (other_type kind)) ≡ true}
      (λ p c w g. (λ e. sym (ap (λ (z : List ℕ). same z (type_of kind) || same z (other_type kind)) w) ∙ e, λ e. ap (λ (z : List ℕ). same z (type_of kind) || same z (other_type kind)) w ∙ e)) in
      let own = exact_judged file typed known (λ file s. same (cut file s) (type_of kind)) OtherKind (λ at _. at) {Holds = λ (c : List ℕ). c ≡ type_of kind} (λ p c w g. decides (type_of kind) p c w) in
      exact_form file typed own (λ c. c) (λ c. c) (λ c g. refl) (λ c g. refl) (λ c g. g.1)
      (λ c g. ((subst (λ (z : List ℕ). Identifier z) (sym g) (type_good kind), or_true (same c (type_of kind)) (same c (other_type kind)) ((same_decides c (type_of kind)).1 g)), g))
      (λ p c g s. s) (λ p c g s. s)

  -- the element that names the kind
  exact_type : (identifier : List ℕ) → identifier ≡ credential_type → Exact file Anything (type_at kind) other_bytes (ValueKept identifier) ShownOther
  exact_type identifier named =
      exact_read file typed (λ (p : Span × Span). p.0) (exact_spanned file typed (exact_inside file typed 0x30 tt exact_kind))
      (λ c. record { tag = 0x30; content = encoded 0x06 c }) (λ o. type_of kind) (λ c g. refl) (λ o g. g.1 named)
      (λ c g. ((λ e. omega arith), (λ n. ap (λ (z : List ℕ). encoded 0x30 (encoded 0x06 z)) g))) (λ o g. refl)
      (λ p c g s. s.0) (λ p o g s. s.0 ∙ sym (g.1 named))

  -- any other
  exact_other : (identifier : List ℕ) → (identifier ≡ credential_type → ⊥) → Exact file Anything passed_at other_bytes (ValueKept identifier) ShownOther
  exact_other identifier not_named = exact_form file typed (exact_passed file typed) (λ o. o) (λ o. o) (λ o g. refl) (λ o g. refl) (λ o g. (g, λ n. absurd (not_named n))) (λ o g. g.0) (λ p o g s. s) (λ p o g s. s)

  exact_value : (p : Span) (identifier : List ℕ) → cut file p ≡ identifier → Exact file Anything (value_at kind (cut file p)) other_bytes (ValueKept identifier) ShownOther
  exact_value p identifier w = elim (tested (same (cut file p) credential_type)) [
    | passes t ↦ exact_same file typed (exact_type identifier (sym w ∙ (same_decides (cut file p) credential_type).0 t)) (λ at end. rw t refl)
    | fails t ↦ exact_same file typed (exact_other identifier (λ n. false≢true (sym t ∙ (same_decides (cut file p) credential_type).1 (w ∙ n)))) (λ at end. rw t refl)
  ]

  pub record ShowsAttribute (p : EntryPlaces) (a : Attribute) : Type 0 where
    pub identifier : cut file p.identifier ≡ a.identifier
    pub element : cut file p.value ≡ other_bytes a.element

  abbrev identifier_of : Attribute → List ℕ
  identifier_of a = a.identifier

  attribute_labelled : (p : EntryPlaces) (a : Attribute) → ShowsAttribute p a → cut file p.identifier ≡ identifier_of a
  attribute_labelled p a s = s.identifier

  exact_attribute : (ps : List EntryPlaces) (xs : List Attribute) → Show ShowsAttribute ps xs → Exact file Anything (attribute_at kind ps) attribute_bytes (λ (a : Attribute). KeptAttribute kind a × Absent identifier_of (identifier_of a) xs) ShowsAttribute
  exact_attribute ps xs s =
      exact_within file typed 0x30 tt (λ at. exact_read file typed entry
      (exact_chain file typed (λ file s. inside 0x31 (value_at kind (cut file s))) {bytes' = λ _ (o : Other). encoded 0x31 (other_bytes o)} {Good' = λ (c : List ℕ) (o : Other). ValueKept c o} {Shows' = λ _. ShownOther} (λ c o rest g g' m. tt)
      (exact_new_identifier file typed identifier_of ShowsAttribute attribute_labelled at ps xs s) (λ p c w g. exact_inside file typed 0x31 tt (exact_value p c w)))
      (λ x. record { identifier = x.0; element = x.1 }) (λ a. (a.identifier, a.element)) (λ x g. refl) (λ a g. refl)
      (λ x g. (record { identifier = g.0.0; passed = g.1.0; typed = g.1.1 }, g.0.1)) (λ a g. ((g.0.identifier, g.1), (g.0.passed, g.0.typed)))
      (λ p x g s. record { identifier = s.0; element = s.1 }) (λ p a g s. record { identifier = s.0; element = s.1 }))

  -- where the element of the configuration stands
  abbrev pub ShowsAttributes : Span → List Attribute → Type 0
  ShowsAttributes s list = Among (λ (a : Attribute). (a.identifier ≡ platform_configuration) × (cut file s ≡ other_bytes a.element)) list

  attribute_some : (a : Attribute) → (b : ℕ) × ((bs : List ℕ) × (attribute_bytes a ≡ b ∷ bs))
  attribute_some a = (0x30, encoded_begins 0x30 (encoded 0x06 a.identifier ++ encoded 0x31 (other_bytes a.element)))

  pub exact_attributes : Exact file Anything (attributes_at kind) attributes_bytes (KeptAttributes kind) ShowsAttributes
  exact_attributes =
      let list = exact_list file typed (attribute_at kind) {label = identifier_of} attribute_some exact_attribute 0x30 most_entries in
      let judged = exact_judged file typed list (have_all credential_type credential_specification platform_configuration) EntryMissing (λ at _. at) (λ ps xs s g. has_all file typed identifier_of ShowsAttribute attribute_labelled credential_type credential_specification platform_configuration ps xs s) in
      exact_same file typed (exact_read file typed (λ (es : List EntryPlaces). place_or (value_in file platform_configuration es)) judged (λ xs. xs) (λ xs. xs) (λ xs g. refl) (λ xs g. refl)
      (λ xs g. record { listed = g.0; type = g.1.0; specification = g.1.1.0; configuration = g.1.1.1 }) (λ xs g. (g.listed, (g.type, (g.specification, g.configuration))))
      (λ ps xs g s. found file typed identifier_of ShowsAttribute attribute_labelled (λ s a. cut file s ≡ other_bytes a.element) (λ p a w. w.element) platform_configuration ps xs s g.1.1.1)
      (λ ps xs g s. found file typed identifier_of ShowsAttribute attribute_labelled (λ s a. cut file s ≡ other_bytes a.element) (λ p a w. w.element) platform_configuration ps xs s g.configuration))
      (λ at end. refl)

-- a mark that may stand only under a condition
mark_decides : {P : Type 0} (b c : Bool) → Decides c P → Decides (not b || c) (b ≡ true → P)
mark_decides true c d = (λ e h. d.0 e, λ f. d.1 (f refl))
mark_decides false c d = (λ e h. absurd (false≢true h), λ f. refl)

-- what stands for a mark
abbrev mark_of : Bool → Option (List ℕ)
mark_of true = Some (boolean_bytes true)
mark_of false = None

mark_some : (b : Bool) → is_some (mark_of b) ≡ b
mark_some true = refl
mark_some false = refl

mark_bytes : (b : Bool) → critical_bytes b ≡ perhaps_bytes (encoded 0x01) (mark_of b)
mark_bytes true = refl
mark_bytes false = refl

mark_good : (b : Bool) → WhereThere (Kept leaf.Critical) (mark_of b)
mark_good true = refl
mark_good false = tt

bytes_mark : (o : Option (List ℕ)) → WhereThere (Kept leaf.Critical) o → perhaps_bytes (encoded 0x01) o ≡ critical_bytes (is_some o)
bytes_mark None g = refl
bytes_mark (Some c) g = ap (encoded 0x01) g

same_mark : {P X : Type 0} (Shows : P → X → Type 0) (p : Option P) (o : Option X) → PerhapsShows Shows p o → is_some p ≡ is_some o
same_mark Shows None None s = refl
same_mark Shows None (Some x) s = absurd s
same_mark Shows (Some p) None s = absurd s
same_mark Shows (Some p) (Some x) s = refl

octets_first : (c rest : List ℕ) → NotFirst 0x01 (encoded 0x04 c ++ rest)
octets_first c rest = subst (λ (z : List ℕ). NotFirst 0x01 (z ++ rest)) (sym (encoded_begins 0x04 c).1) (λ e. omega arith)

module _ (file : List ℕ) (typed : Bytes file) where
  abbrev ShowsExtension : EntryPlaces → Extension → Type 0
  ShowsExtension p e = cut file p.identifier ≡ e.identifier

  abbrev extension_identifier : Extension → List ℕ
  extension_identifier e = e.identifier

  exact_extension : (ps : List EntryPlaces) (xs : List Extension) → Show ShowsExtension ps xs → Exact file Anything (extension_at ps) extension_bytes (λ (e : Extension). KeptExtension e × Absent extension_identifier (extension_identifier e) xs) ShowsExtension
  exact_extension ps xs s =
      let value = exact_chain file typed (λ _ _. leaf_at (leaf.Opaque 0x04)) {bytes' = λ _. encoded 0x04} {Good' = λ _ _. Unit {0}} {Shows' = λ _ (s : Span) (c : List ℕ). cut file s ≡ c} (λ o c rest g g' m. octets_first c rest) (field file typed leaf.Critical) (λ p o w g. exact_leaf file typed (leaf.Opaque 0x04)) in
      let marked = exact_within file typed 0x30 tt (λ at. exact_both file typed (exact_new_identifier file typed extension_identifier ShowsExtension (λ p e w. w) at ps xs s) value) in
      let judged = exact_judged file typed marked may_be_marked CriticalMark (λ at _. at) {Holds = λ x. is_some x.1.0 ≡ true → x.0 ≡ certificate_policies} (λ p x w g.
      let b : is_some p.1.0 ≡ is_some x.1.0 = same_mark _ p.1.0 x.1.0 w.1.0 in
      let d : Decides (same (cut file p.0) certificate_policies) (x.0 ≡ certificate_policies) = (λ e. sym w.0 ∙ (same_decides (cut file p.0) certificate_policies).0 e, λ e. (same_decides (cut file p.0) certificate_policies).1 (w.0 ∙ e)) in
      let m = mark_decides (is_some x.1.0) (same (cut file p.0) certificate_policies) d in
      let e : may_be_marked file p ≡ (not (is_some x.1.0) || same (cut file p.0) certificate_policies) = ap (λ (z : Bool). not z || same (cut file p.0) certificate_policies) b in
      (λ t. m.0 (sym e ∙ t), λ f. e ∙ m.1 f)) in
      exact_read file typed (λ (p : Span × (Option Span × Span)). entry (p.0, p.1.1)) judged
      (λ x. record { identifier = x.0; critical = is_some x.1.0; value = x.1.1 }) (λ e. (e.identifier, (mark_of e.critical, e.value)))
      (λ x g. ap (λ (z : List ℕ). encoded 0x30 (encoded 0x06 x.0 ++ (z ++ encoded 0x04 x.1.1))) (bytes_mark x.1.0 g.0.1.0))
      (λ e g. ap (λ (z : List ℕ). encoded 0x30 (encoded 0x06 e.identifier ++ (z ++ encoded 0x04 e.value))) (mark_bytes e.critical))
      (λ x g. (record { identifier = g.0.0.0; marked = g.1 }, g.0.0.1))
      (λ e g. (((g.0.identifier, g.1), (mark_good e.critical, tt)), λ h. g.0.marked (sym (mark_some e.critical) ∙ h)))
      (λ p x g s. s.0) (λ p e g s. s.0)

  extension_some : (e : Extension) → (b : ℕ) × ((bs : List ℕ) × (extension_bytes e ≡ b ∷ bs))
  extension_some e = (0x30, encoded_begins 0x30 (encoded 0x06 e.identifier ++ (critical_bytes e.critical ++ encoded 0x04 e.value)))

  pub exact_extensions : Exact file Anything extensions_at extensions_bytes KeptExtensions (λ (_ : Unit {0}) (_ : List Extension). Unit {0})
  exact_extensions =
      let list = exact_list file typed extension_at {label = extension_identifier} extension_some exact_extension 0x30 most_entries in
      let judged = exact_judged file typed list (have_all subject_alt_name certificate_policies authority_key_identifier) EntryMissing (λ at _. at) (λ ps xs s g. has_all file typed extension_identifier ShowsExtension (λ p e w. w) subject_alt_name certificate_policies authority_key_identifier ps xs s) in
      exact_read file typed (λ (_ : List EntryPlaces). tt) judged (λ xs. xs) (λ xs. xs) (λ xs g. refl) (λ xs g. refl)
      (λ xs g. record { listed = g.0; alternative_name = g.1.0; policies = g.1.1.0; authority_key = g.1.1.1 }) (λ xs g. (g.listed, (g.alternative_name, (g.policies, g.authority_key))))
      (λ ps xs g s. tt) (λ ps xs g s. tt)
