-- Components are read exactly.
use Rattle.std.proofs.Common.{◌≡◌, ℕ, ◌≤◌, Bool, true, false, List, [], ◌∷◌, ◌++◌, length, is_some, Some, None, Decides, Option, sym, refl, ap, ◌∙◌, subst, inl, inr, arith}
use Rattle.std.specs.Option.{option_map}
use Rattle.std.proofs.lemmas.Bool.{cases_eq, false≢true}
use Rattle.der.specs.declared.refusal.Reason.TheVariants as reason
use Rattle.der.specs.Numbers.{Bytes}
use Rattle.der.specs.Contents.{boolean_bytes, boolean_of}
use Rattle.der.specs.Encoding.{encoded}
use Rattle.model.specs.declared.part.Status.{Status}
use Rattle.model.specs.declared.part.Status.TheVariants.{Added, Modified, Removed}
use Rattle.parts.specs.declared.bounded.Bounded.{Bounded}
use Rattle.parts.specs.declared.key.Key.{Key}
use Rattle.parts.specs.Bounds.{content}
use Rattle.parts.proofs.Same.{same_content}
use Rattle.parts.proofs.Built.{bounded_or, bounded_or_lem, none, revision_small}
use Rattle.reader.specs.declared.kind.Kind.{Kind}
use Rattle.reader.specs.declared.kind.Kind.TheVariants.{Platform, Delta}
use Rattle.reader.specs.declared.span.Span.{Span}
use Rattle.reader.specs.declared.leaf.Leaf.TheVariants as leaf
use Rattle.reader.specs.Readers.{Reader, cut, within, both, read, judged}
use Rattle.reader.specs.Leaves.{Kept, Stated}
use Rattle.reader.specs.Syntax.{perhaps_bytes, WhereThere, Absent}
use Rattle.reader.proofs.Exact.{Exact, Anything, Nothing, exact_within, exact_both, exact_read, exact_judged}
use Rattle.reader.proofs.Optional.{Optional, PerhapsShows, optional_last, optional_more}
use Rattle.reader.proofs.Lists.{Show}
use Rattle.component.specs.declared.places.KeyPlaces.{KeyPlaces}
use Rattle.component.specs.declared.places.ComponentPlaces.{ComponentPlaces}
use Rattle.component.specs.Syntax.{Component, key_bytes, unless_empty, status_bytes, component_bytes, StatusOf, StatusAsked}
use Rattle.component.specs.Readings.{is_new, key_at, late_at, fields_at, component_places, is_asked, component_at}
use Rattle.component.specs.Meaning.{meant, or_empty, details_by, status_of, Means}
use Rattle.component.proofs.KeyLaws.{ShowsKey, key_shown, exact_key, both_decide, same_decides}

-- ---- the contents of single fields

-- a revision
some_text : (c : List ℕ) → 1 ≤ length c → unless_empty c ≡ Some c
some_text [] h = let no : ⊥ = omega arith in absurd no
some_text (b ∷ bs) h = refl

or_empty_lem : (c : List ℕ) → or_empty (unless_empty c) ≡ c
or_empty_lem [] = refl
or_empty_lem (b ∷ bs) = refl

revision_to : (o : Option (List ℕ)) → WhereThere (Kept leaf.Revision) o → unless_empty (content (bounded_or none (or_empty o))) ≡ o
revision_to None g = ap unless_empty (bounded_or_lem none [] (omega arith) (omega arith))
revision_to (Some c) g = ap unless_empty (bounded_or_lem none c (omega arith) g.short) ∙ some_text c g.long

revision_from : (r : Bounded 0 64) → length (content r) ≤ 64 → bounded_or none (or_empty (unless_empty (content r))) ≡ r
revision_from r h = ap (bounded_or none) (or_empty_lem (content r)) ∙ same_content (bounded_or none (content r)) r (bounded_or_lem none (content r) (omega arith) h)

kept_text : (c : List ℕ) → length c ≤ 64 → WhereThere (Kept leaf.Revision) (unless_empty c)
kept_text [] h = tt
kept_text (b ∷ bs) h = record { long = omega arith; short = h }

-- a replaceable
boolean_known : (b : Bool) → boolean_of (boolean_bytes b) ≡ Some b
boolean_known true = refl
boolean_known false = refl

replaceable_to : (o : Option (List ℕ)) → WhereThere (Kept leaf.Replaceable) o → option_map boolean_bytes (meant boolean_of o) ≡ o
replaceable_to None g = refl
replaceable_to (Some c) g = ap (λ (x : List ℕ). option_map boolean_bytes (boolean_of x)) g.1 ∙ (ap (option_map boolean_bytes) (boolean_known g.0) ∙ ap (λ (x : List ℕ). Some x) (sym g.1))

replaceable_from : (o : Option Bool) → meant boolean_of (option_map boolean_bytes o) ≡ o
replaceable_from None = refl
replaceable_from (Some b) = boolean_known b

kept_boolean : (o : Option Bool) → WhereThere (Kept leaf.Replaceable) (option_map boolean_bytes o)
kept_boolean None = tt
kept_boolean (Some b) = (b, refl)

-- a status
status_known : (s : Status) → status_of (status_bytes s) ≡ Some s
status_known Added = refl
status_known Modified = refl
status_known Removed = refl

stated : (c : List ℕ) → Stated c → (s : Status) × (c ≡ status_bytes s)
stated [] g = let e = g.one in let no : ⊥ = omega arith in absurd no
stated (x ∷ []) g =
    let k = g.known in
    elim (cases_eq x 0) [
      | inl h ↦ (Added, ap (λ (y : ℕ). y ∷ []) h)
      | inr h ↦ elim (cases_eq x 1) [
        | inl h' ↦ (Modified, ap (λ (y : ℕ). y ∷ []) h')
        | inr h' ↦ (Removed, (let e : x ≡ 2 = omega arith in ap (λ (y : ℕ). y ∷ []) e))
      ]
    ]
stated (x ∷ y ∷ c) g = let e = g.one in let no : ⊥ = omega arith in absurd no

status_to : (o : Option (List ℕ)) → WhereThere (Kept leaf.Status) o → option_map status_bytes (meant status_of o) ≡ o
status_to None g = refl
status_to (Some c) g = let s = stated c g in ap (λ (x : List ℕ). option_map status_bytes (status_of x)) s.1 ∙ (ap (option_map status_bytes) (status_known s.0) ∙ ap (λ (x : List ℕ). Some x) (sym s.1))

status_from : (o : Option Status) → meant status_of (option_map status_bytes o) ≡ o
status_from None = refl
status_from (Some s) = status_known s

kept_status : (o : Option Status) → WhereThere (Kept leaf.Status) (option_map status_bytes o)
kept_status None = tt
kept_status (Some Added) = record { one = refl; known = omega arith }
kept_status (Some Modified) = record { one = refl; known = omega arith }
kept_status (Some Removed) = record { one = refl; known = omega arith }

pub kept_other : (o : Option (List ℕ)) → WhereThere (λ (c : List ℕ). Unit {0}) o
kept_other None = tt
kept_other (Some c) = tt

-- ---- a component and the contents of its fields

abbrev Four : Type 0 → Type 0
Four X = Option X × (Option X × (Option X × Option X))

abbrev Seven : Type 0 → Type 0
Seven X = Option X × (Option X × (Option X × Four X))

abbrev four_bytes : Four (List ℕ) → List ℕ
four_bytes x = perhaps_bytes (encoded 0xA4) x.0 ++ (perhaps_bytes (encoded 0xA5) x.1.0 ++ (perhaps_bytes (encoded 0xA6) x.1.1.0 ++ perhaps_bytes (encoded 0x87) x.1.1.1))

abbrev seven_bytes : Seven (List ℕ) → List ℕ
seven_bytes x = perhaps_bytes (encoded 0x81) x.0 ++ (perhaps_bytes (encoded 0x82) x.1.0 ++ (perhaps_bytes (encoded 0x83) x.1.1.0 ++ four_bytes x.1.1.1))

abbrev KeptFour : Four (List ℕ) → Type 0
KeptFour x = WhereThere (Kept (leaf.Opaque 0xA4)) x.0 × (WhereThere (Kept (leaf.Opaque 0xA5)) x.1.0 × (WhereThere (Kept (leaf.Opaque 0xA6)) x.1.1.0 × WhereThere (Kept leaf.Status) x.1.1.1))

abbrev KeptSeven : Seven (List ℕ) → Type 0
KeptSeven x = WhereThere (Kept leaf.Revision) x.0 × (WhereThere (Kept (leaf.Opaque 0x82)) x.1.0 × (WhereThere (Kept leaf.Replaceable) x.1.1.0 × KeptFour x.1.1.1))

abbrev to_component : Key × Seven (List ℕ) → Component
to_component x = record {
  key = x.0;
  details = details_by x.1.0 x.1.1.1.0;
  status = meant status_of x.1.1.1.1.1.1.1;
  manufacturer = x.1.1.0;
  addresses = x.1.1.1.1.0;
  certificate = x.1.1.1.1.1.0;
  location = x.1.1.1.1.1.1.0;
}

abbrev from_component : Component → Key × Seven (List ℕ)
from_component c = (c.key, (unless_empty (content c.details.revision), (c.manufacturer, (option_map boolean_bytes c.details.replaceable, (c.addresses, (c.certificate, (c.location, option_map status_bytes c.status)))))))

back_to : (x : Key × Seven (List ℕ)) → KeptSeven x.1 → from_component (to_component x) ≡ x
back_to x g = λ i. (x.0, (revision_to x.1.0 g.0 i, (x.1.1.0, (replaceable_to x.1.1.1.0 g.1.1.0 i, (x.1.1.1.1.0, (x.1.1.1.1.1.0, (x.1.1.1.1.1.1.0, status_to x.1.1.1.1.1.1.1 g.1.1.1.1.1.1 i)))))))

kept_back : (c : Component) → KeptSeven (from_component c).1
kept_back c = (kept_text (content c.details.revision) (revision_small c.details), (kept_other c.manufacturer, (kept_boolean c.details.replaceable, (kept_other c.addresses, (kept_other c.certificate, (kept_other c.location, kept_status c.status))))))

-- ---- what places show

-- a field that may be missing: the place holds the content
abbrev pub ShowsField : List ℕ → Option Span → Option (List ℕ) → Type 0
ShowsField file = PerhapsShows (λ (s : Span) (c : List ℕ). cut file s ≡ c)

-- the places hold the contents of the component's fields
abbrev pub ShowsComponent : List ℕ → ComponentPlaces → Component → Type 0
ShowsComponent file p c = ShowsKey file p.key c.key × (ShowsField file p.revision (unless_empty (content c.details.revision)) × (ShowsField file p.replaceable (option_map boolean_bytes c.details.replaceable) × ShowsField file p.status (option_map status_bytes c.status)))

field_shown : (file : List ℕ) (o : Option Span) (c : Option (List ℕ)) → ShowsField file o c → option_map (cut file) o ≡ c
field_shown file None None s = refl
field_shown file None (Some c) s = absurd s
field_shown file (Some p) None s = absurd s
field_shown file (Some p) (Some c) s = ap (λ (x : List ℕ). Some x) s

-- they mean the component
pub component_shown : (file : List ℕ) (p : ComponentPlaces) (c : Component) → ShowsComponent file p c → Means file p c
component_shown file p c s =
    let revision = ap (λ (o : Option (List ℕ)). bounded_or none (or_empty o)) (field_shown file p.revision _ s.1.0) ∙ revision_from c.details.revision (revision_small c.details) in
    let replaceable = ap (meant boolean_of) (field_shown file p.replaceable _ s.1.1.0) ∙ replaceable_from c.details.replaceable in
    record {
      key = key_shown file p.key c.key s.0;
      details = λ i. record { revision = revision i; replaceable = replaceable i };
      status = ap (meant status_of) (field_shown file p.status _ s.1.1.1) ∙ status_from c.status;
    }

-- a key is new where no component before has it
is_new_lem : (file : List ℕ) (ps : List ComponentPlaces) (xs : List Component) (p : KeyPlaces) (k : Key) → Show (ShowsComponent file) ps xs → ShowsKey file p k → Decides (is_new ps file p) (Absent (λ (c : Component). c.key) k xs)
is_new_lem file [] [] p k s t = (λ e. tt, λ u. refl)
is_new_lem file [] (x ∷ xs) p k s t = absurd s
is_new_lem file (q ∷ ps) [] p k s t = absurd s
is_new_lem file (q ∷ ps) (x ∷ xs) p k s t = both_decide _ _ (same_decides file q.key p x.key k s.0.0 t) (is_new_lem file ps xs p k s.1 t)

asked : (file : List ℕ) (kind : Kind) (o : Option Span) (s : Option Status) → ShowsField file o (option_map status_bytes s) → Decides (is_asked kind (is_some o)) (StatusOf kind s)
asked file Platform None None f = (λ e. tt, λ u. refl)
asked file Platform None (Some s) f = absurd f
asked file Platform (Some p) None f = absurd f
asked file Platform (Some p) (Some s) f = (λ e. absurd (false≢true e), λ u. absurd u)
asked file Delta None None f = (λ e. absurd (false≢true e), λ u. absurd u)
asked file Delta None (Some s) f = absurd f
asked file Delta (Some p) None f = absurd f
asked file Delta (Some p) (Some s) f = (λ e. tt, λ u. refl)

-- ---- reading

-- the same rule in other words, and less that is shown
pub exact_as : {P X : Type 0} {file : List ℕ} {Follows : List ℕ → Type 0} {r : Reader P} {bytes : X → List ℕ} {Good Good' : X → Type 0} {Shows Shows' : P → X → Type 0} → ((x : X) → Good x → Good' x) → ((x : X) → Good' x → Good x) → ((p : P) (x : X) → Shows p x → Shows' p x) → Exact file Follows r bytes Good Shows → Exact file Follows r bytes Good' Shows'
exact_as to back less exact = record {
  sound = λ at end p next h l e. let i = exact.sound at end p next h l e in record { syntax = i.syntax; stands = i.stands; good = to i.syntax i.good; shows = less p i.syntax i.shows; forward = i.forward; within = i.within };
  complete = λ at end x rest h l e may good. let i = exact.complete at end x rest h l e may (back x good) in record { answer = i.answer; next = i.next; was = i.was; shows = less i.answer x i.shows; forward = i.forward; within = i.within; after = i.after };
}

module _ (file : List ℕ) (typed : Bytes file) where
  abbrev ShowsFour : Four Span → Four (List ℕ) → Type 0
  ShowsFour p x = ShowsField file p.0 x.0 × (ShowsField file p.1.0 x.1.0 × (ShowsField file p.1.1.0 x.1.1.0 × ShowsField file p.1.1.1 x.1.1.1))

  abbrev ShowsSeven : Seven Span → Seven (List ℕ) → Type 0
  ShowsSeven p x = ShowsField file p.0 x.0 × (ShowsField file p.1.0 x.1.0 × (ShowsField file p.1.1.0 x.1.1.0 × ShowsFour p.1.1.1 x.1.1.1))

  late : Optional file (0xA4 ∷ 0xA5 ∷ 0xA6 ∷ 0x87 ∷ []) late_at four_bytes KeptFour ShowsFour
  unfolding late_at
  late =
      optional_more file typed (leaf.Opaque 0xA4) (0xA5 ∷ 0xA6 ∷ 0x87 ∷ []) refl
      (optional_more file typed (leaf.Opaque 0xA5) (0xA6 ∷ 0x87 ∷ []) refl
      (optional_more file typed (leaf.Opaque 0xA6) (0x87 ∷ []) refl (optional_last file typed leaf.Status)))

  fields : Optional file (0x81 ∷ 0x82 ∷ 0x83 ∷ 0xA4 ∷ 0xA5 ∷ 0xA6 ∷ 0x87 ∷ []) fields_at seven_bytes KeptSeven ShowsSeven
  fields =
      optional_more file typed leaf.Revision (0x82 ∷ 0x83 ∷ 0xA4 ∷ 0xA5 ∷ 0xA6 ∷ 0x87 ∷ []) refl
      (optional_more file typed (leaf.Opaque 0x82) (0x83 ∷ 0xA4 ∷ 0xA5 ∷ 0xA6 ∷ 0x87 ∷ []) refl
      (optional_more file typed leaf.Replaceable (0xA4 ∷ 0xA5 ∷ 0xA6 ∷ 0x87 ∷ []) refl late))

  module _ (kind : Kind) (seen : List ComponentPlaces) (before : List Component) (shown : Show (ShowsComponent file) seen before) where
    abbrev New : Key → Type 0
    New k = Absent (λ (c : Component). c.key) k before

    abbrev KeptRaw : Key × Seven (List ℕ) → Type 0
    KeptRaw x = (Unit {0} × New x.0) × KeptSeven x.1

    abbrev ShowsRaw : KeyPlaces × Seven Span → Key × Seven (List ℕ) → Type 0
    ShowsRaw p x = ShowsKey file p.0 x.0 × ShowsSeven p.1 x.1

    abbrev raw_bytes : Key × Seven (List ℕ) → List ℕ
    raw_bytes x = encoded 0x30 (key_bytes x.0 ++ seven_bytes x.1)

    raw : Exact file Anything (within 0x30 (λ at. both (judged (is_new seen) reason.Repeated (λ _ _. at) key_at) fields_at)) raw_bytes KeptRaw ShowsRaw
    raw =
        exact_within file typed 0x30 {Follows = Nothing} refl (λ at.
        exact_both file typed (exact_judged file typed (exact_key file typed) (is_new seen) reason.Repeated (λ _ _. at) {Holds = New} (λ p k s u. is_new_lem file seen before p k shown s)) fields.exact)

    component : Exact file Anything (read component_places (within 0x30 (λ at. both (judged (is_new seen) reason.Repeated (λ _ _. at) key_at) fields_at))) component_bytes (λ (c : Component). New c.key) (ShowsComponent file)
    component =
        exact_read file typed {bytes = raw_bytes} {Good = KeptRaw} {Shows = ShowsRaw} component_places raw to_component from_component
        (λ x g. ap raw_bytes (sym (back_to x g.1))) (λ c g. refl)
        (λ x g. g.0.1) (λ c g. ((tt, g), kept_back c))
        (λ p x g s. let t = subst (ShowsRaw p) (sym (back_to x g.1)) s in (t.0, (t.1.0, (t.1.1.1.0, t.1.1.1.1.1.1.1))))
        (λ p c g s. (s.0, (s.1.0, (s.1.1.1.0, s.1.1.1.1.1.1.1))))

    pub exact_component : Exact file Anything (component_at kind seen) component_bytes (λ (c : Component). StatusAsked kind c × New c.key) (ShowsComponent file)
    exact_component =
        exact_as (λ c g. (g.1, g.0)) (λ c g. (g.1, g.0)) (λ p c s. s)
        (exact_judged file typed component (λ f p. is_asked kind (is_some p.status)) reason.Status (λ at p. at) {Holds = StatusAsked kind} (λ p c s g. asked file kind p.status c.status s.1.1.1))
