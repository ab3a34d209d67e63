-- A check says yes exactly where the file keeps the profile, and the reading is one.
use Rattle.std.proofs.Common.{◌≡◌, ℕ, ◌≤◌, min, ltb, List, [], ◌∷◌, ◌++◌, map, length, drop, Ok, Err, Result, sym, refl, ap, ◌∙◌, subst, inl, inr, arith}
use Rattle.std.proofs.lemmas.List.{append-nil, length-map}
use Rattle.std.proofs.lemmas.Bool.{cases_lt, le-ltb, ltb-false}
use Rattle.der.specs.declared.refusal.Refusal.{Refusal}
use Rattle.der.specs.Refusals.{then}
use Rattle.der.specs.Numbers.{Bytes, part}
use Rattle.der.specs.Elements.{end_within, wanted_at, tagged_at}
use Rattle.der.specs.Encoding.{encoded}
use Rattle.der.proofs.Parts.{part_none, part_all}
use Rattle.der.proofs.Laws.{encoded_unique}
use Rattle.reader.specs.declared.kind.Kind.{Kind}
use Rattle.reader.specs.declared.span.Span.{Span}
use Rattle.der.specs.Elements.{ended}
use Rattle.reader.specs.Readers.{Reader, cut, inside, both, read}
use Rattle.reader.specs.Syntax.{Other, other_bytes, Among}
use Rattle.reader.proofs.Cuts.{cut_within}
use Rattle.reader.proofs.Exact.{then_into, then_made, unless_into, ended_into, ended_made, over, same_answer}
use Rattle.reader.proofs.Optional.{encoded_begins}
use Rattle.reader.proofs.Lists.{Show}
use Rattle.reader.proofs.Labels.{among_weaker, only}
use Rattle.envelope.specs.declared.envelope.EnvelopePlaces.{EnvelopePlaces}
use Rattle.envelope.specs.Identifiers.{platform_configuration}
use Rattle.envelope.specs.Profile.{Attribute, Envelope, KeptEnvelope, envelope_bytes}
use Rattle.envelope.specs.Readings.{envelope_at}
use Rattle.envelope.proofs.EnvelopeLaws.{ShowsEnvelope, exact_envelope}
use Rattle.component.specs.declared.places.ComponentPlaces.{ComponentPlaces}
use Rattle.component.specs.declared.places.Components.{Components}
use Rattle.component.specs.Syntax.{Component, Configuration, configuration_bytes, KeptConfiguration, most}
use Rattle.component.specs.Readings.{components_at, behind_at, configuration_at, counted, components_from}
use Rattle.component.specs.Meaning.{Means}
use Rattle.component.proofs.ConfigurationLaws.{exact_configuration}
use Rattle.component.proofs.Walks.{configuration_from}
use Rattle.certificate.specs.declared.line.Line.{Line}
use Rattle.certificate.specs.declared.places.Places.{Places}
use Rattle.certificate.specs.Checks.{most_bytes, envelope_of, components_of, checked}
use Rattle.certificate.specs.Profile.{Certificate, Profile, line_of, reading_of}
use Rattle.certificate.specs.Readings.{line_in, places_in, reading_at, Reads, Told}

-- ---- an end behind the file

-- the end of an element inside the file
abbrev inner : List ℕ → ℕ → ℕ
inner file to = min to (length file)

tagged_inner : (file : List ℕ) (at to tag : ℕ) → tagged_at file at to tag ≡ tagged_at file at (inner file to) tag
unfolding tagged_at
tagged_inner file at to tag = let same : end_within file to ≡ end_within file (inner file to) = omega arith in ap (λ (n : ℕ). wanted_at file at n tag) same

inside_inner : {X : Type 0} (tag : ℕ) (r : Reader X) (file : List ℕ) (at to : ℕ) → inside tag r file at to ≡ inside tag r file at (inner file to)
inside_inner tag r file at to = ap (λ (q : Result (ℕ × ℕ) Refusal). then q (λ p. then (r file p.0 p.1) (λ q. then (ended q.1 p.1) (λ _. Ok (q.0, p.1))))) (tagged_inner file at to tag)

configuration_inner : (kind : Kind) (file : List ℕ) (at to : ℕ) → configuration_at kind file at to ≡ configuration_at kind file at (inner file to)
configuration_inner kind file at to = inside_inner 0x30 (read (λ p. p.0) (both (components_at kind) behind_at)) file at to

cut_inner : (file : List ℕ) (s : Span) → cut file s ≡ part file s.from (inner file s.to)
cut_inner file s = elim (cases_lt s.from (inner file s.to)) [
  | inl h ↦ sym (cut_within file s.from s.to s.from (inner file s.to) refl (omega arith))
  | inr h ↦ sym (cut_within file s.from s.to (inner file s.to) (inner file s.to) refl (omega arith)) ∙ (part_none file (inner file s.to) (inner file s.to) (omega arith) ∙ sym (part_none file s.from (inner file s.to) h))
]

-- where an element stands there is something
not_none : (file : List ℕ) (from to tag : ℕ) (content rest : List ℕ) → part file from to ≡ encoded tag content ++ rest → from ≤ to
not_none file from to tag content rest e = elim (cases_lt to from) [
  | inl h ↦ (let z = ap length (ap (λ (z : List ℕ). z ++ rest) (sym (encoded_begins tag content).1) ∙ (sym e ∙ part_none file from to (omega arith))) in let no : ⊥ = omega arith in absurd no)
  | inr h ↦ h
]

-- of one that keeps a rule, what the rule says of all
among_get : {X : Type 0} {G : Type 0} (P : X → Type 0) (xs : List X) → ((x : X) → P x → G) → Among P xs → G
among_get P [] f a = absurd a
among_get P (x ∷ xs) f (inl h) = f x h
among_get P (x ∷ xs) f (inr h) = among_get P xs f h

-- an element that begins as a whole with another is that one
one_element : (o : Other) (tag : ℕ) (c rest s : List ℕ) → s ≡ other_bytes o → s ≡ encoded tag c ++ rest → other_bytes o ≡ encoded tag c
one_element o tag c rest s e f =
    let u = encoded_unique o.tag tag o.content c [] rest (append-nil (other_bytes o) ∙ (sym e ∙ f)) in
    sym e ∙ (f ∙ (ap (λ (z : List ℕ). encoded tag c ++ z) (sym u.2) ∙ append-nil (encoded tag c)))

ok_same : {X : Type 0} (x y : X) → ◌≡◌ {A = Result X Refusal} (Ok x) (Ok y) → x ≡ y
ok_same x y e = cc

-- ---- what is shown

-- components that are meant, line by line
lines : (file : List ℕ) (ps : List ComponentPlaces) (xs : List Component) → Show (Means file) ps xs → map (line_in file) ps ≡ map line_of xs
lines file [] [] s = refl
lines file [] (x ∷ xs) s = absurd s
lines file (p ∷ ps) [] s = absurd s
lines file (p ∷ ps) (x ∷ xs) s =
    let head : line_in file p ≡ line_of x = λ i. record { key = s.0.key i; details = s.0.details i; status = s.0.status i } in
    ap (λ (z : Line). z ∷ map (line_in file) ps) head ∙ ap (λ (z : List Line). line_of x ∷ z) (lines file ps xs s.1)

module _ (file : List ℕ) (typed : Bytes file) (kind : Kind) where
  -- an envelope and a configuration that stand where a check says show what is read of a certificate
  shown : (p : Places) (c : Certificate) (ps : List ComponentPlaces) → ShowsEnvelope file typed kind p.envelope c.envelope → places_in kind file p ≡ ps → Show (Means file) ps c.configuration.components → reading_at kind file p ≡ reading_of c
  shown p c ps e at means = λ i. record {
    signed = e.signed i;
    signature = ap (drop 1) e.signature i;
    issuer = e.fields.issuer i;
    serial = e.fields.serial i;
    holder = record { issuer = e.fields.holder.issuer i; serial = e.fields.holder.serial i };
    validity = record { first = e.fields.validity.first i; last = e.fields.validity.last i };
    components = (ap (map (line_in file)) at ∙ lines file ps c.configuration.components means) i;
  }

  -- ---- yes only where the profile is kept

  record Enveloped (e : EnvelopePlaces) : Type 0 where
    size : length file ≤ most_bytes
    syntax : Envelope
    bytes : file ≡ envelope_bytes syntax
    kept : KeptEnvelope kind syntax
    shows : ShowsEnvelope file typed kind e syntax

  enveloped : (e : EnvelopePlaces) → envelope_of kind file ≡ Ok e → Enveloped e
  enveloped e was =
      unless_into (ltb most_bytes (length file)) _ _ e was (λ t e1.
      then_into (envelope_at kind file 0 (length file)) _ e e1 (λ q eq e2.
      ended_into q.1 (length file) _ e e2 (λ k e3.
      let i = (exact_envelope file typed kind).sound 0 (length file) q.0 q.1 (omega arith) (omega arith) eq in
      let whole : file ≡ envelope_bytes i.syntax = sym (part_all file 0) ∙ (i.stands ∙ (ap (λ (z : List ℕ). envelope_bytes i.syntax ++ z) (part_none file q.1 (length file) k) ∙ append-nil (envelope_bytes i.syntax))) in
      let same : q.0 ≡ e = cc in
      record {
        size = ltb-false most_bytes (length file) t;
        syntax = i.syntax;
        bytes = whole;
        kept = i.good;
        shows = subst (λ (z : EnvelopePlaces). ShowsEnvelope file typed kind z i.syntax) same i.shows;
      })))

  record Configured (s : Span) (c : Components) : Type 0 where
    syntax : Configuration
    rest : List ℕ
    bytes : cut file s ≡ configuration_bytes syntax ++ rest
    kept : KeptConfiguration kind syntax
    places : List ComponentPlaces
    at : components_from kind (most kind) file c.list.from c.list.to ≡ places
    means : Show (Means file) places syntax.components
    counted : c.count ≡ length places

  configured : (o : Other) (e : EnvelopePlaces) (c : Components) → cut file e.fields.configuration ≡ other_bytes o → components_of kind file e ≡ Ok c → Configured e.fields.configuration c
  configured o e c element was =
      let s = e.fields.configuration in
      let to : ℕ = inner file s.to in
      let there : part file s.from to ≡ other_bytes o ++ [] = sym (cut_inner file s) ∙ (element ∙ sym (append-nil (other_bytes o))) in
      let from : s.from ≤ to = not_none file s.from to o.tag o.content [] there in
      then_into (read counted (configuration_at kind) file s.from s.to) _ c was (λ q eq e1.
      then_into (configuration_at kind file s.from s.to) _ q eq (λ r er e2.
      let i = (exact_configuration file typed kind).sound s.from to r.0 r.1 from (omega arith) (sym (configuration_inner kind file s.from s.to) ∙ er) in
      let first : counted r.0 ≡ q.0 = same_answer (counted r.0) q.0 r.1 q.1 e2 in
      let second : q.0 ≡ c = ok_same q.0 c e1 in
      record {
        syntax = i.syntax;
        rest = part file r.1 to;
        bytes = cut_inner file s ∙ i.stands;
        kept = i.good;
        places = r.0.1;
        at = ap (λ (z : Components). components_from kind (most kind) file z.list.from z.list.to) (sym (first ∙ second)) ∙ configuration_from kind file s.from s.to r.0 r.1 er;
        means = i.shows.means;
        counted = ap (λ (z : Components). z.count) (sym (first ∙ second));
      }))

  -- the element of the configuration, among the attributes
  abbrev ShownElement : EnvelopePlaces → Attribute → Type 0
  ShownElement e a = (a.identifier ≡ platform_configuration) × (cut file e.fields.configuration ≡ other_bytes a.element)

  checked_sound : (p : Places) → checked kind file ≡ Ok p → (c : Certificate) × (Profile kind file c × ((reading_at kind file p ≡ reading_of c) × (p.components.count ≡ length (reading_at kind file p).components)))
  unfolding checked
  checked_sound p was =
      then_into (envelope_of kind file) _ p was (λ e ee e1.
      then_into (components_of kind file e) _ p e1 (λ c ec e2.
      let v = enveloped e ee in
      let element : (a : Attribute) × (cut file e.fields.configuration ≡ other_bytes a.element) = among_get (ShownElement e) v.syntax.signed.attributes (λ a h. (a, h.1)) v.shows.fields.configuration in
      let w = configured element.0.element e c element.1 ec in
      let whole : Certificate = record { envelope = v.syntax; configuration = w.syntax } in
      let same : record { envelope = e; components = c } ≡ p = ok_same _ p e2 in
      let profile : Profile kind file whole = record {
        size = v.size;
        bytes = v.bytes;
        envelope = v.kept;
        configured = among_weaker (ShownElement e) (λ (a : Attribute). (a.identifier ≡ platform_configuration) × (other_bytes a.element ≡ configuration_bytes w.syntax)) v.syntax.signed.attributes (λ a h. (h.0, one_element a.element 0x30 _ w.rest (cut file e.fields.configuration) h.1 w.bytes)) v.shows.fields.configuration;
        configuration = w.kept;
      } in
      let places : Places = record { envelope = e; components = c } in
      let many : c.count ≡ length (reading_at kind file places).components = w.counted ∙ sym (length-map (places_in kind file places) (line_in file) ∙ ap length w.at) in
      (whole, (profile, (ap (reading_at kind file) (sym same) ∙ shown places whole w.places v.shows w.at w.means, subst (λ (z : Places). z.components.count ≡ length (reading_at kind file z).components) same many)))))

  -- ---- yes wherever it is kept

  checked_complete : (c : Certificate) → Profile kind file c → (p : Places) × ((checked kind file ≡ Ok p) × (reading_at kind file p ≡ reading_of c))
  unfolding checked
  checked_complete c h =
      let size = h.size in
      let i = (exact_envelope file typed kind).complete 0 (length file) c.envelope [] (omega arith) (omega arith) (part_all file 0 ∙ (h.bytes ∙ sym (append-nil (envelope_bytes c.envelope)))) tt h.envelope in
      let s = i.answer.fields.configuration in
      let to : ℕ = inner file s.to in
      let both_ways = only (λ (a : Attribute). a.identifier) (λ (a : Attribute). other_bytes a.element ≡ configuration_bytes c.configuration) (λ (a : Attribute). cut file s ≡ other_bytes a.element) platform_configuration [] c.envelope.signed.attributes h.envelope.signed.attributes.listed.apart h.configured i.shows.fields.configuration in
      let element : cut file s ≡ configuration_bytes c.configuration = among_get _ c.envelope.signed.attributes (λ a m. m.1.1 ∙ m.1.0) both_ways in
      let there : part file s.from to ≡ configuration_bytes c.configuration ++ [] = sym (cut_inner file s) ∙ (element ∙ sym (append-nil (configuration_bytes c.configuration))) in
      let from : s.from ≤ to = not_none file s.from to 0x30 _ [] there in
      let j = (exact_configuration file typed kind).complete s.from to c.configuration [] from (omega arith) there tt h.configuration in
      let was = configuration_inner kind file s.from s.to ∙ j.was in
      let none : length file ≤ i.next = over file i.next (length file) (omega arith) i.after in
      let p : Places = record { envelope = i.answer; components = counted j.answer } in
      let first : envelope_of kind file ≡ Ok i.answer = rw (le-ltb most_bytes (length file) size) (then_made (envelope_at kind file 0 (length file)) _ (i.answer, i.next) _ i.was (ended_made i.next (length file) _ _ none refl)) in
      let second : components_of kind file i.answer ≡ Ok (counted j.answer) = then_made (read counted (configuration_at kind) file s.from s.to) _ (counted j.answer, j.next) _ (then_made (configuration_at kind file s.from s.to) _ (j.answer, j.next) _ was refl) refl in (
        p,
        (
          then_made (envelope_of kind file) _ i.answer _ first (then_made (components_of kind file i.answer) _ (counted j.answer) _ second refl),
          shown p c j.answer.1 i.shows (configuration_from kind file s.from s.to j.answer j.next was) j.shows.means,
        ),
      )

  -- ---- the answer of a check

  pub reads : (p : Places) → checked kind file ≡ Ok p → Reads kind file p
  reads p was =
      let c = checked_sound p was in
      record {
        certificate = c.0;
        profile = c.1.0;
        stands = c.1.1.0;
        counted = c.1.1.1;
        alone = λ d h. (let k = checked_complete d h in sym k.1.1 ∙ (ap (reading_at kind file) (ok_same k.0 p (sym k.1.0 ∙ was)) ∙ c.1.1.0));
      }

  pub told : (r : Result Places Refusal) → r ≡ checked kind file → Told kind file r
  told (Ok p) e = reads p (sym e)
  told (Err d) e = λ c h. let k = checked_complete c h in let f = e ∙ k.1.0 in let z : ◌≡◌ {A = ℕ} 0 1 = cc in let no : ⊥ = omega arith in absurd no
