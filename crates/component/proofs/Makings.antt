-- Keys and details made from what stands in a file are the ones that the places mean.
use Rattle.std.proofs.Common.{◌≡◌, ℕ, ◌<◌, true, false, List, [], length, replicate, Some, None, Ok, Err, Option, Result, sym, refl, ap, ◌∙◌, inl, inr, arith}
use Rattle.std.specs.Option.{option_map, unwrap_or}
use Rattle.std.proofs.lemmas.Bool.{cases_lt, cases_eq, lt-ltb}
use Rattle.std.proofs.lemmas.Bool.Decides.{nat_tests}
use Rattle.der.specs.declared.cursor.Cursor.{Cursor}
use Rattle.der.specs.declared.refusal.Refusal.{Refusal}
use Rattle.der.specs.Refusals.{then}
use Rattle.der.specs.Elements.{tagged_at}
use Rattle.der.specs.Cursors.{Enters, Stays}
use Rattle.parts.specs.declared.bounded.Bounded.{Bounded}
use Rattle.parts.specs.declared.key.Key.{Key}
use Rattle.parts.specs.declared.key.Registry.{Registry}
use Rattle.parts.specs.declared.key.Registry.TheVariants.{Tcg, Dmtf, Pcie, Storage}
use Rattle.parts.specs.Bounds.{content, is_bounded, bounded_of}
use Rattle.parts.specs.Keys.{Fields, said, fields_of, number_of, registry_of, key_of}
use Rattle.parts.proofs.Same.{same_content}
use Rattle.parts.proofs.Lawful.{key_only}
use Rattle.parts.proofs.Built.{bounded, bounded_or, bounded_or_lem, none, text, four_or, registry_or, key_from, good_fields, fields_made}
use Rattle.reader.specs.declared.kind.Kind.{Kind}
use Rattle.reader.specs.declared.span.Span.{Span}
use Rattle.reader.specs.Readers.{Reads, followed, read, entries_at}
use Rattle.component.specs.declared.places.ComponentPlaces.{ComponentPlaces}
use Rattle.component.specs.declared.places.Components.{Components}
use Rattle.component.specs.Syntax.{most}
use Rattle.component.specs.Readings.{component_at, components_at, counted}

-- ---- class values

pub four_same : (xs : List ℕ) → length xs ≡ 4 → four_or xs ≡ xs
four_same xs e = elim (cases_eq (length xs) 4) as (λ d. elim d [ inl h ↦ xs | inr h ↦ replicate 4 0 ] ≡ xs) [ inl h ↦ refl | inr h ↦ absurd (h e) ]

-- ---- keys

pub registry_back : (r : Registry) → registry_or (registry_of (number_of r)) ≡ r
registry_back Tcg = refl
registry_back Dmtf = refl
registry_back Pcie = refl
registry_back Storage = refl

-- a key is made of lent fields, each mended where it is none of a key
module _ (g f : Fields) (e : g ≡ f) (r : f.registry ≡ number_of (registry_or (registry_of f.registry))) (c m o s : List ℕ) (ec : c ≡ four_or g.class) (em : m ≡ content (text g.maker)) (eo : o ≡ content (text g.model)) (es : s ≡ content (text g.serial)) where
  mended : said g.registry c m o s ≡ fields_of (key_from f)
  mended = λ i. said
      ((ap (λ (x : Fields). x.registry) e ∙ r) i)
      ((ec ∙ ap (λ (x : Fields). four_or x.class) e) i)
      ((em ∙ ap (λ (x : Fields). content (text x.maker)) e) i)
      ((eo ∙ ap (λ (x : Fields). content (text x.model)) e) i)
      ((es ∙ ap (λ (x : Fields). content (text x.serial)) e) i)

  good : key_of (said g.registry c m o s) ≡ Ok (fields_of (key_from f))
  good = ap key_of mended ∙ fields_made (fields_of (key_from f)) (good_fields (key_from f))

  pub key_made : (k : Key) → Ok (fields_of k) ≡ key_of (said g.registry c m o s) → k ≡ key_from f
  key_made k h =
      let same : ◌≡◌ {A = Result Fields Refusal} (Ok (fields_of k)) (Ok (fields_of (key_from f))) = h ∙ good in
      let fields : fields_of k ≡ fields_of (key_from f) = cc in
      key_only k (key_from f) fields

  pub key_never : (d : Refusal) → Err d ≡ key_of (said g.registry c m o s) → ⊥
  key_never d h =
      let same : ◌≡◌ {A = Result Fields Refusal} (Err d) (Ok (fields_of (key_from f))) = h ∙ good in
      let z : ◌≡◌ {A = ℕ} 0 1 = cc in omega arith

-- ---- revisions

pub none_empty : none ≡ bounded_or none []
none_empty = same_content none (bounded_or none []) (sym (bounded_or_lem none [] (omega arith) (omega arith)))

pub revision_some : (xs : List ℕ) (r : Bounded 0 64) → Some (content r) ≡ bounded_of 0 64 xs → r ≡ bounded_or none xs
revision_some xs r e = elim (cases_lt 64 (length xs)) [
  | inl h ↦ (let f : is_bounded 0 64 xs ≡ false = grind (arith, nat_tests) in let n : ◌≡◌ {A = Option (List ℕ)} (Some (content r)) None = rw f at e in let z : ◌≡◌ {A = ℕ} 0 1 = cc in let no : ⊥ = omega arith in absurd no)
  | inr h ↦ (let f : is_bounded 0 64 xs ≡ true = grind (arith, nat_tests) in let n : ◌≡◌ {A = Option (List ℕ)} (Some (content r)) (Some xs) = rw f at e in let m : content r ≡ xs = cc in same_content r (bounded_or none xs) (m ∙ sym (bounded_or_lem none xs (omega arith) h)))
]

pub revision_none : (xs : List ℕ) → None ≡ bounded_of 0 64 xs → none ≡ bounded_or none xs
revision_none xs e = elim (cases_lt (length xs) 0) as (λ d. none ≡ elim d [ inl h ↦ none | inr a ↦ elim (cases_lt 64 (length xs)) [ inl h ↦ none | inr b ↦ bounded xs a b ] ]) [
  | inl h ↦ refl
  | inr a ↦ elim (cases_lt 64 (length xs)) as (λ d. none ≡ elim d [ inl h ↦ none | inr b ↦ bounded xs a b ]) [
    | inl h ↦ refl
    | inr b ↦ (let f : is_bounded 0 64 xs ≡ true = grind (arith, nat_tests) in let n : ◌≡◌ {A = Option (List ℕ)} None (Some xs) = rw f at e in let z : ◌≡◌ {A = ℕ} 0 1 = cc in let no : ⊥ = omega arith in absurd no)
  ]
]

-- what was made of some bytes, or none where they are too many
pub revision_made : (xs : List ℕ) (o : Option (Bounded 0 64)) → option_map content o ≡ bounded_of 0 64 xs → unwrap_or o none ≡ bounded_or none xs
revision_made xs None e = revision_none xs e
revision_made xs (Some r) e = revision_some xs r e

-- ---- component lists

counted_then : (list : Span) (entries : Result (List ComponentPlaces) Refusal) →
    followed (then {Y = Components} entries (λ xs. Ok (counted (list, xs)))) list.to ≡ then {Y = Components × ℕ} (then {Y = (Span × List ComponentPlaces) × ℕ} entries (λ xs. Ok ((list, xs), list.to))) (λ p. Ok (counted p.0, p.1))
counted_then list (Ok xs) = refl
counted_then list (Err e) = refl

-- a list whose entries were read, or the refusal of one of them
pub components_made : (kind : Kind) (old new content : Cursor) (size : ℕ) (entries : Result (List ComponentPlaces) Refusal) (result : Result Components Refusal) →
    Ok (content.at, content.end) ≡ tagged_at old.file.now old.at old.end 0xA0 → Enters old new content → Stays old new → content.at < content.end →
    size ≡ most kind → entries ≡ entries_at (component_at kind) old.at size [] content.file.now content.at content.end →
    result ≡ then entries (λ xs. Ok (counted (record { from = content.at; to = content.end }, xs))) →
    Reads (read counted (components_at kind)) old new result
unfolding components_at
components_made kind old new content size entries result t enters stays h n e r = record {
  is =
      let e' : entries_at (component_at kind) old.at (most kind) [] old.file.now content.at content.end ≡ entries = rw (← n, ← enters.file) (sym e) in
      rw (r, enters.behind, ← t, lt-ltb content.at content.end h, e') (counted_then (record { from = content.at; to = content.end }) entries);
  file = stays.file;
  end = stays.end;
}
