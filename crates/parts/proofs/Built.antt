-- Values of the code's types, built from plain bytes. Where the bytes keep the rules they are what was read; elsewhere
-- they are some value, which nobody asks for.
use Rattle.std.proofs.Common.{◌≡◌, ℕ, ◌+◌, ◌-◌, ◌≤◌, Bool, true, List, [], ◌∷◌, ◌++◌, length, replicate, is_some, Some, None, Ok, Option, Result, sym, refl, ap, ◌∙◌, inl, inr, arith}
use Rattle.std.proofs.lemmas.List.{length-append, length-replicate, take_at, drop_at}
use Rattle.std.proofs.lemmas.Bool.{cases_lt, cases_eq}
use Rattle.std.proofs.lemmas.Bool.Decides.{nat_tests}
use Rattle.der.specs.declared.refusal.Refusal.{Refusal}
use Rattle.parts.specs.declared.bounded.Bounded.{Bounded}
use Rattle.parts.specs.declared.key.Key.{Key}
use Rattle.parts.specs.declared.key.Registry.{Registry}
use Rattle.parts.specs.declared.key.Registry.TheVariants.{Tcg, Dmtf, Pcie, Storage}
use Rattle.parts.specs.declared.details.Details.{Details}
use Rattle.parts.specs.Bounds.{content, is_bounded}
use Rattle.parts.specs.Keys.{Fields, fields_of, number_of, registry_of, key_of}
use Rattle.parts.specs.Details.{Facts, facts_of, replaceable_of, with_replaceable, details_of}
use Rattle.parts.proofs.Same.{same_content, content_length}
use Rattle.parts.proofs.Lawful.{key_only}

-- ---- byte strings

module _ {most : ℕ} where
  pub full_length : (xs : List ℕ) → length xs ≤ most → length (xs ++ replicate (most - length xs) 0) ≡ most
  full_length xs b =
      let zeros : List ℕ = replicate (most - length xs) 0 in
      let n : length (xs ++ zeros) ≡ length xs + length zeros = length-append xs zeros in
      let m : length zeros ≡ most - length xs = length-replicate (most - length xs) 0 in
      omega arith

module _ {least most : ℕ} where
  abbrev pub bounded : (xs : List ℕ) → least ≤ length xs → length xs ≤ most → Bounded least most
  bounded xs a b = record {
    len = length xs;
    bytes = xs ++ replicate (most - length xs) 0;
    full = full_length xs b;
    least = a;
    within = b;
    padded = drop_at xs (replicate (most - length xs) 0) (length xs) refl;
  }

  pub bounded_content : (xs : List ℕ) (a : least ≤ length xs) (b : length xs ≤ most) → content (bounded xs a b) ≡ xs
  bounded_content xs a b = take_at xs (replicate (most - length xs) 0) (length xs) refl

  -- the bytes where they keep the bounds, else the value given
  abbrev pub bounded_or : Bounded least most → List ℕ → Bounded least most
  bounded_or other xs = elim (cases_lt (length xs) least) [ inl h ↦ other | inr a ↦ elim (cases_lt most (length xs)) [ inl h ↦ other | inr b ↦ bounded xs a b ] ]

pub bounded_or_lem : {least most : ℕ} (other : Bounded least most) (xs : List ℕ) → least ≤ length xs → length xs ≤ most → content (bounded_or other xs) ≡ xs
bounded_or_lem {least} {most} other xs a b =
    elim (cases_lt (length xs) least) as (λ d. content (elim d [ inl h ↦ other | inr a ↦ elim (cases_lt most (length xs)) [ inl h ↦ other | inr b ↦ bounded xs a b ] ]) ≡ xs) [
      | inl h ↦ (let never : ⊥ = omega arith in absurd never)
      | inr a' ↦ elim (cases_lt most (length xs)) as (λ d. content (elim d [ inl h ↦ other | inr b ↦ bounded xs a' b ]) ≡ xs) [
        | inl h ↦ (let never : ⊥ = omega arith in absurd never)
        | inr b' ↦ bounded_content xs a' b'
      ]
    ]

-- ---- keys

abbrev pub blank : Bounded 1 64
blank = bounded (0 ∷ []) (omega arith) (omega arith)

abbrev pub text : List ℕ → Bounded 1 64
text xs = bounded_or blank xs

abbrev pub registry_or : Option Registry → Registry
registry_or None = Tcg
registry_or (Some r) = r

abbrev pub four_or : List ℕ → List ℕ
four_or xs = elim (cases_eq (length xs) 4) [ inl h ↦ xs | inr h ↦ replicate 4 0 ]

pub four_length : (xs : List ℕ) → length (four_or xs) ≡ 4
four_length xs = elim (cases_eq (length xs) 4) as (λ d. length {A = ℕ} (elim d [ inl h ↦ xs | inr h ↦ replicate 4 0 ]) ≡ 4) [ inl h ↦ h | inr h ↦ refl ]

four_or_lem : (xs : List ℕ) → length xs ≡ 4 → four_or xs ≡ xs
four_or_lem xs e = elim (cases_eq (length xs) 4) as (λ d. elim d [ inl h ↦ xs | inr h ↦ replicate 4 0 ] ≡ xs) [ inl h ↦ refl | inr h ↦ absurd (h e) ]

-- the key with these fields
abbrev pub key_from : Fields → Key
key_from f = record {
  registry = registry_or (registry_of f.registry);
  class = four_or f.class;
  maker = text f.maker;
  model = text f.model;
  serial = text f.serial;
  four = four_length f.class;
}

-- fields that are those of a key
pub record Good (f : Fields) : Type 0 where
  pub registry : is_some (registry_of f.registry) ≡ true
  pub class : length f.class ≡ 4
  pub maker : (1 ≤ length f.maker) × (length f.maker ≤ 64)
  pub model : (1 ≤ length f.model) × (length f.model ≤ 64)
  pub serial : (1 ≤ length f.serial) × (length f.serial ≤ 64)

registry_or_lem : (n : ℕ) → is_some (registry_of n) ≡ true → number_of (registry_or (registry_of n)) ≡ n
registry_or_lem n h = grind (arith, nat_tests)

pub key_from_lem : (f : Fields) → Good f → fields_of (key_from f) ≡ f
key_from_lem f g = λ i. record {
  registry = registry_or_lem f.registry g.registry i;
  class = four_or_lem f.class g.class i;
  maker = bounded_or_lem blank f.maker g.maker.0 g.maker.1 i;
  model = bounded_or_lem blank f.model g.model.0 g.model.1 i;
  serial = bounded_or_lem blank f.serial g.serial.0 g.serial.1 i;
}

bounds_met : (least most : ℕ) (xs : List ℕ) → (least ≤ length xs) × (length xs ≤ most) → is_bounded least most xs ≡ true
bounds_met least most xs h = let a = h.0 in let b = h.1 in grind (arith, nat_tests)

-- good fields are those of a key, and the key that a making answers is the one built from them
pub fields_made : (f : Fields) → Good f → key_of f ≡ Ok f
fields_made f g = rw (g.registry, bounds_met 1 64 f.maker g.maker, bounds_met 1 64 f.model g.model, bounds_met 1 64 f.serial g.serial) refl

pub key_made : (f : Fields) (k : Key) → Good f → Ok (fields_of k) ≡ key_of f → k ≡ key_from f
key_made f k g e =
    let same : ◌≡◌ {A = Result Fields Refusal} (Ok (fields_of k)) (Ok f) = e ∙ fields_made f g in
    let fields : fields_of k ≡ f = cc in
    key_only k (key_from f) (fields ∙ sym (key_from_lem f g))

-- ---- details

abbrev pub none : Bounded 0 64
none = bounded [] (omega arith) (omega arith)

abbrev pub known_or : Option (Option Bool) → Option Bool
known_or None = None
known_or (Some r) = r

-- the details with a revision and a number for replaceable
abbrev pub details_from : List ℕ → ℕ → Details
details_from revision n = record { revision = bounded_or none revision; replaceable = known_or (replaceable_of n) }

-- details are told by their facts
pub details_only : (d e : Details) → facts_of d ≡ facts_of e → d ≡ e
details_only d e h = λ i. record {
  revision = same_content d.revision e.revision (ap (λ (f : Facts). f.revision) h) i;
  replaceable = (h i).replaceable;
}

abbrev facts : List ℕ → Option Bool → Facts
facts xs r = record { revision = xs; replaceable = r }

facts_made : (revision : List ℕ) (x : Option (Option Bool)) (f : Facts) → Ok f ≡ with_replaceable revision x → f ≡ record { revision = revision; replaceable = known_or x }
facts_made revision None f e = cc
facts_made revision (Some r) f e = cc

-- the details that a making answers are those built from the same fields
pub details_made : (revision : List ℕ) (n : ℕ) (d : Details) → length revision ≤ 64 → Ok (facts_of d) ≡ details_of revision n → d ≡ details_from revision n
details_made revision n d h e =
    let good : details_of revision n ≡ with_replaceable revision (replaceable_of n) = rw (bounds_met 0 64 revision (omega arith, h)) refl in
    let f : facts_of d ≡ record { revision = revision; replaceable = known_or (replaceable_of n) } = facts_made revision (replaceable_of n) (facts_of d) (e ∙ good) in
    let held : content (bounded_or none revision) ≡ revision = bounded_or_lem none revision (omega arith) h in
    details_only d (details_from revision n) (f ∙ ap (λ (xs : List ℕ). facts xs (known_or (replaceable_of n))) (sym held))

-- ---- back again

content_bounds : {least most : ℕ} (t : Bounded least most) → (least ≤ length (content t)) × (length (content t) ≤ most)
content_bounds t = let n = content_length t in let a = t.least in let b = t.within in (omega arith, omega arith)

-- the fields of a key are good, and the key built from them is the key
pub good_fields : (k : Key) → Good (fields_of k)
good_fields k = record {
  registry = elim k.registry as (λ r. is_some (registry_of (number_of r)) ≡ true) [ Tcg ↦ refl | Dmtf ↦ refl | Pcie ↦ refl | Storage ↦ refl ];
  class = k.four;
  maker = content_bounds k.maker;
  model = content_bounds k.model;
  serial = content_bounds k.serial;
}

pub key_back : (k : Key) → key_from (fields_of k) ≡ k
key_back k = key_only (key_from (fields_of k)) k (key_from_lem (fields_of k) (good_fields k))

pub revision_small : (d : Details) → length (content d.revision) ≤ 64
revision_small d = (content_bounds d.revision).1

pub details_back : (d : Details) (n : ℕ) → replaceable_of n ≡ Some d.replaceable → details_from (content d.revision) n ≡ d
details_back d n e =
    let held : content (bounded_or none (content d.revision)) ≡ content d.revision = bounded_or_lem none (content d.revision) (omega arith) (revision_small d) in
    details_only (details_from (content d.revision) n) d (λ i. facts (held i) (known_or (e i)))
