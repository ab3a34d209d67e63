-- Keys are read exactly, and told apart where they stand.
use Rattle.std.proofs.Common.{◌≡◌, ℕ, Bool, true, false, cond, not, ◌&&◌, List, [], ◌∷◌, ◌++◌, is_some, Some, None, Decides, Option, sym, refl, ap, ◌∙◌, subst}
use Rattle.std.specs.Str.{bytes_eq}
use Rattle.std.specs.List.{list_all}
use Rattle.std.proofs.lemmas.Slice.Eq.{bytes_eq-Decides}
use Rattle.std.proofs.lemmas.Bool.{false≢true}
use Rattle.der.specs.declared.refusal.Reason.TheVariants as reason
use Rattle.der.specs.Numbers.{Bytes}
use Rattle.der.specs.Contents.{Identifier}
use Rattle.der.specs.Encoding.{encoded}
use Rattle.der.proofs.Rules.{identifier_decides}
use Rattle.parts.specs.declared.key.Key.{Key}
use Rattle.parts.specs.declared.key.Registry.{Registry}
use Rattle.parts.specs.declared.key.Registry.TheVariants.{Tcg, Dmtf, Pcie, Storage}
use Rattle.parts.specs.Bounds.{content}
use Rattle.parts.specs.Keys.{said, number_of, registry_of}
use Rattle.parts.proofs.Lawful.{key_only}
use Rattle.parts.proofs.Built.{bounded_or_lem, blank, registry_or, key_from, key_back, good_fields}
use Rattle.reader.specs.declared.span.Span.{Span}
use Rattle.reader.specs.declared.leaf.Leaf.TheVariants as leaf
use Rattle.reader.specs.Readers.{cut}
use Rattle.reader.specs.Leaves.{Kept}
use Rattle.reader.proofs.Exact.{Exact, Anything, exact_inside, exact_both, exact_read, exact_judged}
use Rattle.reader.proofs.LeafLaws.{exact_leaf}
use Rattle.component.specs.declared.places.KeyPlaces.{KeyPlaces}
use Rattle.component.specs.declared.places.ComponentPlaces.{ComponentPlaces}
use Rattle.component.specs.Registries.{registry_bytes, registry_named}
use Rattle.component.specs.Syntax.{key_bytes}
use Rattle.component.specs.Readings.{is_registry, class_at, key_places, key_at, same_key, is_new}
use Rattle.component.specs.Meaning.{registry_number, key_in}
use Rattle.component.proofs.Makings.{four_same, registry_back}

-- ---- registries

pub bytes_named : (r : Registry) → registry_named (registry_bytes r) ≡ Some r
bytes_named Tcg = refl
bytes_named Dmtf = refl
bytes_named Pcie = refl
bytes_named Storage = refl

pub number_named : (r : Registry) → registry_number (registry_bytes r) ≡ number_of r
number_named r = ap (λ (o : Option Registry). number_of (registry_or o)) (bytes_named r)

by_tests : (c : List ℕ) (a b d e : Bool) → (a ≡ true → c ≡ registry_bytes Tcg) → (b ≡ true → c ≡ registry_bytes Dmtf) → (d ≡ true → c ≡ registry_bytes Pcie) → (e ≡ true → c ≡ registry_bytes Storage) →
    is_some (cond a (Some Tcg) (cond b (Some Dmtf) (cond d (Some Pcie) (cond e (Some Storage) None)))) ≡ true →
    registry_bytes (registry_or (cond a (Some Tcg) (cond b (Some Dmtf) (cond d (Some Pcie) (cond e (Some Storage) None))))) ≡ c
by_tests c true b d e pa pb pd pe h = sym (pa refl)
by_tests c false true d e pa pb pd pe h = sym (pb refl)
by_tests c false false true e pa pb pd pe h = sym (pd refl)
by_tests c false false false true pa pb pd pe h = sym (pe refl)
by_tests c false false false false pa pb pd pe h = absurd (false≢true h)

pub named_back : (c : List ℕ) → is_some (registry_named c) ≡ true → registry_bytes (registry_or (registry_named c)) ≡ c
named_back c h =
    by_tests c
    (bytes_eq c (registry_bytes Tcg)) (bytes_eq c (registry_bytes Dmtf)) (bytes_eq c (registry_bytes Pcie)) (bytes_eq c (registry_bytes Storage))
    (bytes_eq-Decides c (registry_bytes Tcg)).0 (bytes_eq-Decides c (registry_bytes Dmtf)).0 (bytes_eq-Decides c (registry_bytes Pcie)).0 (bytes_eq-Decides c (registry_bytes Storage)).0 h

registry_identifier : (r : Registry) → Identifier (registry_bytes r)
registry_identifier Tcg = (identifier_decides (registry_bytes Tcg)).0 refl
registry_identifier Dmtf = (identifier_decides (registry_bytes Dmtf)).0 refl
registry_identifier Pcie = (identifier_decides (registry_bytes Pcie)).0 refl
registry_identifier Storage = (identifier_decides (registry_bytes Storage)).0 refl

-- ---- a key and the contents of its fields

abbrev Contents : Type 0
Contents = (List ℕ × List ℕ) × (List ℕ × (List ℕ × List ℕ))

abbrev content_bytes : Contents → List ℕ
content_bytes x = encoded 0x30 (encoded 0x06 x.0.0 ++ encoded 0x04 x.0.1) ++ (encoded 0x0C x.1.0 ++ (encoded 0x0C x.1.1.0 ++ encoded 0x80 x.1.1.1))

abbrev Known : List ℕ → Type 0
Known c = is_some (registry_named c) ≡ true

abbrev KeptContents : Contents → Type 0
KeptContents x = ((Kept leaf.Identifier x.0.0 × Known x.0.0) × Kept leaf.Class x.0.1) × (Kept leaf.Text x.1.0 × (Kept leaf.Text x.1.1.0 × Kept leaf.SerialText x.1.1.1))

abbrev to_key : Contents → Key
to_key x = key_from (said (registry_number x.0.0) x.0.1 x.1.0 x.1.1.0 x.1.1.1)

abbrev from_key : Key → Contents
from_key k = ((registry_bytes k.registry, k.class), (content k.maker, (content k.model, content k.serial)))

back_to : (x : Contents) → KeptContents x → from_key (to_key x) ≡ x
back_to x g =
    let registry : registry_bytes (registry_or (registry_of (registry_number x.0.0))) ≡ x.0.0 = ap registry_bytes (registry_back (registry_or (registry_named x.0.0))) ∙ named_back x.0.0 g.0.0.1 in
    λ i. ((registry i, four_same x.0.1 g.0.1 i), (bounded_or_lem blank x.1.0 g.1.0.long g.1.0.short i, (bounded_or_lem blank x.1.1.0 g.1.1.0.long g.1.1.0.short i, bounded_or_lem blank x.1.1.1 g.1.1.1.long g.1.1.1.short i)))

to_back : (k : Key) → to_key (from_key k) ≡ k
to_back k = ap (λ (n : ℕ). key_from (said n k.class (content k.maker) (content k.model) (content k.serial))) (number_named k.registry) ∙ key_back k

kept_back : (k : Key) → KeptContents (from_key k)
kept_back k =
    let g = good_fields k in
    (((registry_identifier k.registry, ap is_some (bytes_named k.registry)), k.four), (record { long = g.maker.0; short = g.maker.1 }, (record { long = g.model.0; short = g.model.1 }, record { long = g.serial.0; short = g.serial.1 })))

-- ---- reading

-- the places hold the contents of the key's fields
abbrev pub ShowsKey : List ℕ → KeyPlaces → Key → Type 0
ShowsKey file p k = ((cut file p.registry ≡ registry_bytes k.registry) × (cut file p.class ≡ k.class)) × ((cut file p.maker ≡ content k.maker) × ((cut file p.model ≡ content k.model) × (cut file p.serial ≡ content k.serial)))

-- they mean the key
pub key_shown : (file : List ℕ) (p : KeyPlaces) (k : Key) → ShowsKey file p k → key_in file p ≡ k
key_shown file p k s = (λ i. to_key ((s.0.0 i, s.0.1 i), (s.1.0 i, (s.1.1.0 i, s.1.1.1 i)))) ∙ to_back k

module _ (file : List ℕ) (typed : Bytes file) where
  abbrev ShowsContents : (Span × Span) × (Span × (Span × Span)) → Contents → Type 0
  ShowsContents p x = ((cut file p.0.0 ≡ x.0.0) × (cut file p.0.1 ≡ x.0.1)) × ((cut file p.1.0 ≡ x.1.0) × ((cut file p.1.1.0 ≡ x.1.1.0) × (cut file p.1.1.1 ≡ x.1.1.1)))

  known : (s : Span) (c : List ℕ) → cut file s ≡ c → Kept leaf.Identifier c → Decides (is_registry file s) (Known c)
  known s c e g = (λ h. subst Known e h, λ h. subst Known (sym e) h)

  exact_class : Exact file Anything class_at (λ (x : List ℕ × List ℕ). encoded 0x30 (encoded 0x06 x.0 ++ encoded 0x04 x.1)) (λ (x : List ℕ × List ℕ). (Kept leaf.Identifier x.0 × Known x.0) × Kept leaf.Class x.1) (λ (p : Span × Span) (x : List ℕ × List ℕ). (cut file p.0 ≡ x.0) × (cut file p.1 ≡ x.1))
  exact_class = exact_inside file typed 0x30 {Follows = Anything} tt (exact_both file typed (exact_judged file typed (exact_leaf file typed leaf.Identifier) is_registry reason.BadContent (λ at s. at) {Holds = Known} known) (exact_leaf file typed leaf.Class))

  pub exact_key : Exact file Anything key_at key_bytes (λ (k : Key). Unit {0}) (ShowsKey file)
  exact_key =
      exact_read file typed {bytes = content_bytes} {Good = KeptContents} {Shows = ShowsContents} key_places
      (exact_both file typed exact_class (exact_both file typed (exact_leaf file typed leaf.Text) (exact_both file typed (exact_leaf file typed leaf.Text) (exact_leaf file typed leaf.SerialText))))
      to_key from_key
      (λ x g. ap content_bytes (sym (back_to x g))) (λ k u. refl)
      (λ x g. tt) (λ k u. kept_back k)
      (λ p x g s. subst (ShowsContents p) (sym (back_to x g)) s) (λ p k u s. s)

-- ---- equal keys

pub new_of_all : (file : List ℕ) (key : KeyPlaces) (seen : List ComponentPlaces) → list_all (λ p. not (same_key file p.key key)) seen ≡ is_new seen file key
new_of_all file key [] = refl
new_of_all file key (p ∷ ps) = ap (λ (b : Bool). not (same_key file p.key key) && b) (new_of_all file key ps)

and_decides : {P Q : Type 0} (a b : Bool) → Decides a P → Decides b Q → Decides (a && b) (P × Q)
and_decides true b d e = (λ h. (d.0 refl, e.0 h), λ h. e.1 h.1)
and_decides false b d e = (λ h. absurd (false≢true h), λ h. absurd (false≢true (d.1 h.0)))

not_decides : {P : Type 0} (a : Bool) → Decides a P → Decides (not a) (P → ⊥)
not_decides true d = (λ h. absurd (false≢true h), λ h. absurd (h (d.0 refl)))
not_decides false d = (λ h p. false≢true (d.1 p), λ h. refl)

pub both_decide : {P Q : Type 0} (a b : Bool) → Decides a P → Decides b Q → Decides (not a && b) ((P → ⊥) × Q)
both_decide a b d e = and_decides (not a) b (not_decides a d) e

module _ (file : List ℕ) (p q : KeyPlaces) (j k : Key) (s : ShowsKey file p j) (t : ShowsKey file q k) where
  abbrev Alike : Type 0
  Alike = (cut file p.serial ≡ cut file q.serial) × ((cut file p.model ≡ cut file q.model) × ((cut file p.maker ≡ cut file q.maker) × ((cut file p.class ≡ cut file q.class) × (cut file p.registry ≡ cut file q.registry))))

  tested : Decides (same_key file p q) Alike
  tested =
      and_decides _ _ (bytes_eq-Decides (cut file p.serial) (cut file q.serial))
      (and_decides _ _ (bytes_eq-Decides (cut file p.model) (cut file q.model))
      (and_decides _ _ (bytes_eq-Decides (cut file p.maker) (cut file q.maker))
      (and_decides _ _ (bytes_eq-Decides (cut file p.class) (cut file q.class))
      (bytes_eq-Decides (cut file p.registry) (cut file q.registry)))))

  alike : Alike → k ≡ j
  alike a =
      let registry : number_of k.registry ≡ number_of j.registry = sym (number_named k.registry) ∙ (ap registry_number (sym t.0.0 ∙ (sym a.1.1.1.1 ∙ s.0.0)) ∙ number_named j.registry) in
      let class : k.class ≡ j.class = sym t.0.1 ∙ (sym a.1.1.1.0 ∙ s.0.1) in
      let maker : content k.maker ≡ content j.maker = sym t.1.0 ∙ (sym a.1.1.0 ∙ s.1.0) in
      let model : content k.model ≡ content j.model = sym t.1.1.0 ∙ (sym a.1.0 ∙ s.1.1.0) in
      let serial : content k.serial ≡ content j.serial = sym t.1.1.1 ∙ (sym a.0 ∙ s.1.1.1) in
      key_only k j (λ i. said (registry i) (class i) (maker i) (model i) (serial i))

  unlike : k ≡ j → Alike
  unlike e = (
    s.1.1.1 ∙ (ap (λ (x : Key). content x.serial) (sym e) ∙ sym t.1.1.1),
    (
      s.1.1.0 ∙ (ap (λ (x : Key). content x.model) (sym e) ∙ sym t.1.1.0),
      (
        s.1.0 ∙ (ap (λ (x : Key). content x.maker) (sym e) ∙ sym t.1.0),
        (
          s.0.1 ∙ (ap (λ (x : Key). x.class) (sym e) ∙ sym t.0.1),
          s.0.0 ∙ (ap (λ (x : Key). registry_bytes x.registry) (sym e) ∙ sym t.0.0),
        ),
      ),
    ),
  )

  -- two keys are equal where the places hold the same bytes
  pub same_decides : Decides (same_key file p q) (k ≡ j)
  same_decides = (λ h. alike (tested.0 h), λ e. tested.1 (unlike e))
