-- Configurations are read exactly.
use Rattle.std.proofs.Common.{◌≡◌, ℕ, ◌≤◌, ltb, List, [], ◌∷◌, ◌++◌, length, Ok, Option, sym, refl, ◌∙◌, subst}
use Rattle.std.specs.List.{flat_map}
use Rattle.der.specs.Numbers.{Bytes, part}
use Rattle.der.specs.Elements.{tagged_at}
use Rattle.der.specs.Encoding.{encoded}
use Rattle.der.proofs.Laws.{tagged_sound, encoded_unique}
use Rattle.reader.specs.declared.kind.Kind.{Kind}
use Rattle.reader.specs.declared.span.Span.{Span}
use Rattle.reader.specs.declared.leaf.Leaf.TheVariants as leaf
use Rattle.reader.specs.Readers.{Reader, cut, both, read, entries_at, list_at}
use Rattle.reader.specs.Leaves.{Kept}
use Rattle.reader.specs.Syntax.{perhaps_bytes, WhereThere, Listed}
use Rattle.reader.proofs.Exact.{Exact, Anything, Nothing, then_into, then_made, cond_into, sound_as, same_answer, same_next, exact_inside, exact_both, exact_read}
use Rattle.reader.proofs.Optional.{Optional, encoded_begins, optional_last, optional_more}
use Rattle.reader.proofs.Lists.{Show, exact_list}
use Rattle.component.specs.declared.places.ComponentPlaces.{ComponentPlaces}
use Rattle.component.specs.Syntax.{Component, component_bytes, StatusAsked, most, Configuration, configuration_bytes, KeptConfiguration}
use Rattle.component.specs.Readings.{component_at, components_at, behind_at, configuration_at}
use Rattle.component.specs.Meaning.{Means}
use Rattle.component.proofs.ComponentLaws.{ShowsField, ShowsComponent, component_shown, kept_other, exact_as, exact_component}

-- what a reading shows of a configuration: the list's content, and what each place means
pub record ShowsConfiguration (file : List ℕ) (p : Span × List ComponentPlaces) (c : Configuration) : Type 0 where
  pub list : cut file p.0 ≡ flat_map component_bytes c.components
  pub means : Show (Means file) p.1 c.components

show_all : {P X : Type 0} {S T : P → X → Type 0} (ps : List P) (xs : List X) → ((p : P) (x : X) → S p x → T p x) → Show S ps xs → Show T ps xs
show_all [] [] f s = tt
show_all [] (x ∷ xs) f s = absurd s
show_all (p ∷ ps) [] f s = absurd s
show_all (p ∷ ps) (x ∷ xs) f s = (f p x s.0, show_all ps xs f s.1)

module _ (file : List ℕ) (typed : Bytes file) (kind : Kind) where
  abbrev Kept' : List Component → Type 0
  Kept' = Listed (most kind) (StatusAsked kind) (λ (c : Component). c.key)

  abbrev list_bytes : List Component → List ℕ
  list_bytes xs = encoded 0xA0 (flat_map component_bytes xs)

  abbrev ShowsList : Span × List ComponentPlaces → List Component → Type 0
  ShowsList p xs = (cut file p.0 ≡ flat_map component_bytes xs) × Show (ShowsComponent file) p.1 xs

  abbrev list : Reader (List ComponentPlaces)
  list = list_at 0xA0 (most kind) (component_at kind)

  plain : Exact file Anything list list_bytes Kept' (Show (ShowsComponent file))
  plain = exact_list file typed (component_at kind) (λ x. (0x30, encoded_begins 0x30 _)) (λ ps xs s. exact_component file typed kind ps xs s) 0xA0 (most kind)

  -- the content of the list stands between its places
  inner : (at end from to : ℕ) (xs : List Component) (rest : List ℕ) → end ≤ length file → tagged_at file at end 0xA0 ≡ Ok (from, to) → part file at end ≡ list_bytes xs ++ rest → part file from to ≡ flat_map component_bytes xs
  inner at end from to xs rest l e s =
      let t = tagged_sound file at end 0xA0 from to typed l e in
      (encoded_unique 0xA0 0xA0 (part file from to) (flat_map component_bytes xs) (part file to end) rest (sym t.bytes ∙ s)).1

  exact_components : Exact file Anything (components_at kind) list_bytes Kept' ShowsList
  unfolding components_at
  exact_components = record {
    sound = λ at end p next h l e.
        then_into (tagged_at file at end 0xA0) _ (p, next) e (λ s es e1.
        cond_into (ltb s.0 s.1) _ _ (p, next) e1 (λ k e2.
        then_into (entries_at (component_at kind) at (most kind) [] file s.0 s.1) _ (p, next) e2 (λ qs eq e3.
        let was : list file at end ≡ Ok (qs, s.1) = then_made (tagged_at file at end 0xA0) _ s _ es (rw k (then_made (entries_at (component_at kind) at (most kind) [] file s.0 s.1) _ qs _ eq refl)) in
        let i = plain.sound at end qs s.1 h l was in
        sound_as (record { from = s.0; to = s.1 }, qs) p s.1 next e3 (record {
          syntax = i.syntax;
          stands = i.stands;
          good = i.good;
          shows = (inner at end s.0 s.1 i.syntax (part file s.1 end) l es i.stands, i.shows);
          forward = i.forward;
          within = i.within;
        }))));
    complete = λ at end x rest h l e may good.
        let i = plain.complete at end x rest h l e may good in
        then_into (tagged_at file at end 0xA0) _ (i.answer, i.next) i.was (λ s es e1.
        cond_into (ltb s.0 s.1) _ _ (i.answer, i.next) e1 (λ k e2.
        then_into (entries_at (component_at kind) at (most kind) [] file s.0 s.1) _ (i.answer, i.next) e2 (λ qs eq e3.
        let a : qs ≡ i.answer = same_answer qs i.answer s.1 i.next e3 in
        let n : s.1 ≡ i.next = same_next qs i.answer s.1 i.next e3 in
        record {
          answer = (record { from = s.0; to = s.1 }, qs);
          next = s.1;
          was = then_made (tagged_at file at end 0xA0) _ s _ es (rw k (then_made (entries_at (component_at kind) at (most kind) [] file s.0 s.1) _ qs _ eq refl));
          shows = (inner at end s.0 s.1 x rest l es e, subst (λ (z : List ComponentPlaces). Show (ShowsComponent file) z x) (sym a) i.shows);
          forward = subst (λ (z : ℕ). at ≤ z) (sym n) i.forward;
          within = subst (λ (z : ℕ). z ≤ end) (sym n) i.within;
          after = subst (λ (z : ℕ). part file z end ≡ rest) (sym n) i.after;
        })));
  }

  abbrev Three : Type 0 → Type 0
  Three X = Option X × (Option X × Option X)

  abbrev three_bytes : Three (List ℕ) → List ℕ
  three_bytes x = perhaps_bytes (encoded 0xA1) x.0 ++ (perhaps_bytes (encoded 0xA2) x.1.0 ++ perhaps_bytes (encoded 0xA3) x.1.1)

  abbrev KeptThree : Three (List ℕ) → Type 0
  KeptThree x = WhereThere (Kept (leaf.Opaque 0xA1)) x.0 × (WhereThere (Kept (leaf.Opaque 0xA2)) x.1.0 × WhereThere (Kept (leaf.Opaque 0xA3)) x.1.1)

  abbrev ShowsThree : Three Span → Three (List ℕ) → Type 0
  ShowsThree p x = ShowsField file p.0 x.0 × (ShowsField file p.1.0 x.1.0 × ShowsField file p.1.1 x.1.1)

  behind : Optional file (0xA1 ∷ 0xA2 ∷ 0xA3 ∷ []) behind_at three_bytes KeptThree ShowsThree
  behind =
      optional_more file typed (leaf.Opaque 0xA1) (0xA2 ∷ 0xA3 ∷ []) refl
      (optional_more file typed (leaf.Opaque 0xA2) (0xA3 ∷ []) refl (optional_last file typed (leaf.Opaque 0xA3)))

  abbrev Raw : Type 0
  Raw = List Component × Three (List ℕ)

  abbrev raw_bytes : Raw → List ℕ
  raw_bytes x = list_bytes x.0 ++ three_bytes x.1

  abbrev content_bytes : Configuration → List ℕ
  content_bytes c = raw_bytes (c.components, (c.uri, (c.properties, c.properties_uri)))

  contents : Exact file Nothing (read (λ p. p.0) (both (components_at kind) behind_at)) content_bytes (KeptConfiguration kind) (λ (p : Span × List ComponentPlaces) (c : Configuration). ShowsList p c.components)
  contents =
      exact_read file typed {bytes = raw_bytes} {Good = λ (x : Raw). Kept' x.0 × KeptThree x.1} {Shows = λ (p : (Span × List ComponentPlaces) × Three Span) (x : Raw). ShowsList p.0 x.0 × ShowsThree p.1 x.1}
      (λ p. p.0) (exact_both file typed exact_components behind.exact)
      (λ x. record { components = x.0; uri = x.1.0; properties = x.1.1.0; properties_uri = x.1.1.1 })
      (λ c. (c.components, (c.uri, (c.properties, c.properties_uri))))
      (λ x g. refl) (λ c g. refl)
      (λ x g. g.0) (λ c g. (g, (kept_other c.uri, (kept_other c.properties, kept_other c.properties_uri))))
      (λ p x g s. s.0) (λ p c g s. s.0)

  -- a configuration is read exactly where its encoding stands, and the places mean its components
  pub exact_configuration : Exact file Anything (configuration_at kind) configuration_bytes (KeptConfiguration kind) (ShowsConfiguration file)
  exact_configuration =
      exact_as (λ c g. g) (λ c g. g) (λ p c s. record { list = s.0; means = show_all p.1 c.components (component_shown file) s.1 })
      (exact_inside file typed 0x30 {Follows = Nothing} refl contents)
