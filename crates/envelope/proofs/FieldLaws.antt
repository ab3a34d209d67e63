-- The fields of the envelope are read exactly.
use Rattle.std.proofs.Common.{◌≡◌, ℕ, not, List, ◌∷◌, ◌++◌, Decides, Option, Ordering, Less, Equal, Greater, sym, refl, ap, ◌∙◌, arith}
use Rattle.std.specs.Ordering.{is_gt}
use Rattle.der.specs.Numbers.{Bytes}
use Rattle.der.specs.Encoding.{encoded}
use Rattle.der.specs.declared.refusal.Reason.TheVariants.{BadContent}
use Rattle.parts.specs.Bytewise.{lexed}
use Rattle.reader.specs.declared.span.Span.{Span}
use Rattle.reader.specs.declared.leaf.Leaf.TheVariants as leaf
use Rattle.reader.specs.Readers.{cut}
use Rattle.reader.specs.Leaves.{Kept}
use Rattle.reader.specs.Syntax.{Other, other_bytes}
use Rattle.reader.proofs.Exact.{Exact, Anything, exact_inside, exact_both, exact_read, exact_form, exact_spanned, exact_judged}
use Rattle.reader.proofs.LeafLaws.{exact_leaf, exact_passed}
use Rattle.reader.proofs.Optional.{encoded_begins, exact_unless_ended}
use Rattle.envelope.specs.declared.names.ReferencePlaces.{ReferencePlaces}
use Rattle.envelope.specs.declared.validity.ValidityPlaces.{ValidityPlaces}
use Rattle.envelope.specs.Profile.{Name, Reference, KeptReference, named_bytes, issuer_bytes, holder_bytes, Algorithm, KeptAlgorithm, algorithm_bytes, Validity, KeptValidity, validity_bytes}
use Rattle.envelope.specs.Readings.{named_at, issuer_at, reference, holder_at, algorithm_at, validity, in_order, validity_at}

module _ (file : List ℕ) (typed : Bytes file) where
  -- a place shows a content
  abbrev pub Shown : Span → List ℕ → Type 0
  Shown s c = cut file s ≡ c

  exact_named : Exact file Anything named_at named_bytes Name Shown
  exact_named = exact_inside file typed 0x30 tt (exact_leaf file typed leaf.Name)

  pub exact_issuer : Exact file Anything issuer_at issuer_bytes Name Shown
  exact_issuer = exact_inside file typed 0xA0 tt exact_named

  pub record ShowsReference (p : ReferencePlaces) (r : Reference) : Type 0 where
    pub issuer : Shown p.issuer r.issuer
    pub serial : Shown p.serial r.serial

  pub exact_holder : Exact file Anything holder_at holder_bytes KeptReference ShowsReference
  exact_holder =
      exact_inside file typed 0x30 tt (exact_inside file typed 0xA0 tt (exact_read file typed reference (exact_both file typed exact_named (exact_leaf file typed leaf.Serial))
      (λ x. record { issuer = x.0; serial = x.1 }) (λ r. (r.issuer, r.serial)) (λ x g. refl) (λ r g. refl)
      (λ x g. record { issuer = g.0; serial = g.1 }) (λ r g. (g.issuer, g.serial))
      (λ p x g s. record { issuer = s.0; serial = s.1 }) (λ p r g s. record { issuer = s.0; serial = s.1 })))

  other_some : (o : Other) → (b : ℕ) × ((bs : List ℕ) × (other_bytes o ≡ b ∷ bs))
  other_some o = (o.tag, encoded_begins o.tag o.content)

  -- of an algorithm the whole is shown
  pub exact_algorithm : Exact file Anything algorithm_at algorithm_bytes KeptAlgorithm (λ (s : Span) (a : Algorithm). cut file s ≡ algorithm_bytes a)
  exact_algorithm =
      exact_read file typed (λ (p : Span × (Span × Option Span)). p.0) (exact_spanned file typed (exact_inside file typed 0x30 refl (exact_both file typed (exact_leaf file typed leaf.Identifier) (exact_unless_ended file typed (exact_passed file typed) other_some))))
      (λ x. record { identifier = x.0; parameters = x.1 }) (λ a. (a.identifier, a.parameters)) (λ x g. refl) (λ a g. refl)
      (λ x g. record { identifier = g.0; parameters = g.1 }) (λ a g. (g.identifier, g.parameters))
      (λ p x g s. s.0) (λ p a g s. s.0)

  pub record ShowsValidity (p : ValidityPlaces) (v : Validity) : Type 0 where
    pub first : Shown p.first v.first
    pub last : Shown p.last v.last

  not_greater : (o : Ordering) → Decides (not (is_gt o)) (o ≡ Greater → ⊥)
  not_greater Less = (λ e h. let z : ◌≡◌ {A = ℕ} 0 1 = cc in let no : ⊥ = omega arith in no, λ n. refl)
  not_greater Equal = (λ e h. let z : ◌≡◌ {A = ℕ} 0 1 = cc in let no : ⊥ = omega arith in no, λ n. refl)
  not_greater Greater = (λ e h. let z : ◌≡◌ {A = ℕ} 0 1 = cc in let no : ⊥ = omega arith in no, λ n. absurd (n refl))

  in_order_lem : (p : ValidityPlaces) (v : Validity) → ShowsValidity p v → Decides (in_order file p) (lexed v.first v.last ≡ Greater → ⊥)
  in_order_lem p v s =
      let same : lexed (cut file p.first) (cut file p.last) ≡ lexed v.first v.last = ap (λ (x : List ℕ). lexed x (cut file p.last)) s.first ∙ ap (λ (y : List ℕ). lexed v.first y) s.last in
      let d = not_greater (lexed v.first v.last) in
      (λ e. d.0 (sym (ap (λ (o : Ordering). not (is_gt o)) same) ∙ e), λ n. ap (λ (o : Ordering). not (is_gt o)) same ∙ d.1 n)

  pub exact_validity : Exact file Anything validity_at validity_bytes KeptValidity ShowsValidity
  exact_validity =
      let times = exact_read file typed {bytes' = λ (v : Validity). encoded 0x18 v.first ++ encoded 0x18 v.last} {Good' = λ (v : Validity). Kept leaf.Time v.first × Kept leaf.Time v.last} {Shows' = ShowsValidity} validity (exact_both file typed (exact_leaf file typed leaf.Time) (exact_leaf file typed leaf.Time))
      (λ x. record { first = x.0; last = x.1 }) (λ v. (v.first, v.last)) (λ x g. refl) (λ v g. refl) (λ x g. g) (λ v g. g)
      (λ p x g s. record { first = s.0; last = s.1 }) (λ p v g s. record { first = s.0; last = s.1 }) in
      let ordered = exact_judged file typed times in_order BadContent (λ _ v. v.first.to) {Holds = λ (v : Validity). lexed v.first v.last ≡ Greater → ⊥} (λ p v s g. in_order_lem p v s) in
      exact_inside file typed 0x30 tt (exact_form file typed ordered (λ v. v) (λ v. v) (λ v g. refl) (λ v g. refl)
      (λ v g. record { first = g.0.0; last = g.0.1; order = g.1 }) (λ v g. ((g.first, g.last), g.order))
      (λ p v g s. s) (λ p v g s. s))
