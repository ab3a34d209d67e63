-- Entries told by their identifiers.
use Rattle.std.proofs.Common.{◌≡◌, ℕ, Bool, true, false, not, List, [], ◌∷◌, is_some, Decides, Option, sym, refl, ap, ◌∙◌, subst, inl, inr, arith}
use Rattle.std.proofs.lemmas.Bool.{false≢true, and_parts, and_from}
use Rattle.der.specs.Numbers.{Bytes}
use Rattle.der.specs.Encoding.{encoded}
use Rattle.der.specs.declared.refusal.Reason.TheVariants.{Repeated}
use Rattle.reader.specs.declared.span.Span.{Span}
use Rattle.reader.specs.declared.leaf.Leaf.TheVariants as leaf
use Rattle.reader.specs.Readers.{cut, same}
use Rattle.reader.specs.Leaves.{Kept}
use Rattle.reader.specs.Syntax.{Among, Absent}
use Rattle.reader.proofs.Exact.{Exact, Anything, exact_judged}
use Rattle.reader.proofs.LeafLaws.{exact_leaf}
use Rattle.reader.proofs.Lists.{Show}
use Rattle.reader.proofs.Labels.{same_decides}
use Rattle.envelope.specs.declared.entry.EntryPlaces.{EntryPlaces}
use Rattle.envelope.specs.Readings.{value_in, new_identifier_at, have_all, place_or}

-- a test by its answer
pub data Tested (b : Bool) : Type 0 where
  passes : b ≡ true → Tested b
  fails : b ≡ false → Tested b

pub tested : (b : Bool) → Tested b
tested true = passes refl
tested false = fails refl

module _ (file : List ℕ) (typed : Bytes file) {X : Type 0} (label : X → List ℕ) (Shows : EntryPlaces → X → Type 0) (labelled : (p : EntryPlaces) (x : X) → Shows p x → cut file p.identifier ≡ label x) where
  -- an identifier is there
  pub has : (c : List ℕ) (ps : List EntryPlaces) (xs : List X) → Show Shows ps xs → Decides (is_some (value_in file c ps)) (Among (λ (x : X). label x ≡ c) xs)
  has c [] [] s = (λ e. let z : ◌≡◌ {A = ℕ} 0 1 = cc in let no : ⊥ = omega arith in absurd no, λ a. absurd a)
  has c [] (x ∷ xs) s = absurd s
  has c (p ∷ ps) [] s = absurd s
  has c (p ∷ ps) (x ∷ xs) s = elim (tested (same (cut file p.identifier) c)) [
    | passes t ↦ (λ e. inl (sym (labelled p x s.0) ∙ (same_decides (cut file p.identifier) c).0 t), λ a. rw t refl)
    | fails t ↦ (
      λ e. inr ((has c ps xs s.1).0 (rw t at e)),
      λ a. elim a [
        | inl h ↦ (let no : ⊥ = false≢true (sym t ∙ (same_decides (cut file p.identifier) c).1 (labelled p x s.0 ∙ h)) in absurd no)
        | inr h ↦ rw t ((has c ps xs s.1).1 h)
      ],
    )
  ]

  -- none has an identifier
  none_absent : (c : List ℕ) (xs : List X) → (Among (λ (x : X). label x ≡ c) xs → ⊥) → Absent label c xs
  none_absent c [] n = tt
  none_absent c (x ∷ xs) n = (λ e. n (inl (sym e)), none_absent c xs (λ a. n (inr a)))

  absent_none : (c : List ℕ) (xs : List X) → Absent label c xs → Among (λ (x : X). label x ≡ c) xs → ⊥
  absent_none c [] a m = m
  absent_none c (x ∷ xs) a (inl h) = a.0 (sym h)
  absent_none c (x ∷ xs) a (inr h) = absent_none c xs a.1 h

  not_decides : {P : Type 0} (b : Bool) → Decides b P → Decides (not b) (P → ⊥)
  not_decides true d = (λ e. absurd (false≢true e), λ n. let no : ⊥ = n (d.0 refl) in absurd no)
  not_decides false d = (λ e p. false≢true (d.1 p), λ n. refl)

  pub unseen : (c : List ℕ) (ps : List EntryPlaces) (xs : List X) → Show Shows ps xs → Decides (not (is_some (value_in file c ps))) (Absent label c xs)
  unseen c ps xs s =
      let d = not_decides (is_some (value_in file c ps)) (has c ps xs s) in
      (λ e. none_absent c xs (d.0 e), λ a. d.1 (absent_none c xs a))

  -- a new identifier
  pub exact_new_identifier : (entry : ℕ) (ps : List EntryPlaces) (xs : List X) → Show Shows ps xs → Exact file Anything (new_identifier_at entry ps) (encoded 0x06) (λ (c : List ℕ). Kept leaf.Identifier c × Absent label c xs) (λ (s : Span) (c : List ℕ). cut file s ≡ c)
  exact_new_identifier entry ps xs s =
      exact_judged file typed (exact_leaf file typed leaf.Identifier) (λ file s. not (is_some (value_in file (cut file s) ps))) Repeated (λ _ _. entry) {Holds = λ (c : List ℕ). Absent label c xs} (λ p c w g.
      let d = unseen c ps xs s in
      let e : not (is_some (value_in file (cut file p) ps)) ≡ not (is_some (value_in file c ps)) = ap (λ (z : List ℕ). not (is_some (value_in file z ps))) w in
      (λ t. d.0 (sym e ∙ t), λ a. e ∙ d.1 a))

  -- three identifiers are there
  pub has_all : (a b c : List ℕ) (ps : List EntryPlaces) (xs : List X) → Show Shows ps xs → Decides (have_all a b c file ps) (Among (λ (x : X). label x ≡ a) xs × (Among (λ (x : X). label x ≡ b) xs × Among (λ (x : X). label x ≡ c) xs))
  has_all a b c ps xs s = (
    λ e.
        let p = and_parts (is_some (value_in file a ps)) _ e in
        let q = and_parts (is_some (value_in file b ps)) _ p.1 in
        ((has a ps xs s).0 p.0, ((has b ps xs s).0 q.0, (has c ps xs s).0 q.1)),
    λ h. and_from _ _ ((has a ps xs s).1 h.0) (and_from _ _ ((has b ps xs s).1 h.1.0) ((has c ps xs s).1 h.1.1)),
  )

  -- the value of an identifier that is there
  pub found : (Value : Span → X → Type 0) → ((p : EntryPlaces) (x : X) → Shows p x → Value p.value x) → (c : List ℕ) (ps : List EntryPlaces) (xs : List X) → Show Shows ps xs → Among (λ (x : X). label x ≡ c) xs → Among (λ (x : X). (label x ≡ c) × Value (place_or (value_in file c ps)) x) xs
  found Value valued c [] [] s a = absurd a
  found Value valued c [] (x ∷ xs) s a = absurd s
  found Value valued c (p ∷ ps) [] s a = absurd s
  found Value valued c (p ∷ ps) (x ∷ xs) s a = elim (tested (same (cut file p.identifier) c)) [
    | passes t ↦ inl (sym (labelled p x s.0) ∙ (same_decides (cut file p.identifier) c).0 t, rw t (valued p x s.0))
    | fails t ↦ elim a [
      | inl h ↦ (let no : ⊥ = false≢true (sym t ∙ (same_decides (cut file p.identifier) c).1 (labelled p x s.0 ∙ h)) in absurd no)
      | inr h ↦ (let step : value_in file c (p ∷ ps) ≡ value_in file c ps = rw t refl in inr (subst (λ (z : Option Span). Among (λ (x : X). (label x ≡ c) × Value (place_or z) x) xs) (sym step) (found Value valued c ps xs s.1 h)))
    ]
  ]
