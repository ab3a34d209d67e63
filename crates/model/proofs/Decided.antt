-- Staging, booking and withdrawing have exactly one answer each.
use Rattle.std.proofs.Common.{◌≡◌, ℕ, suc, ◌≤◌, ◌⊎◌, List, [], ◌∷◌, ◌++◌, Some, None, Ok, Err, Option, Result, Ordering, Equal, sym, refl, ap, ◌∙◌, inl, inr, arith}
use Rattle.std.proofs.lemmas.Option.{none-some}
use Rattle.std.proofs.lemmas.Bool.{cases_lt, cases_eq}
use Rattle.der.specs.declared.refusal.Refusal.{Refusal}
use Rattle.der.specs.declared.refusal.Reason.TheVariants.{ClaimVoid}
use Rattle.model.specs.declared.part.Part.{Part}
use Rattle.model.specs.declared.part.Change.{Change}
use Rattle.model.specs.declared.part.Status.{Status}
use Rattle.model.specs.Orders.{Lawful}
use Rattle.model.specs.Parts.{Is, lookup}
use Rattle.model.specs.Layers.{AllMet, Delta, Demand, FirstUnmet, Layer, Named, Spending, Staging, change_demands, keeping, meaning, staging_demands, with_booked}
use Rattle.model.specs.Promise.{CallsDecided, Comparable, OneAnswer}
use Rattle.model.specs.declared.part.Status.TheVariants.{Added, Modified, Removed}
use Rattle.model.proofs.Lists.{which, self, Less≢Equal, Greater≢Equal}
use Rattle.model.proofs.Lists.Which.{less, same, greater}
use Rattle.model.proofs.Layering.{modified≢added, removed≢added}

abbrev Decided : Type 0 → Type 0
Decided P = P ⊎ (P → ⊥)

-- ---- demands that can be decided are tried in turn

abbrev AllDecided : List Demand → Type 0
AllDecided [] = Unit {0}
AllDecided (d ∷ ds) = Decided d.met × AllDecided ds

append_decided : (ds es : List Demand) → AllDecided ds → AllDecided es → AllDecided (ds ++ es)
append_decided [] es a b = b
append_decided (d ∷ ds) es a b = (a.0, append_decided ds es a.1 b)

judged : (ds : List Demand) → AllDecided ds → AllMet ds ⊎ ((r : Refusal) × FirstUnmet ds r)
judged [] a = inl tt
judged (d ∷ ds) a =
    elim a.0 [
      | inl m ↦ elim (judged ds a.1) [ inl all ↦ inl (m, all) | inr u ↦ inr (u.0, inr (m, u.1)) ]
      | inr n ↦ inr (d.refusal, inl (n, refl))
    ]

met_unmet : (ds : List Demand) (r : Refusal) → AllMet ds → FirstUnmet ds r → ⊥
met_unmet [] r a u = u
met_unmet (d ∷ ds) r a (inl u) = u.0 a.0
met_unmet (d ∷ ds) r a (inr u) = met_unmet ds r a.1 u.1

unmet_one : (ds : List Demand) (r q : Refusal) → FirstUnmet ds r → FirstUnmet ds q → r ≡ q
unmet_one [] r q u v = absurd u
unmet_one (d ∷ ds) r q (inl u) (inl v) = u.1 ∙ sym v.1
unmet_one (d ∷ ds) r q (inl u) (inr v) = absurd (u.0 v.0)
unmet_one (d ∷ ds) r q (inr u) (inl v) = absurd (v.0 u.0)
unmet_one (d ∷ ds) r q (inr u) (inr v) = unmet_one ds r q u.1 v.1

-- ---- each demand of staging can be decided

none_decided : {A : Type 0} (x : Option A) → Decided (x ≡ None)
none_decided None = inl refl
none_decided (Some a) = inr (λ e. none-some _ (sym e))

le_decided : (a b : ℕ) → Decided (a ≤ b)
le_decided a b = elim (cases_lt b a) [ inl h ↦ inr (λ k. omega arith) | inr h ↦ inl h ]

not_decided : {P : Type 0} → Decided P → Decided (P → ⊥)
not_decided d = elim d [ inl p ↦ inr (λ n. n p) | inr n ↦ inl n ]

added_decided : {D : Type 0} (s : Status) (x : Option D) → Decided (s ≡ Added → x ≡ None)
added_decided Added None = inl (λ e. refl)
added_decided Added (Some d) = inr (λ f. none-some _ (sym (f refl)))
added_decided Modified x = inl (λ e. absurd (modified≢added e))
added_decided Removed x = inl (λ e. absurd (removed≢added e))

fitted_decided : {D : Type 0} (s : Status) (x : Option D) → Decided ((s ≡ Added → ⊥) → Is x)
fitted_decided Added x = inl (λ n. absurd (n refl))
fitted_decided Modified None = inr (λ f. f modified≢added)
fitted_decided Modified (Some d) = inl (λ n. tt)
fitted_decided Removed None = inr (λ f. f removed≢added)
fitted_decided Removed (Some d) = inl (λ n. tt)

module _ {K : Type 0} (cmp : K → K → Ordering) (laws : Lawful cmp) where
  same_decided : (k j : K) → Decided (k ≡ j)
  same_decided k j =
      let equal : k ≡ j → cmp k j ≡ Equal = λ e. ap (cmp k) (sym e) ∙ self cmp laws k in
      elim (which (cmp k j)) [
        | less o ↦ inr (λ e. Less≢Equal o (equal e))
        | same o ↦ inl (laws.only k j o)
        | greater o ↦ inr (λ e. Greater≢Equal o (equal e))
      ]

module _ {K D : Type 0} (cmp : K → K → Ordering) (laws : Lawful cmp) where
  named_decided : (k : K) (cs : List (Change K D)) → Decided (Named k cs)
  named_decided k [] = inr (λ n. n)
  named_decided k (c ∷ cs) =
      elim (same_decided cmp laws k c.key) [
        | inl e ↦ inl (inl e)
        | inr d ↦ elim (named_decided k cs) [ inl n ↦ inl (inr n) | inr n ↦ inr (λ x. elim x [ inl e ↦ d e | inr m ↦ n m ]) ]
      ]

  changes_decided : (l : List (Part K D)) (i : ℕ) (earlier cs : List (Change K D)) → AllDecided (change_demands cmp l i earlier cs)
  changes_decided l i earlier [] = tt
  changes_decided l i earlier (c ∷ cs) = (
    not_decided (named_decided c.key earlier),
    (
      added_decided c.status (lookup cmp c.key l),
      (fitted_decided c.status (lookup cmp c.key l), changes_decided l (suc i) (c ∷ earlier) cs),
    ),
  )

module _ {K D H : Type 0} (cmp : K → K → Ordering) (laws : Lawful cmp) (heads : Comparable H) where
  staging_decided : (s : Layer K D H) (δ : Delta K D H) → AllDecided (staging_demands cmp s δ)
  staging_decided s δ = (
    none_decided s.aside,
    (
      heads δ.holder s.head,
      append_decided (change_demands cmp (meaning cmp s).parts 0 [] δ.changes) _ (changes_decided cmp laws (meaning cmp s).parts 0 [] δ.changes) (le_decided _ _, (le_decided _ _, tt)),
    ),
  )

  accepted_only : (s : Layer K D H) (δ : Delta K D H) → AllMet (staging_demands cmp s δ) → (a : Result ℕ Refusal) (t : Layer K D H) → Staging cmp s δ a t → (a ≡ Ok s.number) × (t ≡ keeping s (Some δ))
  accepted_only s δ all (Ok n) t h = (let mk : ℕ → Result ℕ Refusal = λ m. Ok m in ap mk h.1, h.2)
  accepted_only s δ all (Err r) t h = absurd (met_unmet (staging_demands cmp s δ) r all h.0)

  refused_only : (s : Layer K D H) (δ : Delta K D H) (r : Refusal) → FirstUnmet (staging_demands cmp s δ) r → (a : Result ℕ Refusal) (t : Layer K D H) → Staging cmp s δ a t → (a ≡ Err r) × (t ≡ s)
  refused_only s δ r u (Ok n) t h = absurd (met_unmet (staging_demands cmp s δ) r h.0 u)
  refused_only s δ r u (Err q) t h = (let mk : Refusal → Result ℕ Refusal = λ x. Err x in ap mk (unmet_one (staging_demands cmp s δ) q r h.0 u), h.1)

  staging_one : (s : Layer K D H) (δ : Delta K D H) → OneAnswer (Staging cmp s δ)
  staging_one s δ =
      elim (judged (staging_demands cmp s δ) (staging_decided s δ)) [
        | inl all ↦ record { answer = Ok s.number; after = keeping s (Some δ); given = (all, refl, refl); only = accepted_only s δ all }
        | inr u ↦ record { answer = Err u.0; after = s; given = (u.1, refl); only = refused_only s δ u.0 u.1 }
      ]

-- ---- spending a claim

module _ {K D H : Type 0} (after : Delta K D H → Layer K D H) (s : Layer K D H) (n : ℕ) where
  spent_only : (δ : Delta K D H) → n ≡ s.number → s.aside ≡ Some δ → (a : Result (Unit {0}) Refusal) (t : Layer K D H) → Spending after s n a t → (a ≡ Ok tt) × (t ≡ after δ)
  spent_only δ e k (Ok u) t h =
      let same : ◌≡◌ {A = Option (Delta K D H)} (Some h.1.0) (Some δ) = sym h.1.1 ∙ k in
      let path : h.1.0 ≡ δ = cc in
      (refl, h.1.2 ∙ ap after path)
  spent_only δ e k (Err r) t h = absurd (elim h.0.0 [ inl d ↦ d e | inr none ↦ none-some _ (sym none ∙ k) ])

  void_only : (n ≡ s.number → ⊥) ⊎ (s.aside ≡ None) → (a : Result (Unit {0}) Refusal) (t : Layer K D H) → Spending after s n a t → (a ≡ Err (record { reason = ClaimVoid; place = 0 })) × (t ≡ s)
  void_only v (Ok u) t h = absurd (elim v [ inl d ↦ d h.0 | inr none ↦ none-some _ (sym none ∙ h.1.1) ])
  void_only v (Err r) t h = (let mk : Refusal → Result (Unit {0}) Refusal = λ x. Err x in ap mk h.0.1, h.1)

  refusing : (n ≡ s.number → ⊥) ⊎ (s.aside ≡ None) → OneAnswer (Spending after s n)
  refusing v = record { answer = Err (record { reason = ClaimVoid; place = 0 }); after = s; given = ((v, refl), refl); only = void_only v }

  spending_one : (x : Option (Delta K D H)) → s.aside ≡ x → OneAnswer (Spending after s n)
  spending_one None e = refusing (inr e)
  spending_one (Some δ) e =
      elim (cases_eq n s.number) [
        | inl k ↦ record { answer = Ok tt; after = after δ; given = (k, (δ, e, refl)); only = spent_only δ k e }
        | inr d ↦ refusing (inl d)
      ]

pub decided : {K D H : Type 0} → CallsDecided K D H
decided cmp laws heads = record {
  staging = staging_one cmp laws heads;
  booking = λ s n. spending_one (with_booked cmp s) s n s.aside refl;
  withdrawing = λ s n. spending_one (λ δ. keeping s None) s n s.aside refl;
}
