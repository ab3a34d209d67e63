-- Components that were read as a list can be read again one after the other, with no search for a key before.
use Rattle.std.proofs.Common.{◌≡◌, ℕ, zero, suc, ◌-◌, ◌<◌, ◌≤◌, ltb, List, [], ◌∷◌, ◌++◌, Ok, Result, sym, refl, ap, ◌∙◌, subst, inl, inr, arith}
use Rattle.std.proofs.lemmas.Bool.{cases_lt, lt-ltb, le-ltb}
use Rattle.std.proofs.lemmas.List.{append_assoc, append-nil}
use Rattle.der.specs.declared.refusal.Refusal.{Refusal}
use Rattle.der.specs.declared.refusal.Reason.TheVariants as reason
use Rattle.der.specs.Refusals.{refused, then}
use Rattle.der.specs.Elements.{tagged_at}
use Rattle.reader.specs.declared.kind.Kind.{Kind}
use Rattle.reader.specs.declared.span.Span.{Span}
use Rattle.reader.specs.Readers.{Reader, within, both, read, judged, entries_at}
use Rattle.reader.proofs.Exact.{then_into, then_made, cond_into, ended_into, same_answer}
use Rattle.reader.proofs.Lists.{entries_over, entries_full}
use Rattle.component.specs.declared.places.KeyPlaces.{KeyPlaces}
use Rattle.component.specs.declared.places.ComponentPlaces.{ComponentPlaces}
use Rattle.component.specs.Syntax.{most}
use Rattle.component.specs.Readings.{is_new, key_at, fields_at, component_places, component_at, components_at, behind_at, configuration_at, components_from}

-- a chain goes as well where its first step does
through : {X Y : Type 0} (q r : Result X Refusal) (k : X → Result Y Refusal) (y : Y) → ((x : X) → q ≡ Ok x → r ≡ Ok x) → then q k ≡ Ok y → then r k ≡ Ok y
through q r k y f e = then_into q k y e (λ x ex e1. then_made r k x (Ok y) (f x ex) e1)

-- a component that is new behind some others is read in the same way behind none
pub behind_none : (kind : Kind) (seen : List ComponentPlaces) (file : List ℕ) (at end : ℕ) (p : ComponentPlaces × ℕ) → component_at kind seen file at end ≡ Ok p → component_at kind [] file at end ≡ Ok p
behind_none kind seen file at end p e =
    let key : (at' : ℕ) → List ComponentPlaces → Reader KeyPlaces = λ at' s. judged (is_new s) reason.Repeated (λ _ _. at') key_at in
    let one : List ComponentPlaces → Reader _ = λ s. within 0x30 (λ at'. both (key at' s) fields_at) in
    through (read component_places (one seen) file at end) (read component_places (one []) file at end) _ p (λ x ex.
    through (one seen file at end) (one [] file at end) _ x (λ y ey.
    then_into (tagged_at file at end 0x30) _ y ey (λ s es e1.
    then_made (tagged_at file at end 0x30) _ s _ es
    (through (both (key at seen) fields_at file s.0 s.1) (both (key at []) fields_at file s.0 s.1) _ y (λ z ez.
    through (key at seen file s.0 s.1) (key at [] file s.0 s.1) _ z (λ u eu.
    then_into (key_at file s.0 s.1) _ u eu (λ v ev e2.
    cond_into (is_new seen file v.0) _ _ u e2 (λ t e3.
    then_made (key_at file s.0 s.1) _ v _ ev e3))) ez) e1))) ex) e

turn : (kind : Kind) (left : ℕ) (file : List ℕ) (at end : ℕ) (p : ComponentPlaces × ℕ) → at < end → component_at kind [] file at end ≡ Ok p → components_from kind (suc left) file at end ≡ p.0 ∷ components_from kind left file p.1 end
turn kind left file at end p h e = rw (lt-ltb at end h, e) refl

-- the same of what is left of a list, where something is
pub step : (kind : Kind) (left : ℕ) (file : List ℕ) (at end : ℕ) (p : ComponentPlaces × ℕ) → (left ≡ 0 → ⊥) → at < end → component_at kind [] file at end ≡ Ok p → components_from kind left file at end ≡ p.0 ∷ components_from kind (left - 1) file p.1 end
step kind zero file at end p some h e = absurd (some refl)
step kind (suc left) file at end p some h e = let n : suc left - 1 ≡ left = omega arith in rw n (turn kind left file at end p h e)

over : (kind : Kind) (left : ℕ) (file : List ℕ) (at end : ℕ) → end ≤ at → components_from kind left file at end ≡ []
over kind zero file at end h = refl
over kind (suc left) file at end h = rw (le-ltb at end h) refl

done : (kind : Kind) (list left : ℕ) (seen ps : List ComponentPlaces) (file : List ℕ) (at end : ℕ) → end ≤ at → entries_at (component_at kind) list left seen file at end ≡ Ok ps → seen ++ components_from kind left file at end ≡ ps
done kind list left seen ps file at end h e =
    let same : ◌≡◌ {A = Result (List ComponentPlaces) Refusal} (Ok seen) (Ok ps) = sym (entries_over (component_at kind) list left seen file at end h) ∙ e in
    let was : seen ≡ ps = cc in
    ap (λ (z : List ComponentPlaces). seen ++ z) (over kind left file at end h) ∙ (append-nil seen ∙ was)

walked : (kind : Kind) (list left : ℕ) (seen ps : List ComponentPlaces) (file : List ℕ) (at end : ℕ) → entries_at (component_at kind) list left seen file at end ≡ Ok ps → seen ++ components_from kind left file at end ≡ ps
walked kind list zero seen ps file at end e = elim (cases_lt at end) [
  | inl h ↦ (let f : refused reason.ListSize list ≡ Ok ps = sym (entries_full (component_at kind) list seen file at end h) ∙ e in let z : ◌≡◌ {A = ℕ} 0 1 = cc in let no : ⊥ = omega arith in absurd no)
  | inr h ↦ done kind list 0 seen ps file at end h e
]
walked kind list (suc left) seen ps file at end e = elim (cases_lt at end) [
  | inl h ↦ then_into (component_at kind seen file at end) _ ps (rw (lt-ltb at end h) at e) (λ p ep e1.
      ap (λ (z : List ComponentPlaces). seen ++ z) (turn kind left file at end p h (behind_none kind seen file at end p ep))
      ∙ (sym (append_assoc seen (p.0 ∷ []) (components_from kind left file p.1 end)) ∙ walked kind list left (seen ++ p.0 ∷ []) ps file p.1 end e1))
  | inr h ↦ done kind list (suc left) seen ps file at end h e
]

-- the entries of a list, read one after the other
pub entries_from : (kind : Kind) (list left : ℕ) (ps : List ComponentPlaces) (file : List ℕ) (from to : ℕ) → entries_at (component_at kind) list left [] file from to ≡ Ok ps → components_from kind left file from to ≡ ps
entries_from kind list left ps file from to e = walked kind list left [] ps file from to e

-- the components of a configuration, read one after the other from the list's content
pub configuration_from : (kind : Kind) (file : List ℕ) (at end : ℕ) (p : Span × List ComponentPlaces) (next : ℕ) → configuration_at kind file at end ≡ Ok (p, next) → components_from kind (most kind) file p.0.from p.0.to ≡ p.1
unfolding components_at
configuration_from kind file at end p next e =
    then_into (tagged_at file at end 0x30) _ (p, next) e (λ a ea e1.
    then_into (read (λ q. q.0) (both (components_at kind) behind_at) file a.0 a.1) _ (p, next) e1 (λ b eb e2.
    ended_into b.1 a.1 _ (p, next) e2 (λ k e3.
    then_into (both (components_at kind) behind_at file a.0 a.1) _ b eb (λ c ec e4.
    then_into (components_at kind file a.0 a.1) _ c ec (λ d ed e5.
    then_into (behind_at file d.1 a.1) _ c e5 (λ f ef e6.
    then_into (tagged_at file a.0 a.1 0xA0) _ d ed (λ t et e7.
    cond_into (ltb t.0 t.1) _ _ d e7 (λ l e8.
    then_into (entries_at (component_at kind) a.0 (most kind) [] file t.0 t.1) _ d e8 (λ xs ex e9.
    let first : b.0 ≡ p = same_answer b.0 p a.1 next e3 in
    let second : c.0.0 ≡ b.0 = same_answer c.0.0 b.0 c.1 b.1 e4 in
    let third : d.0 ≡ c.0.0 = ap (λ (z : (Span × List ComponentPlaces) × _). z.0) (same_answer (d.0, f.0) c.0 f.1 c.1 e6) in
    let fourth : (record { from = t.0; to = t.1 }, xs) ≡ d.0 = same_answer (record { from = t.0; to = t.1 }, xs) d.0 t.1 d.1 e9 in
    subst (λ (z : Span × List ComponentPlaces). components_from kind (most kind) file z.0.from z.0.to ≡ z.1) (fourth ∙ (third ∙ (second ∙ first))) (entries_from kind a.0 (most kind) xs file t.0 t.1 ex))))))))))
