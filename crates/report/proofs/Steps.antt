-- The steps of the checks.
use Rattle.std.proofs.Common.{◌≡◌, ℕ, suc, ◌+◌, ◌-◌, ◌<◌, ◌≤◌, Bool, true, false, cond, ◌&&◌, leb, List, get_or, is_some, Some, None, Option, is_ok, Ok, Err, Result, sym, refl, ap, ◌∙◌, arith}
use Rattle.std.proofs.lemmas.Bool.Decides.{nat_tests}
use Rattle.std.proofs.lemmas.Bool.{false≢true, ne_eqb, eq-eqb}
use Rattle.std.specs.Option.{MatchOption, option_map_or}
use Rattle.std.specs.Ordering.{is_lt}
use Rattle.der.specs.Refusals.{refused, then}
use Rattle.der.specs.declared.refusal.Refusal.{Refusal}
use Rattle.der.specs.declared.refusal.Reason.{Reason}
use Rattle.der.specs.declared.refusal.Reason.TheVariants.{Repeated}
use Rattle.parts.specs.Keys.{Fields, registry_of, in_turn}
use Rattle.report.specs.Layout.{key_place, details_place, fields_at}
use Rattle.report.specs.WellFormed.{Text, KeyGood}
use Rattle.report.specs.Checks.{text_field_at, key_at, rises_at, keys_from, details_at, details_from}

-- ---- chains

pub err_ok : {X E : Type 0} {d : E} {x : X} → ◌≡◌ {A = Result X E} (Err d) (Ok x) → ⊥
err_ok e = let z : ◌≡◌ {A = ℕ} 0 1 = cc in omega arith

pub then_ok : {X Y : Type 0} (q : Result X Refusal) (k : X → Result Y Refusal) (y : Y) → then q k ≡ Ok y → (x : X) × (q ≡ Ok x) × (k x ≡ Ok y)
then_ok (Ok x) k y e = (x, refl, e)
then_ok (Err d) k y e = absurd (err_ok e)

pub cond_ok : {X : Type 0} (b : Bool) (q : Result X Refusal) (r : Reason) (at : ℕ) (x : X) → cond b q (refused r at) ≡ Ok x → (b ≡ true) × (q ≡ Ok x)
cond_ok true q r at x e = (refl, e)
cond_ok false q r at x e = absurd (err_ok e)

pub told_ok : {X : Type 0} (q : Result (Unit {0}) X) → is_ok q ≡ true → q ≡ Ok tt
told_ok (Ok u) e = refl
told_ok (Err d) e = absurd (false≢true e)

-- ---- what a good text field, key and details have

pub text_good : (file : List ℕ) (at least : ℕ) → text_field_at file at least ≡ Ok tt → Text file at least
text_good file at least e =
    let p = cond_ok (leb least (get_or file at 0) && leb (get_or file at 0) 64) _ _ at tt e in
    let h = p.0 in
    record { low = grind (arith, nat_tests); high = grind (arith, nat_tests) }

-- the checks of a key that were met
pub record KeyMet (file : List ℕ) (at : ℕ) : Type 0 where
  pub registry : is_some (registry_of (get_or file at 0)) ≡ true
  pub maker : text_field_at file (at + 5) 1 ≡ Ok tt
  pub model : text_field_at file (at + 70) 1 ≡ Ok tt
  pub serial : text_field_at file (at + 135) 1 ≡ Ok tt

pub key_met : (file : List ℕ) (at : ℕ) → key_at file at ≡ Ok tt → KeyMet file at
key_met file at e =
    let p = cond_ok (is_some (registry_of (get_or file at 0))) _ _ at tt e in
    let m = then_ok (text_field_at file (at + 5) 1) _ tt p.1 in
    let n = then_ok (text_field_at file (at + 70) 1) _ tt m.2 in
    record { registry = p.0; maker = m.1; model = n.1; serial = n.2 }

pub key_good : (file : List ℕ) (at : ℕ) → key_at file at ≡ Ok tt → KeyGood file at
key_good file at e =
    let m = key_met file at e in
    record { registry = m.registry; maker = text_good file (at + 5) 1 m.maker; model = text_good file (at + 70) 1 m.model; serial = text_good file (at + 135) 1 m.serial }

-- ---- the rest, from one on

keys_next : (file : List ℕ) (n i : ℕ) → i < n → keys_from file i (suc (n - (i + 1))) ≡ keys_from file i (n - i)
keys_next file n i h = let left : suc (n - (i + 1)) ≡ n - i = omega arith in ap (keys_from file i) left

details_next : (file : List ℕ) (n i : ℕ) → i < n → details_from file n i (suc (n - (i + 1))) ≡ details_from file n i (n - i)
details_next file n i h = let left : suc (n - (i + 1)) ≡ n - i = omega arith in ap (details_from file n i) left

-- ---- a loop's step, where all is what its start comes to

pub keys_stop : (file : List ℕ) (n i : ℕ) (d : Refusal) (all : Result (Unit {0}) Refusal) → i < n → key_at file (key_place i) ≡ Err d → keys_from file i (n - i) ≡ all → Err d ≡ all
keys_stop file n i d all h e start = sym (rw e refl) ∙ (keys_next file n i h ∙ start)

pub keys_repeated : (file : List ℕ) (n i : ℕ) (all : Result (Unit {0}) Refusal) → i < n → key_at file (key_place i) ≡ Ok tt → rises_at file i ≡ false → keys_from file i (n - i) ≡ all → refused Repeated (key_place i) ≡ all
keys_repeated file n i all h e r start = sym (rw (e, r) refl) ∙ (keys_next file n i h ∙ start)

pub keys_more : (file : List ℕ) (n i : ℕ) (all : Result (Unit {0}) Refusal) → i < n → key_at file (key_place i) ≡ Ok tt → rises_at file i ≡ true → keys_from file i (n - i) ≡ all → keys_from file (i + 1) (n - (i + 1)) ≡ all
keys_more file n i all h e r start = sym (rw (e, r) refl) ∙ (keys_next file n i h ∙ start)

pub details_stop : (file : List ℕ) (n i : ℕ) (d : Refusal) (all : Result (Unit {0}) Refusal) → i < n → details_at file (details_place n i) ≡ Err d → details_from file n i (n - i) ≡ all → Err d ≡ all
details_stop file n i d all h e start = sym (rw e refl) ∙ (details_next file n i h ∙ start)

pub details_more : (file : List ℕ) (n i : ℕ) (all : Result (Unit {0}) Refusal) → i < n → details_at file (details_place n i) ≡ Ok tt → details_from file n i (n - i) ≡ all → details_from file n (i + 1) (n - (i + 1)) ≡ all
details_more file n i all h e start = sym (rw e refl) ∙ (details_next file n i h ∙ start)

pub rises_from : (file : List ℕ) (i : ℕ) (b : Bool) → 0 < i → b ≡ is_lt (in_turn (fields_at file (key_place (i - 1))) (fields_at file (key_place i))) → rises_at file i ≡ b
rises_from file i b h e = rw (ne_eqb i 0 (λ z. let never : ⊥ = omega arith in never)) (sym e)

pub rises_first : (file : List ℕ) (i : ℕ) → i ≤ 0 → rises_at file i ≡ true
rises_first file i h = rw (eq-eqb i 0 (omega arith)) refl

-- whether a key rises, told by the key before it, if there is one
pub rises_told : {K : Type 0} (fields : K → Fields) (file : List ℕ) (i : ℕ) (before : Option K) (key : K) (r : Bool) → MatchOption before (i ≡ 0) (λ k. (0 < i) × (fields k ≡ fields_at file (key_place (i - 1)))) → fields key ≡ fields_at file (key_place i) → r ≡ option_map_or (λ k. is_lt (in_turn (fields k) (fields key))) before true → rises_at file i ≡ r
rises_told fields file i None key r first here e = rises_first file i (omega arith) ∙ sym e
rises_told fields file i (Some k) key r there here e = rises_from file i r there.0 (e ∙ (λ j. is_lt (in_turn (there.1 j) (here j))))
