-- Bounded byte strings with the same content are the same, so `==` tells whether two values are, of parts' details and heads too.
use Rattle.std.proofs.Common.{◌≡◌, ℕ, ◌-◌, ◌≤◌, Bool, ◌++◌, length, drop, replicate, Some, None, Option, sym, refl, ap, ◌∙◌, unwrap_or, arith}
use mathlib.Core.List.{is_set}
use mathlib.Core.HLevel.{is_prop→PathP}
use native.Mathlib.Nat.{ℕ_set}
use native.Mathlib.Bridge.{le_prop}
use Rattle.std.proofs.lemmas.List.{length-take-le, take-append-drop}
use Rattle.std.proofs.lemmas.Slice.Eq.{bytes_eq-Decides}
use Rattle.std.proofs.lemmas.Bool.Decides.{Decides-and, Decides-at, Decides-like}
use Rattle.std.specs.Bool.{Decides}
use Rattle.std.specs.Cmp.{booleans_Decides}
use Rattle.std.specs.Option.{option_eq}
use Rattle.parts.specs.declared.bounded.Bounded.{Bounded}
use Rattle.parts.specs.declared.details.Details.{Details}
use Rattle.parts.specs.declared.head.Head.{Head}
use Rattle.parts.specs.Bounds.{content, hold_same}
use Rattle.parts.specs.Equality.{details_equal, head_equal, EqualIsSame}

module _ {least most : ℕ} where
  bounded_path : (s t : Bounded least most) → s.len ≡ t.len → s.bytes ≡ t.bytes → s ≡ t
  bounded_path s t e f = λ i. record {
    len = e i;
    bytes = f i;
    full = is_prop→PathP (λ j. length (f j) ≡ most) (λ j. ℕ_set _ _) s.full t.full i;
    least = is_prop→PathP (λ j. least ≤ e j) (λ j. le_prop) s.least t.least i;
    within = is_prop→PathP (λ j. e j ≤ most) (λ j. le_prop) s.within t.within i;
    padded = is_prop→PathP (λ j. drop (e j) (f j) ≡ replicate (most - e j) 0) (λ j. is_set ℕ_set _ _) s.padded t.padded i;
  }

  pub content_length : (t : Bounded least most) → length (content t) ≡ t.len
  content_length t = let f = t.full in let w = t.within in length-take-le t.len t.bytes (omega arith)

  pub same_content : (s t : Bounded least most) → content s ≡ content t → s ≡ t
  same_content s t e =
      let n : s.len ≡ t.len = sym (content_length s) ∙ (ap length e ∙ content_length t) in
      let z : drop s.len s.bytes ≡ drop t.len t.bytes = s.padded ∙ (ap (λ (k : ℕ). replicate (most - k) 0) n ∙ sym t.padded) in
      bounded_path s t n (sym (take-append-drop s.len s.bytes) ∙ ((λ i. e i ++ z i) ∙ take-append-drop t.len t.bytes))

  pub hold_same_decides : (s t : Bounded least most) → Decides (hold_same s t) (s ≡ t)
  hold_same_decides s t = let h = bytes_eq-Decides (content s) (content t) in (λ e. same_content s t (h.0 e), λ e. h.1 (ap content e))

-- ---- what a comparison field by field decides

option_decides : {X : Type 0} {E : X → X → Bool} → ((x y : X) → Decides (E x y) (x ≡ y)) → (a b : Option X) → Decides (option_eq E a b) (a ≡ b)
option_decides d None None = (λ e. refl, λ e. refl)
option_decides d None (Some y) = (λ e. cc, λ e. cc)
option_decides d (Some x) None = (λ e. cc, λ e. cc)
option_decides {E = E} d (Some x) (Some y) = Decides-like (E x y) (λ e. ap (λ z. Some z) e) (λ e. ap (λ o. unwrap_or o x) e) (d x y)

pub details_decides : (s t : Details) → Decides (details_equal s t) (s ≡ t)
details_decides s t =
    Decides-like (details_equal s t)
    (λ h i. record { revision = h.0 i; replaceable = h.1 i })
    (λ e. (ap (λ (d : Details). d.revision) e, ap (λ (d : Details). d.replaceable) e))
    (Decides-and _ _ (hold_same_decides s.revision t.revision) (option_decides booleans_Decides s.replaceable t.replaceable))

head_decides : (s t : Head) → Decides (head_equal s t) (s ≡ t)
head_decides s t =
    Decides-like (head_equal s t)
    (λ h i. record { issuer = h.0 i; serial = h.1 i })
    (λ e. (ap (λ (d : Head). d.issuer) e, ap (λ (d : Head). d.serial) e))
    (Decides-and _ _ (hold_same_decides s.issuer t.issuer) (hold_same_decides s.serial t.serial))

pub equal_is_same : EqualIsSame
equal_is_same = record { bounded = λ least most s t. hold_same_decides s t; details = details_decides; head = head_decides }

-- the same of an answer, as a comparison gives it
pub details_told : (s t : Details) (r : Bool) → r ≡ details_equal s t → Decides r (s ≡ t)
details_told s t r e = Decides-at _ _ e (details_decides s t)

pub head_told : (s t : Head) (r : Bool) → r ≡ head_equal s t → Decides r (s ≡ t)
head_told s t r e = Decides-at _ _ e (head_decides s t)
