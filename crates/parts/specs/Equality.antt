-- What `==` computes, field by field, and that it tells whether two values are the same.
use mathlib.Core.Bool.{beq}
use Rattle.std.specs.Prelude.{◌≡◌, ℕ, Bool, ◌&&◌, Decides}
use Rattle.std.specs.Option.{option_eq}
use Rattle.parts.specs.declared.bounded.Bounded.{Bounded}
use Rattle.parts.specs.declared.details.Details.{Details}
use Rattle.parts.specs.declared.head.Head.{Head}
use Rattle.parts.specs.Bounds.{hold_same}

-- the revisions hold the same bytes, and both are as replaceable
abbrev pub details_equal : Details → Details → Bool
details_equal s t = hold_same s.revision t.revision && option_eq beq s.replaceable t.replaceable

-- the issuers hold the same bytes, and so do the serials
abbrev pub head_equal : Head → Head → Bool
head_equal s t = hold_same s.issuer t.issuer && hold_same s.serial t.serial

-- equal values are the same, and no others
pub record EqualIsSame : Type 0 where
  pub bounded : (least most : ℕ) (s t : Bounded least most) → Decides (hold_same s t) (s ≡ t)
  pub details : (s t : Details) → Decides (details_equal s t) (s ≡ t)
  pub head : (s t : Head) → Decides (head_equal s t) (s ≡ t)
