-- Details: their making.
use Rattle.std.specs.Prelude.{ℕ, Bool, true, false, cond, List, Some, None, Ok, Err, Option, Result, ◌==◌}
use Rattle.der.specs.Refusals.{refused}
use Rattle.der.specs.declared.refusal.Refusal.{Refusal}
use Rattle.der.specs.declared.refusal.Reason.TheVariants.{BadContent, TextSize}
use Rattle.parts.specs.declared.details.Details.{Details}
use Rattle.parts.specs.Bounds.{content, is_bounded}

-- whether a part can be replaced, by its number: 0 missing, 1 no, 2 yes; other numbers say nothing
abbrev pub replaceable_of : ℕ → Option (Option Bool)
replaceable_of n = cond (n == 0) (Some None) (cond (n == 1) (Some (Some false)) (cond (n == 2) (Some (Some true)) None))

-- what details say: the revision's bytes, and whether the part can be replaced
pub record Facts : Type 0 where
  pub revision : List ℕ
  pub replaceable : Option Bool

-- the facts of details
abbrev pub facts_of : Details → Facts
facts_of d = record { revision = content d.revision; replaceable = d.replaceable }

-- the second field, where the first is good
abbrev pub with_replaceable : List ℕ → Option (Option Bool) → Result Facts Refusal
with_replaceable revision (Some r) = Ok (record { revision = revision; replaceable = r })
with_replaceable revision None = refused BadContent 1

-- the details of a revision and a number, or the refusal of the first faulty field at its number
abbrev pub details_of : List ℕ → ℕ → Result Facts Refusal
details_of revision n = cond (is_bounded 0 64 revision) (with_replaceable revision (replaceable_of n)) (refused TextSize 0)

-- the facts of what was made, or its refusal
abbrev pub read_details : Result Details Refusal → Result Facts Refusal
read_details (Ok d) = Ok (facts_of d)
read_details (Err e) = Err e
