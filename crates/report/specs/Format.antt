-- The format of a probe report: the bytes of a list of parts.
use Rattle.std.specs.Prelude.{◌≡◌, ℕ, ◌-◌, ◌/◌, ◌%◌, ◌≤◌, Bool, true, false, List, [], ◌∷◌, ◌++◌, length, replicate, Some, None, Ok, Err, Option, Result}
use Rattle.std.specs.List.{flat_map}
use Rattle.der.specs.declared.refusal.Refusal.{Refusal}
use Rattle.model.specs.declared.part.Part.{Part}
use Rattle.model.specs.Parts.{Rising}
use Rattle.parts.specs.declared.key.Key.{Key}
use Rattle.parts.specs.declared.details.Details.{Details}
use Rattle.parts.specs.Bounds.{content}
use Rattle.parts.specs.Keys.{Fields, fields_of, order}
use Rattle.report.specs.Layout.{most_reported, key_size, details_size, most_text}

-- a number in two bytes, high byte first
abbrev pub two_bytes : ℕ → List ℕ
two_bytes n = n / 256 ∷ n % 256 ∷ []

-- a text: its length, its bytes, zeros up to the most bytes of a text
abbrev pub text_bytes : List ℕ → List ℕ
text_bytes xs = length xs ∷ (xs ++ replicate (most_text - length xs) 0)

-- a key by its fields
abbrev pub field_bytes : Fields → List ℕ
field_bytes f = f.registry ∷ (f.class ++ (text_bytes f.maker ++ (text_bytes f.model ++ text_bytes f.serial)))

-- a key
abbrev pub key_bytes : Part Key Details → List ℕ
key_bytes p = field_bytes (fields_of p.key)

-- the number of a replaceable
abbrev pub replaceable_number : Option Bool → ℕ
replaceable_number None = 0
replaceable_number (Some false) = 1
replaceable_number (Some true) = 2

-- details
abbrev pub details_bytes : Part Key Details → List ℕ
details_bytes p = text_bytes (content p.details.revision) ++ (replaceable_number p.details.replaceable ∷ [])

-- a report: three sizes, the keys, the details
abbrev pub report_bytes : List (Part Key Details) → List ℕ
report_bytes ps = two_bytes (length ps) ++ (two_bytes key_size ++ (two_bytes details_size ++ (flat_map key_bytes ps ++ flat_map details_bytes ps)))

-- the file is the report of these parts, which rise by key and are not too many
pub record Reports (file : List ℕ) (ps : List (Part Key Details)) : Type 0 where
  pub bytes : file ≡ report_bytes ps
  pub rising : Rising order ps
  pub few : length ps ≤ most_reported

-- the one list of parts that the file reports
pub record TheReport (file : List ℕ) : Type 0 where
  pub parts : List (Part Key Details)
  pub reports : Reports file parts
  pub alone : (ps : List (Part Key Details)) → Reports file ps → ps ≡ parts

-- a check says yes exactly where the file is the report of some parts, and these are then unique
abbrev pub Told : List ℕ → Result (Unit {0}) Refusal → Type 0
Told file (Ok u) = TheReport file
Told file (Err e) = (ps : List (Part Key Details)) → Reports file ps → ⊥
