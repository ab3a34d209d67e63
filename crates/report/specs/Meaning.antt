-- What a probe report means: its parts.
use Rattle.std.specs.Prelude.{ℕ, zero, suc, ◌+◌, List, [], ◌∷◌, slice_index}
use Rattle.model.specs.declared.part.Part.{Part}
use Rattle.parts.specs.declared.key.Key.{Key}
use Rattle.parts.specs.declared.details.Details.{Details}
use Rattle.parts.proofs.Built.{key_from, details_from}
use Rattle.report.specs.Layout.{replaceable_place, key_place, details_place, two_at, text_at, fields_at}

-- the part with a number from 0, of n
abbrev pub part_at : List ℕ → ℕ → ℕ → Part Key Details
part_at file n i = record {
  key = key_from (fields_at file (key_place i));
  details = details_from (text_at file (details_place n i)) (slice_index file (details_place n i + replaceable_place));
}

-- so many parts, from the one with a number on
abbrev pub parts_from : List ℕ → ℕ → ℕ → ℕ → List (Part Key Details)
parts_from file n i zero = []
parts_from file n i (suc left) = part_at file n i ∷ parts_from file n (i + 1) left

-- all of them
abbrev pub parts_in : List ℕ → List (Part Key Details)
parts_in file = parts_from file (two_at file 0) 0 (two_at file 0)
