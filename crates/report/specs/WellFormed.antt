-- What well formed fields have.
use Rattle.std.specs.Prelude.{◌≡◌, ℕ, ◌+◌, ◌≤◌, true, List, is_some, slice_index, slice_index_or}
use Rattle.parts.specs.Keys.{registry_of}
use Rattle.report.specs.Layout.{maker_place, model_place, serial_place, most_text}

-- a length byte in its bounds
pub record Text (file : List ℕ) (at least : ℕ) : Type 0 where
  pub low : least ≤ slice_index file at
  pub high : slice_index_or file at 0 ≤ most_text

-- a registry's number, and text lengths in their bounds
pub record KeyGood (file : List ℕ) (at : ℕ) : Type 0 where
  pub registry : is_some (registry_of (slice_index file at)) ≡ true
  pub maker : Text file (at + maker_place) 1
  pub model : Text file (at + model_place) 1
  pub serial : Text file (at + serial_place) 1
