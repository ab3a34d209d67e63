-- The rule of times: YYYYMMDDHHMMSSZ, each number in its range.
use Rattle.std.specs.Prelude.{◌≡◌, ℕ, ◌+◌, ◌-◌, ◌*◌, ◌<◌, ◌≤◌, Bool, ◌&&◌, List, length, take, ◌==◌, nat_le, slice_index, slice_index_or}
use Rattle.std.specs.List.{list_all}

-- the number that two digits stand for
abbrev pub two_digits : List ℕ → ℕ → ℕ
two_digits content k = (slice_index content k - 48) * 10 + (slice_index content (k + 1) - 48)

-- it lies within bounds, both included
pub record Between (low n high : ℕ) : Type 0 where
  pub least : low ≤ n
  pub most : n ≤ high

-- its test
abbrev pub is_between : ℕ → ℕ → ℕ → Bool
is_between low n high = nat_le low n && nat_le n high

-- fourteen digits and Z; month, day, hour, minute and second in their ranges
pub record Time (content : List ℕ) : Type 0 where
  pub size : length content ≡ 15
  pub digits : (k : ℕ) → k < 14 → Between 48 (slice_index content k) 57
  pub zone : slice_index_or content 14 0 ≡ 90
  pub month : Between 1 (two_digits content 4) 12
  pub day : Between 1 (two_digits content 6) 31
  pub hour : Between 0 (two_digits content 8) 23
  pub minute : Between 0 (two_digits content 10) 59
  pub second : Between 0 (two_digits content 12) 59

-- every byte is a digit
abbrev pub all_digits : List ℕ → Bool
all_digits bytes = list_all (λ x. is_between 48 x 57) bytes

-- the test of a time, in three parts: fourteen digits and Z
abbrev pub is_time_shaped : List ℕ → Bool
is_time_shaped content = length content == 15 && (all_digits (take 14 content) && slice_index content 14 == 90)

-- month and day
abbrev pub is_in_calendar : List ℕ → Bool
is_in_calendar content = is_between 1 (two_digits content 4) 12 && is_between 1 (two_digits content 6) 31

-- hour, minute and second
abbrev pub is_on_clock : List ℕ → Bool
is_on_clock content =
    is_between 0 (two_digits content 8) 23 && (is_between 0 (two_digits content 10) 59 && is_between 0 (two_digits content 12) 59)

-- all of it
abbrev pub is_time : List ℕ → Bool
is_time content = is_time_shaped content && (is_in_calendar content && is_on_clock content)
