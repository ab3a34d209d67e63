-- The check of a probe report: the answer for every byte string, refusals included, in the order in which they come.
use Rattle.std.specs.Prelude.{ℕ, zero, suc, ◌+◌, ◌-◌, Bool, cond, ◌&&◌, ◌||◌, List, length, is_some, Ok, Result, ◌==◌, nat_le, nat_lt, slice_index}
use Rattle.std.specs.List.{list_all}
use Rattle.std.specs.Ordering.{is_lt}
use Rattle.der.specs.Refusals.{refused, then}
use Rattle.der.specs.Numbers.{part}
use Rattle.der.specs.declared.refusal.Refusal.{Refusal}
use Rattle.der.specs.declared.refusal.Reason.TheVariants.{CutShort, BytesLeft, BadContent, TextSize, ListSize, Repeated}
use Rattle.parts.specs.Keys.{registry_of, in_turn}
use Rattle.report.specs.Layout.{most_reported, sizes, key_size, details_size, maker_place, model_place, serial_place, replaceable_place, most_text, text_field, key_place, details_place, report_size, two_at, fields_at}

-- every byte is zero
abbrev pub all_zero : List ℕ → Bool
all_zero xs = list_all (λ x. x == 0) xs

-- the text field at `at`: a length byte of at least `least` and at most `most_text`, and zeros behind the text
abbrev pub text_field_at : List ℕ → ℕ → ℕ → Result (Unit {0}) Refusal
text_field_at file at least =
    cond (nat_le least (slice_index file at) && nat_le (slice_index file at) most_text)
    (cond (all_zero (part file (at + 1 + slice_index file at) (at + text_field))) (Ok tt) (refused BadContent at))
    (refused TextSize at)

-- the key at `at`, field by field
abbrev pub key_at : List ℕ → ℕ → Result (Unit {0}) Refusal
key_at file at =
    cond (is_some (registry_of (slice_index file at)))
    (then (text_field_at file (at + maker_place) 1) (λ _.
    then (text_field_at file (at + model_place) 1) (λ _.
    text_field_at file (at + serial_place) 1)))
    (refused BadContent at)

-- the key with a number is the first, or above the one before
abbrev pub rises_at : List ℕ → ℕ → Bool
rises_at file i = i == 0 || is_lt (in_turn (fields_at file (key_place (i - 1))) (fields_at file (key_place i)))

-- so many keys, from the one with a number on
abbrev pub keys_from : List ℕ → ℕ → ℕ → Result (Unit {0}) Refusal
keys_from file i zero = Ok tt
keys_from file i (suc left) =
    then (key_at file (key_place i)) (λ _.
    cond (rises_at file i) (keys_from file (i + 1) left) (refused Repeated (key_place i)))

-- the details at `at`, field by field
abbrev pub details_at : List ℕ → ℕ → Result (Unit {0}) Refusal
details_at file at =
    then (text_field_at file at 0) (λ _.
    cond (nat_le (slice_index file (at + replaceable_place)) 2) (Ok tt) (refused BadContent (at + replaceable_place)))

-- so many details, from the one with a number on, behind n keys
abbrev pub details_from : List ℕ → ℕ → ℕ → ℕ → Result (Unit {0}) Refusal
details_from file n i zero = Ok tt
details_from file n i (suc left) = then (details_at file (details_place n i)) (λ _. details_from file n (i + 1) left)

-- the three sizes, and that the file is as long as they say
abbrev pub sizes_of : List ℕ → Result ℕ Refusal
sizes_of file =
    cond (nat_lt (length file) 2) (refused CutShort 0)
    (cond (nat_lt most_reported (two_at file 0)) (refused ListSize 0)
    (cond (nat_lt (length file) 4) (refused CutShort 2)
    (cond (two_at file 2 == key_size)
    (cond (nat_lt (length file) sizes) (refused CutShort 4)
    (cond (two_at file 4 == details_size)
    (cond (nat_lt (length file) (report_size (two_at file 0))) (refused CutShort (length file))
    (cond (nat_lt (report_size (two_at file 0)) (length file)) (refused BytesLeft (report_size (two_at file 0)))
    (Ok (two_at file 0))))
    (refused BadContent 4)))
    (refused BadContent 2))))

-- all of it
abbrev pub checked : List ℕ → Result (Unit {0}) Refusal
checked file = then (sizes_of file) (λ n. then (keys_from file 0 n) (λ _. details_from file n 0 n))
