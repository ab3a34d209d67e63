-- Where things stand in a probe report: three sizes of two bytes, then the keys, then the details.
use Rattle.std.specs.Prelude.{ℕ, ◌+◌, ◌*◌, List, slice_index}
use Rattle.der.specs.Numbers.{part}
use Rattle.parts.specs.Keys.{Fields, said}

-- the most keys of a report
abbrev pub most_reported : ℕ
most_reported = 240

-- the bytes of the three sizes, of a key, of details
abbrev pub sizes : ℕ
sizes = 6

abbrev pub key_size : ℕ
key_size = 200

abbrev pub details_size : ℕ
details_size = 66

-- where maker, model and serial text begin in a key, behind registry and class value
abbrev pub maker_place : ℕ
maker_place = 5

abbrev pub model_place : ℕ
model_place = 70

abbrev pub serial_place : ℕ
serial_place = 135

-- where replaceable stands in details, behind the revision
abbrev pub replaceable_place : ℕ
replaceable_place = 65

-- the most bytes of a text, and the size of a text field, which has a length byte before it
abbrev pub most_text : ℕ
most_text = 64

abbrev pub text_field : ℕ
text_field = 65

-- where the key with a number from 0 begins
abbrev pub key_place : ℕ → ℕ
key_place i = sizes + key_size * i

-- where the details of it begin, where there are n keys
abbrev pub details_place : ℕ → ℕ → ℕ
details_place n i = sizes + key_size * n + details_size * i

-- the size of a report with n keys
abbrev pub report_size : ℕ → ℕ
report_size n = sizes + (key_size + details_size) * n

-- a number of two bytes, high byte first
abbrev pub two_at : List ℕ → ℕ → ℕ
two_at file at = slice_index file at * 256 + slice_index file (at + 1)

-- the text whose length byte stands at `at`
abbrev pub text_at : List ℕ → ℕ → List ℕ
text_at file at = part file (at + 1) (at + 1 + slice_index file at)

-- the fields of the key that begins at `at`
abbrev pub fields_at : List ℕ → ℕ → Fields
fields_at file at = said (slice_index file at) (part file (at + 1) (at + maker_place)) (text_at file (at + maker_place)) (text_at file (at + model_place)) (text_at file (at + serial_place))
