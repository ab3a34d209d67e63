-- The rules of contents: each as a test that computes, and as what the test means.
use Rattle.std.specs.Prelude.{◌≡◌, ℕ, ◌-◌, ◌<◌, ◌≤◌, Bool, true, false, cond, not, ◌&&◌, ◌||◌, List, [], ◌∷◌, length, Some, None, Option, ◌==◌, ◌≢◌, nat_le, nat_lt, slice_index, slice_index_or}
use Rattle.der.specs.Numbers.{value_of}

-- INTEGER: not empty, and if longer than one byte, its first nine bits are not all zeros and not all ones
pub record Integer (content : List ℕ) : Type 0 where
  pub some : 0 < length content
  pub not_zeros : 1 < length content → slice_index content 0 ≡ 0 → 128 ≤ slice_index content 1
  pub not_ones : 1 < length content → slice_index content 0 ≡ 255 → slice_index content 1 < 128

-- its test
abbrev pub is_integer : List ℕ → Bool
is_integer content =
    nat_lt 0 (length content) &&
    (nat_le (length content) 1 ||
    not ((slice_index content 0 == 0 && nat_lt (slice_index content 1) 128) || (slice_index content 0 == 255 && nat_le 128 (slice_index content 1))))

-- the most content bytes of a serial
abbrev pub most_serial_bytes : ℕ
most_serial_bytes = 20

-- serial: an INTEGER that is neither negative nor zero, and not too long
pub record Serial (content : List ℕ) : Type 0 where
  pub integer : Integer content
  pub few : length content ≤ most_serial_bytes
  pub not_negative : slice_index_or content 0 0 < 128
  pub not_zero : 0 < value_of content

-- its test
abbrev pub is_serial : List ℕ → Bool
is_serial content =
    is_integer content &&
    (nat_le (length content) most_serial_bytes &&
    (nat_lt (slice_index content 0) 128 &&
    (nat_lt 1 (length content) || nat_lt 0 (slice_index content 0))))

-- BOOLEAN: one byte, FF for true and 00 for false
abbrev pub boolean_bytes : Bool → List ℕ
boolean_bytes true = 0xFF ∷ []
boolean_bytes false = 0x00 ∷ []

-- a truth value that a content stands for, or that it stands for none
abbrev pub Boolean : List ℕ → Option Bool → Type 0
Boolean content (Some b) = content ≡ boolean_bytes b
Boolean content None = (b : Bool) → content ≢ boolean_bytes b

-- that truth value, computed
abbrev pub boolean_of : List ℕ → Option Bool
boolean_of content =
    cond (length content == 1)
    (cond (slice_index content 0 == 255) (Some true) (cond (slice_index content 0 == 0) (Some false) None))
    None

-- OBJECT IDENTIFIER: numbers of seven bits to a byte, with 80 added in each byte of a number but its last. It is not
-- empty, its last byte ends a number, and no number begins with 80, which would be a needless byte
pub record Identifier (content : List ℕ) : Type 0 where
  pub some : 0 < length content
  pub ended : slice_index_or content (length content - 1) 0 < 128
  pub shortest : (k : ℕ) → k < length content → slice_index content k ≡ 128 → (0 < k) × (128 ≤ slice_index content (k - 1))

-- its test, going on behind a byte that was read; at the front there is none, and 0 does for it
abbrev pub identifier_behind : ℕ → List ℕ → Bool
identifier_behind last [] = nat_lt last 128
identifier_behind last (byte ∷ bytes) = cond (byte == 128 && nat_lt last 128) false (identifier_behind byte bytes)

-- its test
abbrev pub is_identifier : List ℕ → Bool
is_identifier content = nat_lt 0 (length content) && identifier_behind 0 content
