-- Reading one element: the answer for every byte string, place and end, refusals included.
use Rattle.std.specs.Prelude.{ℕ, ◌+◌, ◌-◌, ◌%◌, ◌<◌, ◌≤◌, min, cond, ◌||◌, List, length, Ok, Err, Result, ◌==◌, nat_le, nat_lt, slice_index}
use Rattle.der.specs.declared.refusal.Refusal.{Refusal}
use Rattle.der.specs.declared.refusal.Reason.TheVariants.{CutShort, LengthForm, WrongTag, BytesLeft}
use Rattle.der.specs.Refusals.{refused}
use Rattle.der.specs.Numbers.{part, value_of}

-- the most bytes that a length may take behind its first one; a longer form of length is a larger number here
abbrev pub most_length_bytes : ℕ
most_length_bytes = 2

-- where a content begins and what follows it, if it ends within the enclosing element
abbrev pub fitting : ℕ → ℕ → ℕ → ℕ → Result (ℕ × ℕ) Refusal
fitting at end from size = cond (nat_lt (end - from) size) (refused CutShort at) (Ok (from, from + size))

-- a length of `count` bytes behind its first one, in no longer form than it needs
abbrev pub long_length_at : List ℕ → ℕ → ℕ → ℕ → Result (ℕ × ℕ) Refusal
long_length_at file at end count =
    cond (nat_lt (end - (at + 2)) count) (refused CutShort at)
    (cond (slice_index file (at + 2) == 0 || nat_lt (value_of (part file (at + 2) (at + 2 + count))) 128) (refused LengthForm at)
    (fitting at end (at + 2 + count) (value_of (part file (at + 2) (at + 2 + count)))))

-- the content of the element at `at`, by the length behind its tag
abbrev pub length_at : List ℕ → ℕ → ℕ → Result (ℕ × ℕ) Refusal
length_at file at end =
    cond (nat_le end (at + 1)) (refused CutShort at)
    (cond (nat_lt (slice_index file (at + 1)) 128) (fitting at end (at + 2) (slice_index file (at + 1)))
    (cond (slice_index file (at + 1) == 128 || nat_lt (128 + most_length_bytes) (slice_index file (at + 1))) (refused LengthForm at)
    (long_length_at file at end (slice_index file (at + 1) - 128))))

-- the tag beside the places of the content
abbrev pub with_tag : ℕ → Result (ℕ × ℕ) Refusal → Result (ℕ × ℕ × ℕ) Refusal
with_tag tag (Ok p) = Ok (tag, p.0, p.1)
with_tag tag (Err e) = Err e

-- an enclosing element that is said to end behind the file ends with the file
abbrev pub end_within : List ℕ → ℕ → ℕ
end_within file end = min end (length file)

-- the element at `at`, whatever its tag, in an enclosing element that ends at `end`: its tag, where its content
-- begins and what follows it
abbrev pub any_at : List ℕ → ℕ → ℕ → Result (ℕ × ℕ × ℕ) Refusal
any_at file at end =
    cond (nat_le end at) (refused WrongTag at)
    (cond (slice_index file at % 32 == 31) (refused WrongTag at)
    (with_tag (slice_index file at) (length_at file at end)))

-- the same for any end that is given
unfoldable pub element_at : List ℕ → ℕ → ℕ → Result (ℕ × ℕ × ℕ) Refusal
element_at file at end = any_at file at (end_within file end)

-- the element at `at` whose tag must be `wanted`: where its content begins and what follows it
abbrev pub wanted_at : List ℕ → ℕ → ℕ → ℕ → Result (ℕ × ℕ) Refusal
wanted_at file at end wanted =
    cond (nat_le end at) (refused WrongTag at)
    (cond (slice_index file at == wanted) (length_at file at end) (refused WrongTag at))

-- the same for any end that is given
unfoldable pub tagged_at : List ℕ → ℕ → ℕ → ℕ → Result (ℕ × ℕ) Refusal
tagged_at file at end wanted = wanted_at file at (end_within file end) wanted

-- a content lies behind its tag, and ends within the enclosing element and within the file
pub record Placed (file : List ℕ) (at end from to : ℕ) : Type 0 where
  pub behind : at < from
  pub ordered : from ≤ to
  pub enclosed : to ≤ end
  pub inside : to ≤ length file

-- the places in an answer, with and without the tag
abbrev pub ElementPlaced : List ℕ → ℕ → ℕ → Result (ℕ × ℕ × ℕ) Refusal → Type 0
ElementPlaced file at end (Ok p) = Placed file at end p.1 p.2
ElementPlaced file at end (Err e) = Unit {0}

abbrev pub ContentPlaced : List ℕ → ℕ → ℕ → Result (ℕ × ℕ) Refusal → Type 0
ContentPlaced file at end (Ok p) = Placed file at end p.0 p.1
ContentPlaced file at end (Err e) = Unit {0}

-- nothing is left in an enclosing element
abbrev pub ended : ℕ → ℕ → Result (Unit {0}) Refusal
ended at end = cond (nat_lt at end) (refused BytesLeft at) (Ok tt)
