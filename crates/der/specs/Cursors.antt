-- Cursors: where they stand, in terms of places in their file.
use Rattle.std.specs.Prelude.{◌≡◌, ℕ, cond, List, Some, None, Ok, Err, Option, Result, nat_lt, slice_index}
use Rattle.der.specs.declared.refusal.Refusal.{Refusal}
use Rattle.der.specs.declared.cursor.Cursor.{Cursor}
use Rattle.der.specs.Elements.{end_within}

-- the tag of the element that begins at a place, or none where nothing is left of the element around
abbrev pub tag_at : List ℕ → ℕ → ℕ → Option ℕ
tag_at file at end = cond (nat_lt at (end_within file end)) (Some (slice_index file at)) None

-- where the content begins that a cursor was set to, and what follows it
abbrev pub content_of : Result Cursor Refusal → Result (ℕ × ℕ) Refusal
content_of (Ok c) = Ok (c.at, c.end)
content_of (Err e) = Err e

-- the same, with the tag in front
abbrev pub element_of : Result (ℕ × Cursor) Refusal → Result (ℕ × ℕ × ℕ) Refusal
element_of (Ok p) = Ok (p.0, p.1.at, p.1.end)
element_of (Err e) = Err e

-- a cursor stays in its file and in the element that it reads
pub record Stays (old new : Cursor) : Type 0 where
  pub file : new.file.now ≡ old.file.now
  pub end : new.end ≡ old.end

-- a cursor went into an element: the inner one reads the same file, and the outer one stands behind the element
pub record Enters (old new inner : Cursor) : Type 0 where
  pub file : inner.file.now ≡ old.file.now
  pub behind : new.at ≡ inner.end
