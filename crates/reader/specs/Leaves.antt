-- Elements that hold no others: each kind with its tag, the rule of its content, and why another content is refused.
use Rattle.std.specs.Prelude.{◌≡◌, ℕ, ◌≤◌, Bool, true, cond, ◌&&◌, List, [], ◌∷◌, length, is_some, Ok, ◌==◌, nat_le, slice_index, slice_index_or}
use Rattle.der.specs.declared.refusal.Reason.{Reason}
use Rattle.der.specs.declared.refusal.Reason.TheVariants.{BadContent, TextSize}
use Rattle.der.specs.Refusals.{refused, then}
use Rattle.der.specs.Numbers.{part}
use Rattle.der.specs.Contents.{Serial, is_serial, Identifier, is_identifier, boolean_bytes, boolean_of}
use Rattle.der.specs.Times.{Time, is_time}
use Rattle.der.specs.Elements.{element_at, tagged_at}
use Rattle.reader.specs.declared.span.Span.{Span}
use Rattle.reader.specs.declared.leaf.Leaf.{Leaf}
use Rattle.reader.specs.declared.leaf.Leaf.TheVariants as leaf
use Rattle.reader.specs.Readers.{Reader}

-- the tag of a kind
abbrev pub tag_of : Leaf → ℕ
tag_of leaf.Version = 0x02
tag_of leaf.Name = 0xA4
tag_of leaf.Serial = 0x02
tag_of leaf.Identifier = 0x06
tag_of leaf.Time = 0x18
tag_of leaf.Critical = 0x01
tag_of (leaf.Opaque tag) = tag
tag_of leaf.Signature = 0x03
tag_of leaf.Class = 0x04
tag_of leaf.Text = 0x0C
tag_of leaf.SerialText = 0x80
tag_of leaf.Revision = 0x81
tag_of leaf.Replaceable = 0x83
tag_of leaf.Status = 0x87

-- the length lies within bounds, both included
pub record Sized (least most : ℕ) (content : List ℕ) : Type 0 where
  pub long : least ≤ length content
  pub short : length content ≤ most

-- its test
abbrev pub is_sized : ℕ → ℕ → List ℕ → Bool
is_sized least most content = nat_le least (length content) && nat_le (length content) most

-- a signature: 00, then at least one byte, so the bytes given are all of them and one more
pub record Signed (content : List ℕ) : Type 0 where
  pub long : 2 ≤ length content
  pub whole : slice_index_or content 0 0 ≡ 0

-- a status: one byte from 0 to 2
pub record Stated (content : List ℕ) : Type 0 where
  pub one : length content ≡ 1
  pub known : slice_index_or content 0 0 ≤ 2

-- the rule of a kind's content
abbrev pub Kept : Leaf → List ℕ → Type 0
Kept leaf.Version content = content ≡ 1 ∷ []
Kept leaf.Name content = Sized 1 128 content
Kept leaf.Serial content = Serial content
Kept leaf.Identifier content = Identifier content
Kept leaf.Time content = Time content
Kept leaf.Critical content = content ≡ boolean_bytes true
Kept (leaf.Opaque tag) content = Unit {0}
Kept leaf.Signature content = Signed content
Kept leaf.Class content = length content ≡ 4
Kept leaf.Text content = Sized 1 64 content
Kept leaf.SerialText content = Sized 1 64 content
Kept leaf.Revision content = Sized 1 64 content
Kept leaf.Replaceable content = (b : Bool) × (content ≡ boolean_bytes b)
Kept leaf.Status content = Stated content

-- its test
abbrev pub is_kept : Leaf → List ℕ → Bool
is_kept leaf.Version content = length content == 1 && slice_index content 0 == 1
is_kept leaf.Name content = is_sized 1 128 content
is_kept leaf.Serial content = is_serial content
is_kept leaf.Identifier content = is_identifier content
is_kept leaf.Time content = is_time content
is_kept leaf.Critical content = length content == 1 && slice_index content 0 == 0xFF
is_kept (leaf.Opaque tag) content = true
is_kept leaf.Signature content = nat_le 2 (length content) && slice_index content 0 == 0
is_kept leaf.Class content = length content == 4
is_kept leaf.Text content = is_sized 1 64 content
is_kept leaf.SerialText content = is_sized 1 64 content
is_kept leaf.Revision content = is_sized 1 64 content
is_kept leaf.Replaceable content = is_some (boolean_of content)
is_kept leaf.Status content = length content == 1 && nat_le (slice_index content 0) 2

-- why a content that breaks the rule is refused
abbrev pub reason_of : Leaf → Reason
reason_of leaf.Version = BadContent
reason_of leaf.Name = TextSize
reason_of leaf.Serial = BadContent
reason_of leaf.Identifier = BadContent
reason_of leaf.Time = BadContent
reason_of leaf.Critical = BadContent
reason_of (leaf.Opaque tag) = BadContent
reason_of leaf.Signature = BadContent
reason_of leaf.Class = BadContent
reason_of leaf.Text = TextSize
reason_of leaf.SerialText = TextSize
reason_of leaf.Revision = TextSize
reason_of leaf.Replaceable = BadContent
reason_of leaf.Status = BadContent

-- the element of a kind: where its content stands
unfoldable pub leaf_at : Leaf → Reader Span
leaf_at kind file at end =
    then (tagged_at file at end (tag_of kind)) (λ p.
    cond (is_kept kind (part file p.0 p.1)) (Ok (record { from = p.0; to = p.1 }, p.1)) (refused (reason_of kind) at))

-- an element passed over: where it stands as a whole
unfoldable pub passed_at : Reader Span
passed_at file at end = then (element_at file at end) (λ p. Ok (record { from = at; to = p.2 }, p.2))
