-- Byte strings of bounded length.
use Rattle.std.specs.Prelude.{ℕ, Bool, cond, ◌&&◌, List, length, take, Some, None, Option, nat_le}
use Rattle.std.specs.Str.{bytes_eq}
use Rattle.parts.specs.declared.bounded.Bounded.{Bounded}

-- the bytes that one holds
abbrev pub content : {least most : ℕ} → Bounded least most → List ℕ
content t = take t.len t.bytes

-- neither too few nor too many
abbrev pub is_bounded : ℕ → ℕ → List ℕ → Bool
is_bounded least most xs = nat_le least (length xs) && nat_le (length xs) most

-- the bytes, or none where they are too few or too many
abbrev pub bounded_of : ℕ → ℕ → List ℕ → Option (List ℕ)
bounded_of least most xs = cond (is_bounded least most xs) (Some xs) None

-- whether two hold the same bytes
abbrev pub hold_same : {least most : ℕ} → Bounded least most → Bounded least most → Bool
hold_same s t = bytes_eq (content s) (content t)
