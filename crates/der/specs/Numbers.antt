-- Bytes, and the numbers they stand for.
use Rattle.std.specs.Prelude.{ℕ, ◌+◌, ◌*◌, ◌<◌, List, fold, slice_index, slice_range}

-- the elements of a list are bytes
abbrev pub Bytes : List ℕ → Type 0
Bytes xs = (k : ℕ) → slice_index xs k < 256

-- the part of a list from one place up to another
abbrev pub part : List ℕ → ℕ → ℕ → List ℕ
part xs from to = slice_range xs from to

-- a number continued by further bytes, high byte first
abbrev pub continued : ℕ → List ℕ → ℕ
continued n bytes = fold (λ v b. v * 256 + b) n bytes

-- the number that bytes stand for, high byte first
abbrev pub value_of : List ℕ → ℕ
value_of bytes = continued 0 bytes
