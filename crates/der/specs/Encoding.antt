-- The encoding of an element, and what reading one has to do with it.
use Rattle.std.specs.Prelude.{◌≡◌, ℕ, zero, suc, ◌+◌, ◌-◌, ◌/◌, ◌%◌, ◌<◌, ◌≤◌, cond, List, [], ◌∷◌, ◌++◌, length, drop, Ok, Err, Result, nat_lt}
use Rattle.der.specs.declared.refusal.Refusal.{Refusal}
use Rattle.der.specs.declared.element.Element.{Element}
use Rattle.der.specs.Numbers.{Bytes, part}
use Rattle.der.specs.Elements.{most_length_bytes, element_at}

-- a number and what follows it, the number split in two as long as it does not fit in a byte, but at most so often
abbrev pub split_up : ℕ → ℕ → List ℕ → List ℕ
split_up zero top rest = top ∷ rest
split_up (suc times) top rest = cond (nat_lt top 256) (top ∷ rest) (split_up times (top / 256) (top % 256 ∷ rest))

-- the bytes of a number, high byte first and as few as they can be; a number that is too large for the most length
-- bytes keeps a first one that is no byte
abbrev pub bytes_of : ℕ → List ℕ
bytes_of n = split_up (most_length_bytes - 1) n []

-- the bytes of a length: itself where it is below 128, else 128 and the count of its bytes, then its bytes
abbrev pub length_bytes : ℕ → List ℕ
length_bytes n = cond (nat_lt n 128) (n ∷ []) ((128 + length (bytes_of n)) ∷ bytes_of n)

-- what that comes to, form by form; a longer content has no encoding in bytes
pub record LengthForms : Type 0 where
  pub below128 : (n : ℕ) → n < 128 → length_bytes n ≡ n ∷ []
  pub below256 : (n : ℕ) → 128 ≤ n → n < 256 → length_bytes n ≡ 0x81 ∷ n ∷ []
  pub below65536 : (n : ℕ) → 256 ≤ n → n < 65536 → length_bytes n ≡ 0x82 ∷ n / 256 ∷ n % 256 ∷ []
  pub longer : (n : ℕ) → 65536 ≤ n → Bytes (length_bytes n) → ⊥

-- an element: its tag, its length, its content
unfoldable pub encoded : ℕ → List ℕ → List ℕ
encoded tag content = tag ∷ (length_bytes (length content) ++ content)

-- the bytes from a place on begin with an element whose tag is one byte, and go on with the rest
pub record Begins (file : List ℕ) (place tag : ℕ) (content rest : List ℕ) : Type 0 where
  pub one_byte : tag % 32 ≡ 31 → ⊥
  pub bytes : drop place file ≡ encoded tag content ++ rest

-- the one element that the bytes from a place on begin with
pub record TheElement (file : List ℕ) (place tag : ℕ) (content : List ℕ) : Type 0 where
  pub rest : List ℕ
  pub begins : Begins file place tag content rest
  pub alone : (t : ℕ) (c r : List ℕ) → Begins file place t c r → (t ≡ tag) × (c ≡ content) × (r ≡ rest)

-- an answer is the one element that begins there; a refusal says that no element does
abbrev pub Tells : List ℕ → ℕ → Result Element Refusal → Type 0
Tells file place (Ok e) = TheElement file place e.tag e.content.now
Tells file place (Err e) = (t : ℕ) (c r : List ℕ) → Begins file place t c r → ⊥

-- the element that was read, and where its content stands in the file
pub record Stands (file : List ℕ) (place : ℕ) (e : Element) : Type 0 where
  pub from : ℕ
  pub to : ℕ
  pub read : element_at file place (length file) ≡ Ok (e.tag, from, to)
  pub content : e.content.now ≡ part file from to

-- the answer for every byte string and every place
abbrev pub Reads : List ℕ → ℕ → Result Element Refusal → Type 0
Reads file place (Ok e) = Stands file place e
Reads file place (Err e) = element_at file place (length file) ≡ Err e
