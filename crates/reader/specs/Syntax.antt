-- What the formats are made of: elements passed over, elements that may be missing, lists without repeats.
use Rattle.std.specs.Prelude.{◌≡◌, ℕ, ◌%◌, ◌≤◌, ◌⊎◌, List, [], ◌∷◌, ◌++◌, length, Some, None, Option, ◌≢◌}
use Rattle.der.specs.Encoding.{encoded}

-- an element that is passed over
pub record Other : Type 0 where
  pub tag : ℕ
  pub content : List ℕ

-- its bytes
abbrev pub other_bytes : Other → List ℕ
other_bytes o = encoded o.tag o.content

-- the low five bits of its tag are not all ones
abbrev pub OneByteTag : Other → Type 0
OneByteTag o = o.tag % 32 ≡ 31 → ⊥

-- the bytes of something that may be missing: none where it is
abbrev pub perhaps_bytes : {X : Type 0} → (X → List ℕ) → Option X → List ℕ
perhaps_bytes bytes None = []
perhaps_bytes bytes (Some x) = bytes x

-- it keeps its rule where it stands
abbrev pub WhereThere : {X : Type 0} → (X → Type 0) → Option X → Type 0
WhereThere Good None = Unit {0}
WhereThere Good (Some x) = Good x

-- each entry keeps a rule
abbrev pub Each : {X : Type 0} → (X → Type 0) → List X → Type 0
Each Good [] = Unit {0}
Each Good (x ∷ xs) = Good x × Each Good xs

-- one entry at least keeps a rule
abbrev pub Among : {X : Type 0} → (X → Type 0) → List X → Type 0
Among Good [] = ⊥
Among Good (x ∷ xs) = Good x ⊎ Among Good xs

-- none of the entries has this label
abbrev pub Absent : {X L : Type 0} → (X → L) → L → List X → Type 0
Absent label l [] = Unit {0}
Absent label l (x ∷ xs) = (l ≢ label x) × Absent label l xs

-- no label stands twice: each entry has another than all before it
abbrev pub Apart : {X L : Type 0} → (X → L) → List X → List X → Type 0
Apart label before [] = Unit {0}
Apart label before (x ∷ xs) = Absent label (label x) before × Apart label (before ++ x ∷ []) xs

-- a list of at least one and at most so many entries, each by its rule, no label twice
pub record Listed {X L : Type 0} (most : ℕ) (Good : X → Type 0) (label : X → L) (xs : List X) : Type 0 where
  pub some : 1 ≤ length xs
  pub few : length xs ≤ most
  pub each : Each Good xs
  pub apart : Apart label [] xs
