-- Two inventories compared.
use Rattle.std.specs.Prelude.{◌≡◌, ℕ, ◌+◌, List, [], ◌∷◌, length, Some, None, Option, ◌≢◌}
use Rattle.std.specs.declared.cmp.Ordering.TheVariants.{Less}
use Rattle.std.specs.declared.cmp.Ordering.{Ordering}
use Rattle.model.specs.declared.part.Part.{Part}
use Rattle.model.specs.Parts.{Over, beyond, lookup}

module _ {K D : Type 0} (cmp : K → K → Ordering) where
  -- what an audit of l and m above k answers: the smallest key above k of which the two say different things, or none
  -- where they say the same of every key above k
  abbrev pub Auditing : List (Part K D) → List (Part K D) → Option K → Option K → Type 0
  Auditing l m k None = (q : K) → Over cmp k q → lookup cmp q l ≡ lookup cmp q m
  Auditing l m k (Some j) = Over cmp k j × (lookup cmp j l ≢ lookup cmp j m) × ((q : K) → Over cmp k q → cmp q j ≡ Less → lookup cmp q l ≡ lookup cmp q m)

  -- where no key is given, none is answered exactly where the two have the same parts
  abbrev pub Agreeing : List (Part K D) → List (Part K D) → Option K → Type 0
  Agreeing l m None = l ≡ m
  Agreeing l m (Some j) = l ≡ m → ⊥

  -- all audits in turn: the smallest key above k of which l and m say different things, then the smallest above that
  -- one, and so on; at last none
  abbrev pub Differing : List (Part K D) → List (Part K D) → Option K → List K → Type 0
  Differing l m k [] = Auditing l m k None
  Differing l m k (j ∷ js) = Auditing l m k (Some j) × Differing l m (Some j) js

-- two inventories that are being compared, and the key last answered
pub record Comparison (K D : Type 0) : Type 0 where
  pub left : List (Part K D)
  pub right : List (Part K D)
  pub passed : Option K

abbrev pub compared : {K D : Type 0} → List (Part K D) → List (Part K D) → Option K → Comparison K D
compared l m k = record { left = l; right = m; passed = k }

-- the same two, after an answer
abbrev pub answered : {K D : Type 0} → Comparison K D → Option K → Comparison K D
answered s None = s
answered s (Some j) = compared s.left s.right (Some j)

module _ {K D : Type 0} (cmp : K → K → Ordering) where
  -- each answer is the audit above the one before it
  abbrev pub Comparing : Comparison K D → Option K → Comparison K D → Type 0
  Comparing s r t = Auditing cmp s.left s.right s.passed r × (t ≡ answered s r)

  -- no more answers come than there are parts above the last
  abbrev pub most_answers : Comparison K D → ℕ
  most_answers s = length (beyond cmp s.passed s.left) + length (beyond cmp s.passed s.right)
