-- Changes of parts: what one says of its key, and what a list of them does to a list of parts.
use Rattle.std.specs.Prelude.{ℕ, ◌+◌, List, [], ◌∷◌, Some, None, Option}
use Rattle.std.specs.declared.cmp.Ordering.{Ordering}
use Rattle.std.specs.Option.{option_or}
use Rattle.model.specs.declared.part.Part.{Part}
use Rattle.model.specs.declared.part.Change.{Change}
use Rattle.model.specs.declared.part.Status.{Status}
use Rattle.model.specs.declared.part.Status.TheVariants.{Added, Modified, Removed}
use Rattle.model.specs.Orders.{if_same}
use Rattle.model.specs.Parts.{settle}

-- one thing where the part is fitted afterwards, another where it is not
abbrev pub by_status : {A : Type 0} → Status → A → A → A
by_status Added fitted gone = fitted
by_status Modified fitted gone = fitted
by_status Removed fitted gone = gone

-- what a change says of its key: its details, or none for a removal
abbrev pub said : {K D : Type 0} → Change K D → Option D
said c = by_status c.status (Some c.details) None

-- what the change says, else x
abbrev pub said_or : {K D : Type 0} → Option (Change K D) → Option D → Option D
said_or None x = x
said_or (Some c) x = said c

-- one for an addition
abbrev pub adds : Status → ℕ
adds Added = 1
adds Modified = 0
adds Removed = 0

-- one for a removal
abbrev pub removes : Status → ℕ
removes Added = 0
removes Modified = 0
removes Removed = 1

-- how many of the changes add a part
abbrev pub additions : {K D : Type 0} → List (Change K D) → ℕ
additions [] = 0
additions (c ∷ cs) = adds c.status + additions cs

-- how many of them remove one
abbrev pub removals : {K D : Type 0} → List (Change K D) → ℕ
removals [] = 0
removals (c ∷ cs) = removes c.status + removals cs

module _ {K : Type 0} (cmp : K → K → Ordering) where
  -- the keys ks with k among them, each once
  abbrev pub with_key : K → List K → List K
  with_key k [] = k ∷ []
  with_key k (j ∷ js) = if_same (cmp k j) (j ∷ js) (j ∷ with_key k js)

module _ {K D : Type 0} (cmp : K → K → Ordering) where
  -- the keys ks with those that the changes name, each once
  abbrev pub keys_named : List (Change K D) → List K → List K
  keys_named [] ks = ks
  keys_named (c ∷ cs) ks = keys_named cs (with_key cmp c.key ks)

  -- the latest of the changes, which stand in the order of their making, that names k
  abbrev pub latest : K → List (Change K D) → Option (Change K D)
  latest k [] = None
  latest k (c ∷ cs) = option_or (latest k cs) (if_same (cmp k c.key) (Some c) None)

  -- the parts after a change
  abbrev pub applied : Change K D → List (Part K D) → List (Part K D)
  applied c l = settle cmp c.key (said c) l

  -- the parts after all changes, in their order
  abbrev pub applied_all : List (Change K D) → List (Part K D) → List (Part K D)
  applied_all [] l = l
  applied_all (c ∷ cs) l = applied_all cs (applied c l)
