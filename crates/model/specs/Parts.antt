-- What an inventory means: the list of its parts, strictly rising by key.
use Rattle.std.specs.Prelude.{◌≡◌, ℕ, ◌≤◌, List, [], ◌∷◌, length, Some, None, Option}
use Rattle.std.specs.declared.cmp.Ordering.TheVariants.{Less}
use Rattle.std.specs.declared.cmp.Ordering.{Ordering}
use Rattle.model.specs.declared.part.Part.{Part}
use Rattle.model.specs.Orders.{by, if_same}

-- the most parts of an inventory
abbrev pub most_parts : ℕ
most_parts = 1024

-- there is one
abbrev pub Is : {A : Type 0} → Option A → Type 0
Is None = ⊥
Is (Some x) = Unit {0}

-- a part, of its key and details
abbrev pub part : {K D : Type 0} → K → D → Part K D
part k d = record { key = k; details = d }

module _ {K : Type 0} (cmp : K → K → Ordering) where
  -- q is above k, if there is a k
  abbrev pub Over : Option K → K → Type 0
  Over None q = Unit {0}
  Over (Some k) q = cmp k q ≡ Less

module _ {K D : Type 0} where
  -- count answers the number of parts
  abbrev pub Counting : List (Part K D) → ℕ → Type 0
  Counting l n = n ≡ length l

module _ {K D : Type 0} (cmp : K → K → Ordering) where
  -- every part of l has a key above k
  abbrev pub AllAbove : K → List (Part K D) → Type 0
  AllAbove k [] = Unit {0}
  AllAbove k (p ∷ l) = (cmp k p.key ≡ Less) × AllAbove k l

  -- each part has a key above those before it, so no key stands twice
  abbrev pub Rising : List (Part K D) → Type 0
  Rising [] = Unit {0}
  Rising (p ∷ l) = AllAbove p.key l × Rising l

  -- a set of parts that an inventory may mean
  pub record IsInventory (l : List (Part K D)) : Type 0 where
    pub rising : Rising l
    pub few : length l ≤ most_parts

  -- find: the details of k, or none
  abbrev pub lookup : K → List (Part K D) → Option D
  lookup k [] = None
  lookup k (p ∷ l) = if_same (cmp k p.key) (Some p.details) (lookup k l)

  -- next: the first part above k, or the first of all where there is no k
  abbrev pub above : Option K → List (Part K D) → Option (Part K D)
  above None [] = None
  above None (p ∷ l) = Some p
  above (Some k) [] = None
  above (Some k) (p ∷ l) = by (cmp k p.key) (Some p) (above (Some k) l) (above (Some k) l)

  -- the parts above k, or all where there is no k
  abbrev pub beyond : Option K → List (Part K D) → List (Part K D)
  beyond None l = l
  beyond (Some k) [] = []
  beyond (Some k) (p ∷ l) = by (cmp k p.key) (p ∷ l) (beyond (Some k) l) (beyond (Some k) l)

  -- the questions of an inventory that means l: find answers the details of the key, or none
  abbrev pub Finding : List (Part K D) → K → Option D → Type 0
  Finding l k a = a ≡ lookup k l

  -- next answers the first part above k, or none
  abbrev pub Showing : List (Part K D) → Option K → Option (Part K D) → Type 0
  Showing l k a = a ≡ above k l

  -- what that is, where t says of each key what is fitted: the part with the smallest key above
  -- k, or none where nothing above k is fitted
  abbrev pub Smallest : (K → Option D) → Option K → Option (Part K D) → Type 0
  Smallest t k None = (q : K) → Over cmp k q → t q ≡ None
  Smallest t k (Some p) = Over cmp k p.key × (t p.key ≡ Some p.details) × ((q : K) → Over cmp k q → cmp q p.key ≡ Less → t q ≡ None)

  -- l rises, has each part that t says is fitted, once, and nothing else
  abbrev pub Shows : List (Part K D) → (K → Option D) → Type 0
  Shows l t = Rising l × ((k : K) → lookup k l ≡ t k)

  -- k with the details d, in the place of its old details or at its place in the order
  abbrev pub put : K → D → List (Part K D) → List (Part K D)
  put k d [] = part k d ∷ []
  put k d (p ∷ l) = by (cmp k p.key) (part k d ∷ p ∷ l) (part k d ∷ l) (p ∷ put k d l)

  -- without k
  abbrev pub cut : K → List (Part K D) → List (Part K D)
  cut k [] = []
  cut k (p ∷ l) = by (cmp k p.key) (p ∷ l) l (p ∷ cut k l)

  -- k with the details x, or without k where there are none
  abbrev pub settle : K → Option D → List (Part K D) → List (Part K D)
  settle k (Some d) l = put k d l
  settle k None l = cut k l
