-- Layers over an inventory, and the relations that their calls keep. Contracts of code cite these relations, and runs
-- are made of them.
use Rattle.std.specs.Prelude.{◌≡◌, ℕ, suc, ◌≤◌, ◌⊎◌, List, [], ◌∷◌, ◌++◌, length, Some, None, Ok, Err, Option, Result, ◌≢◌}
use Rattle.std.specs.declared.cmp.Ordering.{Ordering}
use Rattle.der.specs.declared.refusal.Refusal.{Refusal}
use Rattle.der.specs.declared.refusal.Reason.{Reason}
use Rattle.der.specs.declared.refusal.Reason.TheVariants.{ClaimOut, NotHead, AlreadyFitted, NotFitted, TooManyKeys, TooManyParts, ClaimVoid, NamedTwice}
use Rattle.model.specs.declared.part.Part.{Part}
use Rattle.model.specs.declared.part.Change.{Change}
use Rattle.model.specs.declared.part.Memory.{Memory}
use Rattle.model.specs.declared.part.Status.TheVariants.{Added}
use Rattle.model.specs.Orders.{if_same}
use Rattle.model.specs.Parts.{Is, lookup, settle, most_parts}
use Rattle.model.specs.Changes.{said, applied_all}

-- the most keys that a layer remembers
abbrev pub most_keys : ℕ
most_keys = 64

-- what a certified inventory means: its parts, and the head, which is an issuer and a serial
pub record Meaning (K D H : Type 0) : Type 0 where
  pub parts : List (Part K D)
  pub head : H

-- a delta: the certificate that it follows, its own issuer and serial, its changes in order
pub record Delta (K D H : Type 0) : Type 0 where
  pub holder : H
  pub own : H
  pub changes : List (Change K D)

-- a layer: its number, what it took over, the keys it remembers, its head, and what is kept aside while a claim is out
pub record Layer (K D H : Type 0) : Type 0 where
  pub number : ℕ
  pub base : Meaning K D H
  pub remembered : List (Memory K D)
  pub head : H
  pub aside : Option (Delta K D H)

-- what a call demands, and the refusal where it is not met
pub record Demand : Type 1 where
  pub refusal : Refusal
  pub met : Type 0

-- a demand, of the refusal's reason and place
abbrev pub demand : Reason → ℕ → Type 0 → Demand
demand why at what = record { refusal = record { reason = why; place = at }; met = what }

-- demands stand in the order in which they are tried: all of them are met
abbrev pub AllMet : List Demand → Type 0
AllMet [] = Unit {0}
AllMet (d ∷ ds) = d.met × AllMet ds

-- r is the refusal of the first demand that is not met
abbrev pub FirstUnmet : List Demand → Refusal → Type 0
FirstUnmet [] r = ⊥
FirstUnmet (d ∷ ds) r = ((d.met → ⊥) × (r ≡ d.refusal)) ⊎ (d.met × FirstUnmet ds r)

module _ {K D H : Type 0} where
  -- head answers the head
  abbrev pub Heading : Meaning K D H → H → Type 0
  Heading m a = a ≡ m.head

  -- a fresh layer with a number, over what it takes over
  abbrev pub Laying : ℕ → Meaning K D H → Layer K D H → Type 0
  Laying n m s = s ≡ record { number = n; base = m; remembered = []; head = m.head; aside = None }

  -- the layer with something else kept aside
  abbrev pub keeping : Layer K D H → Option (Delta K D H) → Layer K D H
  keeping s x = record { number = s.number; base = s.base; remembered = s.remembered; head = s.head; aside = x }

  -- a claim that bears n cannot be spent here: it bears another number, or nothing is staged
  abbrev pub Void : Layer K D H → ℕ → Refusal → Type 0
  Void s n r = ((n ≢ s.number) ⊎ (s.aside ≡ None)) × (r ≡ record { reason = ClaimVoid; place = 0 })

  -- a claim that bears n is spent, and `after` says of the delta kept aside which layer it leaves; or the claim cannot be
  -- spent, and nothing changes
  abbrev pub Spending : (Delta K D H → Layer K D H) → Layer K D H → ℕ → Result (Unit {0}) Refusal → Layer K D H → Type 0
  Spending after s n (Ok u) t = (n ≡ s.number) × ((δ : Delta K D H) × (s.aside ≡ Some δ) × (t ≡ after δ))
  Spending after s n (Err r) t = Void s n r × (t ≡ s)

  -- withdrawing: what was kept aside is forgotten
  abbrev pub Withdrawing : Layer K D H → ℕ → Result (Unit {0}) Refusal → Layer K D H → Type 0
  Withdrawing s n a t = Spending (λ δ. keeping s None) s n a t

module _ {K D : Type 0} where
  -- one of the changes names k
  abbrev pub Named : K → List (Change K D) → Type 0
  Named k [] = ⊥
  Named k (c ∷ cs) = (k ≡ c.key) ⊎ Named k cs

module _ {K D : Type 0} (cmp : K → K → Ordering) where
  -- what is remembered, with a key's state replaced or added
  abbrev pub remember : K → Option D → List (Memory K D) → List (Memory K D)
  remember k x [] = record { key = k; state = x } ∷ []
  remember k x (m ∷ ms) = if_same (cmp k m.key) (record { key = k; state = x } ∷ ms) (m ∷ remember k x ms)

  -- after all changes, in their order
  abbrev pub remember_all : List (Change K D) → List (Memory K D) → List (Memory K D)
  remember_all [] ms = ms
  remember_all (c ∷ cs) ms = remember_all cs (remember c.key (said c) ms)

  -- what is remembered, laid over some parts
  abbrev pub overlaid : List (Memory K D) → List (Part K D) → List (Part K D)
  overlaid [] l = l
  overlaid (m ∷ ms) l = settle cmp m.key m.state (overlaid ms l)

  -- what staging demands of the changes from number i on, behind those `earlier`, over the parts l
  abbrev pub change_demands : List (Part K D) → ℕ → List (Change K D) → List (Change K D) → List Demand
  change_demands l i earlier [] = []
  change_demands l i earlier (c ∷ cs) =
      demand NamedTwice i (Named c.key earlier → ⊥)
      ∷ demand AlreadyFitted i (c.status ≡ Added → lookup cmp c.key l ≡ None)
      ∷ demand NotFitted i ((c.status ≢ Added) → Is (lookup cmp c.key l))
      ∷ change_demands l (suc i) (c ∷ earlier) cs

module _ {K D H : Type 0} (cmp : K → K → Ordering) where
  -- what a layer means
  abbrev pub meaning : Layer K D H → Meaning K D H
  meaning s = record { parts = overlaid cmp s.remembered s.base.parts; head = s.head }

  -- what staging demands, in the order in which it is tried
  abbrev pub staging_demands : Layer K D H → Delta K D H → List Demand
  staging_demands s δ =
      demand ClaimOut 0 (s.aside ≡ None)
      ∷ demand NotHead 0 (δ.holder ≡ s.head)
      ∷ (change_demands cmp (meaning s).parts 0 [] δ.changes
      ++ (demand TooManyKeys 0 (length (remember_all cmp δ.changes s.remembered) ≤ most_keys)
      ∷ demand TooManyParts 0 (length (applied_all cmp δ.changes (meaning s).parts) ≤ most_parts)
      ∷ []))

  -- staging: a claim that bears the layer's number, and the delta is kept aside; or the first refusal, and nothing changes
  abbrev pub Staging : Layer K D H → Delta K D H → Result ℕ Refusal → Layer K D H → Type 0
  Staging s δ (Ok n) t = AllMet (staging_demands s δ) × (n ≡ s.number) × (t ≡ keeping s (Some δ))
  Staging s δ (Err r) t = FirstUnmet (staging_demands s δ) r × (t ≡ s)

  -- the layer with a delta booked
  abbrev pub with_booked : Layer K D H → Delta K D H → Layer K D H
  with_booked s δ = record { number = s.number; base = s.base; remembered = remember_all cmp δ.changes s.remembered; head = δ.own; aside = None }

  -- booking: the delta that was kept aside is booked
  abbrev pub Booking : Layer K D H → ℕ → Result (Unit {0}) Refusal → Layer K D H → Type 0
  Booking s n a t = Spending (with_booked s) s n a t
