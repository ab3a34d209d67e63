-- Piles of layers, the histories of their calls, and what a history alone says. A history has its latest call first.
use Rattle.std.specs.Prelude.{◌≡◌, ℕ, suc, pred, cond, List, [], ◌∷◌, ◌++◌, Some, None, Ok, Err, Option, Result, ◌==◌, ◌≢◌}
use Rattle.std.specs.declared.cmp.Ordering.{Ordering}
use Rattle.der.specs.declared.refusal.Refusal.{Refusal}
use Rattle.model.specs.declared.part.Part.{Part}
use Rattle.model.specs.declared.part.Change.{Change}
use Rattle.model.specs.Parts.{lookup, Finding, Showing, Counting}
use Rattle.model.specs.Changes.{said_or, latest}
use Rattle.model.specs.Layers.{Meaning, Delta, Layer, meaning, Heading, Laying, Staging, Booking, Withdrawing}

-- a call, with what it was given and what it answered
pub data Event (K D H : Type 0) : Type 0 where
  laid : ℕ → Event K D H
  staged : Delta K D H → Result ℕ Refusal → Event K D H
  booked : ℕ → Result (Unit {0}) Refusal → Event K D H
  withdrawn : ℕ → Result (Unit {0}) Refusal → Event K D H
  found : K → Option D → Event K D H
  shown : Option K → Option (Part K D) → Event K D H
  counted : ℕ → Event K D H
  headed : H → Event K D H

-- what an accepted call did: it gave a claim that bears a layer's number, or spent one
pub data Deed (K D H : Type 0) : Type 0 where
  gave : ℕ → Delta K D H → Deed K D H
  spent_booking : ℕ → Deed K D H
  spent_withdrawing : ℕ → Deed K D H

-- one more, where n is m
abbrev pub one : ℕ → ℕ → ℕ → ℕ
one n m x = cond (n == m) (suc x) x

module _ {K D H : Type 0} where
  -- what the accepted calls of a history did, the latest first
  abbrev pub deeds : List (Event K D H) → List (Deed K D H)
  deeds [] = []
  deeds (laid n ∷ h) = deeds h
  deeds (staged δ (Ok n) ∷ h) = gave n δ ∷ deeds h
  deeds (staged δ (Err r) ∷ h) = deeds h
  deeds (booked n (Ok u) ∷ h) = spent_booking n ∷ deeds h
  deeds (booked n (Err r) ∷ h) = deeds h
  deeds (withdrawn n (Ok u) ∷ h) = spent_withdrawing n ∷ deeds h
  deeds (withdrawn n (Err r) ∷ h) = deeds h
  deeds (found k a ∷ h) = deeds h
  deeds (shown k a ∷ h) = deeds h
  deeds (counted a ∷ h) = deeds h
  deeds (headed a ∷ h) = deeds h

  -- the delta of the last accepted staging in the layer n
  abbrev pub last_staged : ℕ → List (Deed K D H) → Option (Delta K D H)
  last_staged n [] = None
  last_staged n (gave m δ ∷ ds) = cond (n == m) (Some δ) (last_staged n ds)
  last_staged n (spent_booking m ∷ ds) = last_staged n ds
  last_staged n (spent_withdrawing m ∷ ds) = last_staged n ds

  -- the delta, if there is one, as a list
  abbrev pub alone : Option (Delta K D H) → List (Delta K D H)
  alone None = []
  alone (Some δ) = δ ∷ []

  -- the booked deltas, in the order of their bookings: a booking books the delta of its layer's last accepted staging
  abbrev pub bookings : List (Deed K D H) → List (Delta K D H)
  bookings [] = []
  bookings (gave m δ ∷ ds) = bookings ds
  bookings (spent_booking m ∷ ds) = bookings ds ++ alone (last_staged m ds)
  bookings (spent_withdrawing m ∷ ds) = bookings ds

  -- those booked in the layer n
  abbrev pub booked_in : ℕ → List (Deed K D H) → List (Delta K D H)
  booked_in n [] = []
  booked_in n (gave m δ ∷ ds) = booked_in n ds
  booked_in n (spent_booking m ∷ ds) = cond (n == m) (booked_in n ds ++ alone (last_staged m ds)) (booked_in n ds)
  booked_in n (spent_withdrawing m ∷ ds) = booked_in n ds

  -- all changes of some deltas, in order
  abbrev pub changes_of : List (Delta K D H) → List (Change K D)
  changes_of [] = []
  changes_of (δ ∷ δs) = δ.changes ++ changes_of δs

  -- the head of the delta booked last, else x
  abbrev pub last_head : List (Delta K D H) → H → H
  last_head [] x = x
  last_head (δ ∷ δs) x = last_head δs δ.own

  -- each delta follows the one before it, and the first follows x
  abbrev pub Chained : H → List (Delta K D H) → Type 0
  Chained x [] = Unit {0}
  Chained x (δ ∷ δs) = (δ.holder ≡ x) × Chained δ.own δs

  -- how many stagings the layer n accepted
  abbrev pub stagings_in : ℕ → List (Deed K D H) → ℕ
  stagings_in n [] = 0
  stagings_in n (gave m δ ∷ ds) = one n m (stagings_in n ds)
  stagings_in n (spent_booking m ∷ ds) = stagings_in n ds
  stagings_in n (spent_withdrawing m ∷ ds) = stagings_in n ds

  -- how many bookings
  abbrev pub bookings_in : ℕ → List (Deed K D H) → ℕ
  bookings_in n [] = 0
  bookings_in n (gave m δ ∷ ds) = bookings_in n ds
  bookings_in n (spent_booking m ∷ ds) = one n m (bookings_in n ds)
  bookings_in n (spent_withdrawing m ∷ ds) = bookings_in n ds

  -- how many withdrawals
  abbrev pub withdrawals_in : ℕ → List (Deed K D H) → ℕ
  withdrawals_in n [] = 0
  withdrawals_in n (gave m δ ∷ ds) = withdrawals_in n ds
  withdrawals_in n (spent_booking m ∷ ds) = withdrawals_in n ds
  withdrawals_in n (spent_withdrawing m ∷ ds) = one n m (withdrawals_in n ds)

  -- how many claims of the layer n are out: a staging gives one, and a booking or a withdrawal there spends one
  abbrev pub claims_out : ℕ → List (Deed K D H) → ℕ
  claims_out n [] = 0
  claims_out n (gave m δ ∷ ds) = one n m (claims_out n ds)
  claims_out n (spent_booking m ∷ ds) = cond (n == m) (pred (claims_out n ds)) (claims_out n ds)
  claims_out n (spent_withdrawing m ∷ ds) = cond (n == m) (pred (claims_out n ds)) (claims_out n ds)

  -- the deltas that the history booked, in the order of their bookings
  abbrev pub booked_deltas : List (Event K D H) → List (Delta K D H)
  booked_deltas h = bookings (deeds h)

  -- and their changes
  abbrev pub booked_changes : List (Event K D H) → List (Change K D)
  booked_changes h = changes_of (booked_deltas h)

  -- a walk from k on that shows the parts l and then none, before the history h
  abbrev pub walked : Option K → List (Part K D) → List (Event K D H) → List (Event K D H)
  walked k [] h = shown k None ∷ h
  walked k (p ∷ l) h = walked (Some p.key) l (shown k (Some p) ∷ h)

module _ {K D H : Type 0} where
  -- no layer has the number n
  abbrev pub Fresh : ℕ → List (Layer K D H) → Type 0
  Fresh n [] = Unit {0}
  Fresh n (s ∷ below) = (n ≢ s.number) × Fresh n below

  -- a call goes to the topmost layer, and changes nothing below it
  abbrev pub AtTop : (Layer K D H → Layer K D H → Type 0) → List (Layer K D H) → List (Layer K D H) → Type 0
  AtTop R [] q = ⊥
  AtTop R (s ∷ below) q = (t : Layer K D H) × R s t × (q ≡ t ∷ below)

module _ {K D H : Type 0} (cmp : K → K → Ordering) where
  -- what the latest booked change that names k says, else what the bottom says
  abbrev pub told : Meaning K D H → List (Event K D H) → K → Option D
  told bottom h k = said_or (latest cmp k (booked_changes h)) (lookup cmp k bottom.parts)

  -- what a pile means, which is the list of the layers over a bottom, the topmost first: what the topmost means
  abbrev pub top : Meaning K D H → List (Layer K D H) → Meaning K D H
  top bottom [] = bottom
  top bottom (s ∷ below) = meaning cmp s

  -- a call leads from one pile to another; no two layers share a number
  abbrev pub Step : Meaning K D H → Event K D H → List (Layer K D H) → List (Layer K D H) → Type 0
  Step bottom (laid n) p q = Fresh n p × ((s : Layer K D H) × Laying n (top bottom p) s × (q ≡ s ∷ p))
  Step bottom (staged δ a) p q = AtTop (λ s t. Staging cmp s δ a t) p q
  Step bottom (booked n a) p q = AtTop (λ s t. Booking cmp s n a t) p q
  Step bottom (withdrawn n a) p q = AtTop (λ s t. Withdrawing s n a t) p q
  Step bottom (found k a) p q = Finding cmp (top bottom p).parts k a × (q ≡ p)
  Step bottom (shown k a) p q = Showing cmp (top bottom p).parts k a × (q ≡ p)
  Step bottom (counted a) p q = Counting (top bottom p).parts a × (q ≡ p)
  Step bottom (headed a) p q = Heading (top bottom p) a × (q ≡ p)

  -- a pile is made as its bottom alone; then come calls
  pub data Run (bottom : Meaning K D H) : List (Event K D H) → List (Layer K D H) → Type 0 where
    made : Run bottom [] []
    called : {h : List (Event K D H)} {p q : List (Layer K D H)} {e : Event K D H} → Run bottom h p → Step bottom e p q → Run bottom (e ∷ h) q
