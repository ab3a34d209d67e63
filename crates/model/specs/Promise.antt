-- What is promised: the history alone settles every answer of a pile, and every staging has exactly one answer.
use Rattle.std.specs.Prelude.{◌≡◌, ℕ, ◌+◌, ◌≤◌, ◌⊎◌, ◌↔◌, List, [], ◌∷◌, length, None, Option, ◌≢◌}
use Rattle.std.specs.declared.cmp.Ordering.{Ordering}
use Rattle.model.specs.declared.part.Part.{Part}
use Rattle.model.specs.Orders.{Lawful}
use Rattle.model.specs.Parts.{IsInventory, Smallest, Shows, most_parts}
use Rattle.model.specs.Changes.{additions, removals, keys_named}
use Rattle.model.specs.Layers.{Meaning, Delta, Layer, Staging, Booking, Withdrawing, most_keys}
use Rattle.model.specs.Histories.{Event, deeds, booked_in, changes_of, last_head, Chained, stagings_in, bookings_in, withdrawals_in, claims_out, booked_deltas, booked_changes, walked, told, Run}
use Rattle.model.specs.Histories.Event.{found, shown, counted, headed}

module _ {K D H : Type 0} (cmp : K → K → Ordering) where
  -- What the history h alone settles of the pile p over the bottom. Each question has exactly one answer: a run that
  -- ends with the question and an answer is one, exactly where the answer is what the history says.
  pub record Settled (bottom : Meaning K D H) (h : List (Event K D H)) (p : List (Layer K D H)) : Type 0 where
    -- find: what the latest booked change naming the key says, else what the bottom says
    pub find : (k : K) (a : Option D) → Run cmp bottom (found k a ∷ h) p ↔ (a ≡ told cmp bottom h k)
    -- next: the fitted part with the smallest key above, or none
    pub next : (k : Option K) (a : Option (Part K D)) → Run cmp bottom (shown k a ∷ h) p ↔ Smallest cmp (told cmp bottom h) k a
    -- walking shows each fitted part once, rising, and nothing else; and it ends, having shown as many as count says
    pub walk : (l : List (Part K D)) → Run cmp bottom (walked None l h) p ↔ Shows cmp l (told cmp bottom h)
    pub ends : (l : List (Part K D)) × Run cmp bottom (walked None l h) p × Run cmp bottom (counted (length l) ∷ h) p
    -- count: the bottom's, plus the booked additions, minus the booked removals; never more than an inventory may have
    pub count : (n : ℕ) → Run cmp bottom (counted n ∷ h) p ↔ (n + removals (booked_changes h) ≡ length bottom.parts + additions (booked_changes h))
    pub bounded : (n : ℕ) → Run cmp bottom (counted n ∷ h) p → n ≤ most_parts
    -- in each layer the accepted stagings are the bookings, the withdrawals and the claims out; one at most is out
    pub claims : (n : ℕ) → stagings_in n (deeds h) ≡ bookings_in n (deeds h) + withdrawals_in n (deeds h) + claims_out n (deeds h)
    pub one_out : (n : ℕ) → claims_out n (deeds h) ≤ 1
    -- head: that of the delta booked last, else the bottom's
    pub head : (a : H) → Run cmp bottom (headed a ∷ h) p ↔ (a ≡ last_head (booked_deltas h) bottom.head)
    -- each booked delta follows the one booked before it, and the first follows the bottom
    pub chain : Chained bottom.head (booked_deltas h)
    -- the deltas booked in a layer name no more keys than it can remember
    pub few_keys : (n : ℕ) → length (keys_named cmp (changes_of (booked_in n (deeds h))) []) ≤ most_keys

-- the history promise: for every lawful order of keys, every bottom, every history and every pile that it leads to
abbrev pub HistoryTells : Type 0 → Type 0 → Type 0 → Type 0
HistoryTells K D H =
    (cmp : K → K → Ordering) → Lawful cmp → (bottom : Meaning K D H) → IsInventory cmp bottom.parts →
    (h : List (Event K D H)) (p : List (Layer K D H)) → Run cmp bottom h p → Settled cmp bottom h p

-- a call has exactly one answer, and leaves exactly one layer
pub record OneAnswer {A L : Type 0} (call : A → L → Type 0) : Type 0 where
  pub answer : A
  pub after : L
  pub given : call answer after
  pub only : (a : A) (t : L) → call a t → (a ≡ answer) × (t ≡ after)

-- heads can be compared
abbrev pub Comparable : Type 0 → Type 0
Comparable H = (x y : H) → (x ≡ y) ⊎ (x ≢ y)

-- every staging, booking and withdrawing has exactly one answer, whatever the layer and whatever is given
pub record CallsAnswer (K D H : Type 0) (cmp : K → K → Ordering) : Type 0 where
  pub staging : (s : Layer K D H) (δ : Delta K D H) → OneAnswer (Staging cmp s δ)
  pub booking : (s : Layer K D H) (n : ℕ) → OneAnswer (Booking cmp s n)
  pub withdrawing : (s : Layer K D H) (n : ℕ) → OneAnswer (Withdrawing s n)

abbrev pub CallsDecided : Type 0 → Type 0 → Type 0 → Type 0
CallsDecided K D H = (cmp : K → K → Ordering) → Lawful cmp → Comparable H → CallsAnswer K D H cmp
