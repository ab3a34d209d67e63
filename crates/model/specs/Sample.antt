-- A history that happens, with numbers for keys, details and heads: part 2 is removed by a delta and part 3 added, a
-- delta that is older, and would bring part 2 back, is refused, and the questions answer accordingly.
use Rattle.std.specs.Prelude.{ℕ, List, [], ◌∷◌, Some, None, Ok, Err}
use Rattle.der.specs.declared.refusal.Refusal.{Refusal}
use Rattle.der.specs.declared.refusal.Reason.TheVariants.{NotHead}
use Rattle.model.specs.declared.part.Status.TheVariants.{Added, Removed}
use Rattle.model.specs.Orders.{Lawful}
use Rattle.model.specs.Parts.{part, IsInventory}
use Rattle.model.specs.Layers.{Meaning, Delta, Layer}
use Rattle.model.specs.Histories.{Event, Run}
use Rattle.model.specs.Histories.Event.{laid, staged, booked, found, shown, counted, headed}
use Rattle.std.specs.Ordering.{nat_cmp}

-- two parts, and the head 1
abbrev pub delivered : Meaning ℕ ℕ ℕ
delivered = record { parts = part 2 20 ∷ part 4 40 ∷ []; head = 1 }

-- it follows the head 1, removes part 2 and adds part 3
abbrev pub exchange : Delta ℕ ℕ ℕ
exchange = record {
  holder = 1;
  own = 9;
  changes = record { key = 2; details = 0; status = Removed } ∷ record { key = 3; details = 30; status = Added } ∷ [];
}

-- it follows the head 1 too, and would bring part 2 back
abbrev pub older : Delta ℕ ℕ ℕ
older = record { holder = 1; own = 8; changes = record { key = 2; details = 20; status = Added } ∷ [] }

abbrev pub not_head : Refusal
not_head = record { reason = NotHead; place = 0 }

-- the latest call first
abbrev pub story : List (Event ℕ ℕ ℕ)
story =
    headed 9
    ∷ counted 2
    ∷ shown None (Some (part 3 30))
    ∷ found 2 None
    ∷ staged older (Err not_head)
    ∷ booked 7 (Ok tt)
    ∷ staged exchange (Ok 7)
    ∷ laid 7
    ∷ []

-- numbers in their order are keys, the bottom is an inventory, and the story is a run
pub record Happens : Type 0 where
  pub lawful : Lawful nat_cmp
  pub bottom : IsInventory nat_cmp delivered.parts
  pub pile : List (Layer ℕ ℕ ℕ)
  pub run : Run nat_cmp delivered story pile
