-- Keys: their fields, their making, their order.
use Rattle.std.specs.Prelude.{ℕ, Bool, cond, List, is_some, Some, None, Ok, Err, Option, Result, ◌==◌}
use Rattle.std.specs.declared.cmp.Ordering.{Ordering}
use Rattle.std.specs.Ordering.{ordering_then, nat_cmp}
use Rattle.der.specs.Refusals.{refused}
use Rattle.der.specs.declared.refusal.Refusal.{Refusal}
use Rattle.der.specs.declared.refusal.Reason.TheVariants.{BadContent, TextSize}
use Rattle.parts.specs.declared.key.Key.{Key}
use Rattle.parts.specs.declared.key.LentKey.{LentKey}
use Rattle.parts.specs.declared.key.Registry.{Registry}
use Rattle.parts.specs.declared.key.Registry.TheVariants.{Tcg, Dmtf, Pcie, Storage}
use Rattle.parts.specs.Bounds.{content, is_bounded}
use Rattle.parts.specs.Bytewise.{lexed}

-- the number of a registry
abbrev pub number_of : Registry → ℕ
number_of Tcg = 1
number_of Dmtf = 2
number_of Pcie = 3
number_of Storage = 4

-- the registry with a number, or none
abbrev pub registry_of : ℕ → Option Registry
registry_of n = cond (n == 1) (Some Tcg) (cond (n == 2) (Some Dmtf) (cond (n == 3) (Some Pcie) (cond (n == 4) (Some Storage) None)))

-- what a key says, in the order in which keys compare
pub record Fields : Type 0 where
  pub registry : ℕ
  pub class : List ℕ
  pub maker : List ℕ
  pub model : List ℕ
  pub serial : List ℕ

-- fields, of their contents
abbrev pub said : ℕ → List ℕ → List ℕ → List ℕ → List ℕ → Fields
said r c m n s = record { registry = r; class = c; maker = m; model = n; serial = s }

-- the fields of a key
abbrev pub fields_of : Key → Fields
fields_of k = said (number_of k.registry) k.class (content k.maker) (content k.model) (content k.serial)

-- the fields that stand in lent bytes
abbrev pub lent_fields : LentKey → Fields
lent_fields k = said k.registry k.class.now k.maker.now k.model.now k.serial.now

-- a text of a key has 1 to 64 bytes
abbrev pub is_text : List ℕ → Bool
is_text xs = is_bounded 1 64 xs

-- the key with such fields, or the refusal of the first faulty one at its number
abbrev pub key_of : Fields → Result Fields Refusal
key_of f =
    cond (is_some (registry_of f.registry))
    (cond (is_text f.maker)
    (cond (is_text f.model)
    (cond (is_text f.serial) (Ok f) (refused TextSize 4))
    (refused TextSize 3))
    (refused TextSize 2))
    (refused BadContent 0)

-- the fields of what was made, or its refusal
abbrev pub read : Result Key Refusal → Result Fields Refusal
read (Ok k) = Ok (fields_of k)
read (Err e) = Err e

-- by the fields in turn
abbrev pub in_turn : Fields → Fields → Ordering
in_turn a b =
    ordering_then (nat_cmp a.registry b.registry)
    (ordering_then (lexed a.class b.class)
    (ordering_then (lexed a.maker b.maker)
    (ordering_then (lexed a.model b.model)
    (lexed a.serial b.serial))))

-- the order of keys
abbrev pub order : Key → Key → Ordering
order k j = in_turn (fields_of k) (fields_of j)
