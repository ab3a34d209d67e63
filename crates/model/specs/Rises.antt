-- `Rising` as a test, for an invariant of a type.
use Rattle.std.specs.Prelude.{Bool, true, ◌&&◌, List, [], ◌∷◌}
use Rattle.std.specs.declared.cmp.Ordering.{Ordering}
use Rattle.std.specs.Ordering.{is_lt}
use Rattle.model.specs.declared.part.Part.{Part}

module _ {K D : Type 0} (cmp : K → K → Ordering) where
  -- every part of l has a key above k
  abbrev pub all_above : K → List (Part K D) → Bool
  all_above k [] = true
  all_above k (p ∷ l) = is_lt (cmp k p.key) && all_above k l

  -- each part has a key above those before it
  abbrev pub rises : List (Part K D) → Bool
  rises [] = true
  rises (p ∷ l) = all_above p.key l && rises l
