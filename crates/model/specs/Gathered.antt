-- Parts in any order, as an inventory.
use Rattle.std.specs.Prelude.{List, [], ◌∷◌, Some, None, Option}
use Rattle.std.specs.declared.cmp.Ordering.{Ordering}
use Rattle.model.specs.declared.part.Part.{Part}
use Rattle.model.specs.Orders.{by}
use Rattle.model.specs.Parts.{put}

module _ {K D : Type 0} (cmp : K → K → Ordering) where
  -- as a rising list; where a key stands twice the first counts
  abbrev pub gathered : List (Part K D) → List (Part K D)
  gathered [] = []
  gathered (p ∷ ps) = put cmp p.key p.details (gathered ps)

  -- the part where its key is above k, if there is a k
  abbrev pub over_only : Option K → Part K D → Option (Part K D)
  over_only None p = Some p
  over_only (Some k) p = by (cmp k p.key) (Some p) None None

  -- the one with the smaller key, the first of two with the same
  abbrev pub nearer : Option (Part K D) → Option (Part K D) → Option (Part K D)
  nearer None b = b
  nearer (Some p) None = Some p
  nearer (Some p) (Some q) = by (cmp p.key q.key) (Some p) (Some p) (Some q)
