-- `Rising` as a test.
use Rattle.std.proofs.Common.{◌≡◌, true, List, [], ◌∷◌, Ordering, Less, Equal, Greater, refl}
use Rattle.std.specs.Cmp.{first_so, second_so}
use Rattle.std.specs.Ordering.{is_lt}
use Rattle.model.specs.declared.part.Part.{Part}
use Rattle.model.specs.Parts.{AllAbove, Rising}
use Rattle.model.specs.Rises.{all_above, rises}

is_less : (o : Ordering) → is_lt o ≡ true → o ≡ Less
is_less Less h = refl
is_less Equal h = cc
is_less Greater h = cc

module _ {K D : Type 0} (cmp : K → K → Ordering) where
  above_told : (k : K) (l : List (Part K D)) → all_above cmp k l ≡ true → AllAbove cmp k l
  above_told k [] h = tt
  above_told k (p ∷ l) h = (is_less (cmp k p.key) (first_so _ _ h), above_told k l (second_so _ _ h))

  pub rises_told : (l : List (Part K D)) → rises cmp l ≡ true → Rising cmp l
  rises_told [] h = tt
  rises_told (p ∷ l) h = (above_told p.key l (first_so _ _ h), rises_told l (second_so _ _ h))

  above_tells : (k : K) (l : List (Part K D)) → AllAbove cmp k l → all_above cmp k l ≡ true
  above_tells k [] h = refl
  above_tells k (p ∷ l) h = rw h.0 (above_tells k l h.1)

  pub rises_tells : (l : List (Part K D)) → Rising cmp l → rises cmp l ≡ true
  rises_tells [] h = refl
  rises_tells (p ∷ l) h = rw (above_tells p.key l h.0) (rises_tells l h.1)
