-- The laws of rising part lists.
use Rattle.std.specs.Prelude.{◌≡◌, suc, List, [], ◌∷◌, length, Some, None, Option, ◌≢◌}
use Rattle.std.specs.declared.cmp.Ordering.TheVariants.{Equal}
use Rattle.std.specs.declared.cmp.Ordering.{Ordering}
use Rattle.model.specs.declared.part.Part.{Part}
use Rattle.model.specs.Orders.{Lawful}
use Rattle.model.specs.Parts.{Is, Rising, Smallest, above, beyond, cut, lookup, put}

-- put and cut say what they should of every key, keep the order, and change the length by one or not at all; equal
-- answers make equal lists; next answers the smallest above; the parts above a key are what next answers, and what is
-- above that
pub record PartLaws (K D : Type 0) (cmp : K → K → Ordering) : Type 0 where
  pub put_same : (k : K) (d : D) (l : List (Part K D)) → lookup cmp k (put cmp k d l) ≡ Some d
  pub put_other : (k j : K) (d : D) (l : List (Part K D)) → (cmp k j ≢ Equal) → lookup cmp k (put cmp j d l) ≡ lookup cmp k l
  pub put_rising : (k : K) (d : D) (l : List (Part K D)) → Rising cmp l → Rising cmp (put cmp k d l)
  pub put_grows : (k : K) (d : D) (l : List (Part K D)) → lookup cmp k l ≡ None → length (put cmp k d l) ≡ suc (length l)
  pub put_keeps : (k : K) (d : D) (l : List (Part K D)) → Rising cmp l → Is (lookup cmp k l) → length (put cmp k d l) ≡ length l
  pub cut_same : (k : K) (l : List (Part K D)) → Rising cmp l → lookup cmp k (cut cmp k l) ≡ None
  pub cut_other : (k j : K) (l : List (Part K D)) → (cmp k j ≢ Equal) → lookup cmp k (cut cmp j l) ≡ lookup cmp k l
  pub cut_rising : (k : K) (l : List (Part K D)) → Rising cmp l → Rising cmp (cut cmp k l)
  pub cut_shrinks : (k : K) (l : List (Part K D)) → Rising cmp l → Is (lookup cmp k l) → suc (length (cut cmp k l)) ≡ length l
  pub cut_keeps : (k : K) (l : List (Part K D)) → lookup cmp k l ≡ None → cut cmp k l ≡ l
  pub extensional : (l m : List (Part K D)) → Rising cmp l → Rising cmp m → ((k : K) → lookup cmp k l ≡ lookup cmp k m) → l ≡ m
  pub above_smallest : (k : Option K) (l : List (Part K D)) → Rising cmp l → Smallest cmp (λ q. lookup cmp q l) k (above cmp k l)
  pub beyond_none : (k : Option K) (l : List (Part K D)) → None ≡ above cmp k l → beyond cmp k l ≡ []
  pub beyond_some : (k : Option K) (l : List (Part K D)) (p : Part K D) → Rising cmp l → Some p ≡ above cmp k l → beyond cmp k l ≡ p ∷ beyond cmp (Some p.key) l

-- under every lawful order
abbrev pub PartsLawful : Type 0 → Type 0 → Type 0
PartsLawful K D = (cmp : K → K → Ordering) → Lawful cmp → PartLaws K D cmp
