-- A scan of parts from the front: l is the part p and then m, and a is what is sought among all parts.
use Rattle.std.proofs.Common.{◌≡◌, List, ◌∷◌, Some, None, Option, Ordering, Equal, sym, ap, ◌∙◌}
use Rattle.model.specs.declared.part.Part.{Part}
use Rattle.model.specs.Orders.{by, if_same}
use Rattle.model.specs.Parts.{Over, lookup, above}
use Rattle.model.proofs.Lists.{if_same_other, by_past}

module _ {K D : Type 0} (cmp : K → K → Ordering) where
  pub lookup_here : (k : K) (l m : List (Part K D)) (p : Part K D) (a : Option D) → l ≡ p ∷ m → cmp k p.key ≡ Equal → lookup cmp k l ≡ a → Some p.details ≡ a
  lookup_here k l m p a d same inv = sym (ap (lookup cmp k) d ∙ ap (λ (o : Ordering). if_same o (Some p.details) (lookup cmp k m)) same) ∙ inv

  pub lookup_past : (k : K) (l m : List (Part K D)) (p : Part K D) (a : Option D) → l ≡ p ∷ m → (cmp k p.key ≡ Equal → ⊥) → lookup cmp k l ≡ a → lookup cmp k m ≡ a
  lookup_past k l m p a d other inv = sym (ap (lookup cmp k) d ∙ if_same_other (cmp k p.key) (Some p.details) (lookup cmp k m) other) ∙ inv

  pub above_here : (q : Option K) (l m : List (Part K D)) (p : Part K D) (a : Option (Part K D)) → l ≡ p ∷ m → Over cmp q p.key → above cmp q l ≡ a → Some p ≡ a
  above_here None l m p a d over inv = sym (ap (above cmp None) d) ∙ inv
  above_here (Some k) l m p a d over inv =
      let rest : Option (Part K D) = above cmp (Some k) m in
      sym (ap (above cmp (Some k)) d ∙ ap (λ (o : Ordering). by o (Some p) rest rest) over) ∙ inv

  pub above_past : (q : Option K) (l m : List (Part K D)) (p : Part K D) (a : Option (Part K D)) → l ≡ p ∷ m → (Over cmp q p.key → ⊥) → above cmp q l ≡ a → above cmp q m ≡ a
  above_past None l m p a d under inv = absurd (under tt)
  above_past (Some k) l m p a d under inv = sym (ap (above cmp (Some k)) d ∙ by_past (cmp k p.key) (Some p) (above cmp (Some k) m) under) ∙ inv
