-- A walk: what is left of a list of parts above a key is shown from the first on.
use Rattle.std.proofs.Common.{◌≡◌, ◌+◌, ◌<◌, ◌≤◌, List, [], ◌∷◌, length, Some, None, Option, Ordering, Less, sym, refl, ap, ◌∙◌, subst, arith}
use Rattle.std.proofs.lemmas.Option.{none-some}
use Rattle.model.specs.declared.part.Part.{Part}
use Rattle.model.specs.Orders.{Lawful}
use Rattle.model.specs.Parts.{AllAbove, Is, Over, Rising, above, beyond, lookup}
use Rattle.model.proofs.Lists.{which, self, less_turned, absent, lower}
use Rattle.model.proofs.Lists.Which.{less, same, greater}

module _ {K D : Type 0} (cmp : K → K → Ordering) where
  -- where nothing is shown, nothing is left
  pub beyond_end : (k : Option K) (l : List (Part K D)) → None ≡ above cmp k l → beyond cmp k l ≡ []
  beyond_end None [] e = refl
  beyond_end None (p ∷ l) e = absurd (none-some _ e)
  beyond_end (Some k) [] e = refl
  beyond_end (Some k) (p ∷ l) e =
      elim (which (cmp k p.key)) [
        | less o ↦ absurd (none-some _ (rw o at e))
        | same o ↦ rw o (beyond_end (Some k) l (rw o at e))
        | greater o ↦ rw o (beyond_end (Some k) l (rw o at e))
      ]

  beyond_all : (k : K) (l : List (Part K D)) → AllAbove cmp k l → beyond cmp (Some k) l ≡ l
  beyond_all k [] h = refl
  beyond_all k (p ∷ l) h = rw h.0

  shown_above : (a : K) (k : Option K) (l : List (Part K D)) (p : Part K D) → AllAbove cmp a l → Some p ≡ above cmp k l → cmp a p.key ≡ Less
  shown_above a None [] p h e = absurd (none-some _ (sym e))
  shown_above a None (x ∷ l) p h e = let same : p ≡ x = cc in rw same h.0
  shown_above a (Some k) [] p h e = absurd (none-some _ (sym e))
  shown_above a (Some k) (x ∷ l) p h e =
      elim (which (cmp k x.key)) [
        | less o ↦
            let shown : ◌≡◌ {A = Option (Part K D)} (Some p) (Some x) = rw o at e in
            let same : p ≡ x = cc in
            rw same h.0
        | same o ↦ shown_above a (Some k) l p h.1 (rw o at e)
        | greater o ↦ shown_above a (Some k) l p h.1 (rw o at e)
      ]

module _ {K : Type 0} (cmp : K → K → Ordering) (laws : Lawful cmp) where
  pub over_trans : (k : Option K) (j q : K) → Over cmp k j → cmp j q ≡ Less → Over cmp k q
  over_trans None j q o e = tt
  over_trans (Some k) j q o e = laws.trans k j q o e

module _ {K D : Type 0} (cmp : K → K → Ordering) (laws : Lawful cmp) where
  first_left : (x : Part K D) (l : List (Part K D)) → Rising cmp (x ∷ l) → beyond cmp (Some x.key) (x ∷ l) ≡ l
  first_left x l h = rw (self cmp laws x.key) (beyond_all cmp x.key l h.0)

  shown_first : (x p : Part K D) (l : List (Part K D)) → Rising cmp (x ∷ l) → p ≡ x → x ∷ l ≡ p ∷ beyond cmp (Some p.key) (x ∷ l)
  shown_first x p l h e = subst (λ (y : Part K D). x ∷ l ≡ y ∷ beyond cmp (Some y.key) (x ∷ l)) (sym e) (ap {B = List (Part K D)} (λ t. x ∷ t) (sym (first_left x l h)))

  -- what is left begins with the part that is shown, and goes on above it
  pub beyond_next : (k : Option K) (l : List (Part K D)) (p : Part K D) → Rising cmp l → Some p ≡ above cmp k l → beyond cmp k l ≡ p ∷ beyond cmp (Some p.key) l
  beyond_next None [] p h e = absurd (none-some _ (sym e))
  beyond_next None (x ∷ l) p h e = let same : p ≡ x = cc in shown_first x p l h same
  beyond_next (Some k) [] p h e = absurd (none-some _ (sym e))
  beyond_next (Some k) (x ∷ l) p h e =
      let later : beyond cmp (Some k) l ≡ p ∷ beyond cmp (Some p.key) l → cmp x.key p.key ≡ Less → beyond cmp (Some k) l ≡ p ∷ beyond cmp (Some p.key) (x ∷ l) =
      λ r b. rw (less_turned cmp laws x.key p.key b) r in
      elim (which (cmp k x.key)) [
        | less o ↦
            let shown : ◌≡◌ {A = Option (Part K D)} (Some p) (Some x) = rw o at e in
            let same : p ≡ x = cc in
            rw o (shown_first x p l h same)
        | same o ↦ rw o (later (beyond_next (Some k) l p h.1 (rw o at e)) (shown_above cmp x.key (Some k) l p h.0 (rw o at e)))
        | greater o ↦ rw o (later (beyond_next (Some k) l p h.1 (rw o at e)) (shown_above cmp x.key (Some k) l p h.0 (rw o at e)))
      ]

  -- what is left tells what is shown next, and what is left then
  pub beyond_first : (k : Option K) (l t : List (Part K D)) (p : Part K D) → Rising cmp l → beyond cmp k l ≡ p ∷ t → (Some p ≡ above cmp k l) × (t ≡ beyond cmp (Some p.key) l)
  beyond_first k l t p h e = by (above cmp k l) refl
    where
      by : (r : Option (Part K D)) → r ≡ above cmp k l → (Some p ≡ above cmp k l) × (t ≡ beyond cmp (Some p.key) l)
      by None f = (let never : ◌≡◌ {A = List (Part K D)} [] (p ∷ t) = sym (beyond_end cmp k l f) ∙ e in cc)
      by (Some q) f =
          let both : p ∷ t ≡ q ∷ beyond cmp (Some q.key) l = sym e ∙ beyond_next k l q h f in
          let first : p ≡ q = cc in
          let rest : t ≡ beyond cmp (Some q.key) l = cc in
          rw first (f, rest)

  pub beyond_none : (k : Option K) (l : List (Part K D)) → Rising cmp l → beyond cmp k l ≡ [] → None ≡ above cmp k l
  beyond_none k l h e = by (above cmp k l) refl
    where
      by : (r : Option (Part K D)) → r ≡ above cmp k l → None ≡ above cmp k l
      by None f = f
      by (Some q) f = (let never : ◌≡◌ {A = List (Part K D)} [] (q ∷ beyond cmp (Some q.key) l) = sym e ∙ beyond_next k l q h f in cc)

  -- ---- above a later key there is less

  beyond_short : (k : Option K) (l : List (Part K D)) → length (beyond cmp k l) ≤ length l
  beyond_short None l = omega arith
  beyond_short (Some k) [] = omega arith
  beyond_short (Some k) (p ∷ l) =
      elim (which (cmp k p.key)) [
        | less o ↦ rw o (omega arith)
        | same o ↦ rw o (omega (arith, beyond_short (Some k) l))
        | greater o ↦ rw o (omega (arith, beyond_short (Some k) l))
      ]

  -- whatever holds of what is left of l and of all of it, holds of what is left of p ∷ l
  either : (P : List (Part K D) → Type 0) (k : Option K) (p : Part K D) (l : List (Part K D)) → P (p ∷ l) → P (beyond cmp k l) → P (beyond cmp k (p ∷ l))
  either P None p l all left = all
  either P (Some k) p l all left =
      elim (which (cmp k p.key)) [ less o ↦ rw o all | same o ↦ rw o left | greater o ↦ rw o left ]

  over_all : (k : Option K) (p : Part K D) (l : List (Part K D)) → Over cmp k p.key → beyond cmp k (p ∷ l) ≡ p ∷ l
  over_all None p l o = refl
  over_all (Some k) p l o = rw o refl

  fewer : (k : Option K) (j : K) (l : List (Part K D)) → Over cmp k j → length (beyond cmp (Some j) l) ≤ length (beyond cmp k l)
  fewer k j [] o = let s = beyond_short k [] in omega arith
  fewer k j (p ∷ l) o =
      let later : length (beyond cmp (Some j) l) ≤ length (beyond cmp k (p ∷ l)) =
      either (λ r. length (beyond cmp (Some j) l) ≤ length r) k p l (omega (arith, beyond_short (Some j) l)) (fewer k j l o) in
      elim (which (cmp j p.key)) [
        | less e ↦ rw (e, over_all k p l (over_trans cmp laws k j p.key o e)) (omega arith)
        | same e ↦ rw e later
        | greater e ↦ rw e later
      ]

  passes : (k : Option K) (j : K) (l : List (Part K D)) → Rising cmp l → Over cmp k j → Is (lookup cmp j l) → length (beyond cmp (Some j) l) < length (beyond cmp k l)
  passes k j [] h o i = absurd i
  passes k j (p ∷ l) h o i =
      elim (which (cmp j p.key)) [
        | less e ↦ absurd (subst Is (absent cmp laws j l (lower cmp laws j p.key l e h.0)) (rw e at i))
        | same e ↦
            let above_p : Over cmp k p.key = subst (Over cmp k) (laws.only j p.key e) o in
            rw (e, over_all k p l above_p) (omega (arith, beyond_short (Some j) l))
        | greater e ↦
            rw e (either (λ r. length (beyond cmp (Some j) l) < length r) k p l (omega (arith, beyond_short (Some j) l)) (passes k j l h.1 o (rw e at i)))
      ]

  -- where one of the two has the key, fewer parts are above it
  pub answers_fall : (k : Option K) (j : K) (l m : List (Part K D)) → Rising cmp l → Rising cmp m → Over cmp k j → (lookup cmp j l ≡ lookup cmp j m → ⊥)
      → length (beyond cmp (Some j) l) + length (beyond cmp (Some j) m) < length (beyond cmp k l) + length (beyond cmp k m)
  answers_fall k j l m h g o n = by (lookup cmp j l) (lookup cmp j m) refl refl
    where
      by : (x y : Option D) → lookup cmp j l ≡ x → lookup cmp j m ≡ y → length (beyond cmp (Some j) l) + length (beyond cmp (Some j) m) < length (beyond cmp k l) + length (beyond cmp k m)
      by None None e f = absurd (n (e ∙ sym f))
      by (Some d) y e f = let a = passes k j l h o (rw e tt) in let b = fewer k j m o in omega arith
      by None (Some d) e f = let a = fewer k j l o in let b = passes k j m g o (rw f tt) in omega arith
