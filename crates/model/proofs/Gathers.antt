-- Parts in any order, gathered into a rising list.
use Rattle.std.proofs.Common.{◌≡◌, List, [], ◌∷◌, Some, None, Option, Ordering, Less, Equal, Greater, sym, refl, ap, ◌∙◌}
use Rattle.model.specs.declared.part.Part.{Part}
use Rattle.model.specs.Orders.{Lawful, if_same}
use Rattle.model.specs.Parts.{Rising, Over, lookup, above, Smallest}
use Rattle.model.specs.Gathered.{gathered, over_only, nearer}
use Rattle.model.proofs.Lists.{which, less, same, greater, Less≢Equal, Less≢Greater, if_same_other, self, less_turned, greater_turned, put_rising, settled, smallest_of, smallest_one, above_smallest}

module _ {K D : Type 0} (cmp : K → K → Ordering) (laws : Lawful cmp) where
  pub gathered_rising : (ps : List (Part K D)) → Rising cmp (gathered cmp ps)
  gathered_rising [] = tt
  gathered_rising (p ∷ ps) = put_rising cmp laws p.key p.details (gathered cmp ps) (gathered_rising ps)

  -- the first part with a key is found
  pub gathered_told : (q : K) (p : Part K D) (ps : List (Part K D)) → lookup cmp q (gathered cmp (p ∷ ps)) ≡ if_same (cmp q p.key) (Some p.details) (lookup cmp q (gathered cmp ps))
  gathered_told q p ps = settled cmp laws q p.key (Some p.details) (gathered cmp ps) (gathered_rising ps)

  other : (q : K) (p : Part K D) (ps : List (Part K D)) → (cmp q p.key ≡ Equal → ⊥) → lookup cmp q (gathered cmp ps) ≡ lookup cmp q (gathered cmp (p ∷ ps))
  other q p ps n = sym (gathered_told q p ps ∙ if_same_other (cmp q p.key) _ _ n)

  own : (p : Part K D) (ps : List (Part K D)) → lookup cmp p.key (gathered cmp (p ∷ ps)) ≡ Some p.details
  own p ps = gathered_told p.key p ps ∙ ap (λ (o : Ordering). if_same o (Some p.details) (lookup cmp p.key (gathered cmp ps))) (self cmp laws p.key)

  -- one more part that is above k
  with_over : (k : Option K) (p : Part K D) (ps : List (Part K D)) (b : Option (Part K D)) → Over cmp k p.key → Smallest cmp (λ q. lookup cmp q (gathered cmp ps)) k b → Smallest cmp (λ q. lookup cmp q (gathered cmp (p ∷ ps))) k (nearer cmp (Some p) b)
  with_over k p ps None o s = (o, own p ps, λ q u l. sym (other q p ps (Less≢Equal l)) ∙ s q u)
  with_over k p ps (Some r) o s =
      elim (which (cmp p.key r.key)) [
        | less e ↦ rw e ((o, own p ps, λ q u l. sym (other q p ps (Less≢Equal l)) ∙ s.2 q u (laws.trans q p.key r.key l e)))
        | same e ↦ rw e ((o, own p ps, λ q u l. sym (other q p ps (Less≢Equal l)) ∙ s.2 q u (rw (laws.only p.key r.key e) at l)))
        | greater e ↦
            let t : cmp r.key p.key ≡ Less = greater_turned cmp laws p.key r.key e in
            rw e ((s.0, sym (other r.key p ps (Less≢Equal t)) ∙ s.1, λ q u l. sym (other q p ps (Less≢Equal (laws.trans q r.key p.key l t))) ∙ s.2 q u l))
      ]

  -- one more part that is not
  without : (k : K) (p : Part K D) (ps : List (Part K D)) (b : Option (Part K D)) → (cmp k p.key ≡ Less → ⊥) → Smallest cmp (λ q. lookup cmp q (gathered cmp ps)) (Some k) b → Smallest cmp (λ q. lookup cmp q (gathered cmp (p ∷ ps))) (Some k) b
  without k p ps b n s = smallest_of cmp laws _ _ (Some k) b (λ q u. other q p ps (λ e. n (rw (laws.only q p.key e) at u))) s

  smallest_more : (k : Option K) (p : Part K D) (ps : List (Part K D)) (b : Option (Part K D)) → Smallest cmp (λ q. lookup cmp q (gathered cmp ps)) k b → Smallest cmp (λ q. lookup cmp q (gathered cmp (p ∷ ps))) k (nearer cmp (over_only cmp k p) b)
  smallest_more None p ps b s = with_over None p ps b tt s
  smallest_more (Some k) p ps b s =
      elim (which (cmp k p.key)) [
        | less e ↦ rw e (with_over (Some k) p ps b e s)
        | same e ↦ rw e (without k p ps b (λ l. Less≢Equal l e) s)
        | greater e ↦ rw e (without k p ps b (λ l. Less≢Greater l e) s)
      ]

  -- the nearest above k is the nearer of the first, if it is above k, and the nearest of the others
  pub gathered_above : (k : Option K) (p : Part K D) (ps : List (Part K D)) → above cmp k (gathered cmp (p ∷ ps)) ≡ nearer cmp (over_only cmp k p) (above cmp k (gathered cmp ps))
  gathered_above k p ps =
      smallest_one cmp laws (λ q. lookup cmp q (gathered cmp (p ∷ ps))) k _ _ (above_smallest cmp laws k (gathered cmp (p ∷ ps)) (gathered_rising (p ∷ ps)))
      (smallest_more k p ps (above cmp k (gathered cmp ps)) (above_smallest cmp laws k (gathered cmp ps) (gathered_rising ps)))

  -- of three, whichever two are taken first
  pub nearer_assoc : (a b c : Option (Part K D)) → nearer cmp (nearer cmp a b) c ≡ nearer cmp a (nearer cmp b c)
  nearer_assoc None b c = refl
  nearer_assoc (Some p) None c = refl
  nearer_assoc (Some p) (Some q) None = elim (which (cmp p.key q.key)) [ less e ↦ rw e refl | same e ↦ rw e refl | greater e ↦ rw e refl ]
  nearer_assoc (Some p) (Some q) (Some r) =
      elim (which (cmp p.key q.key)) [
        | less e ↦ elim (which (cmp q.key r.key)) [
          | less f ↦ rw (e, f, laws.trans p.key q.key r.key e f, e) refl
          | same f ↦ (let g : cmp p.key r.key ≡ Less = rw (laws.only q.key r.key f) at e in rw (e, f, g, e) refl)
          | greater f ↦ rw (e, f) refl
        ]
        | same e ↦ elim (which (cmp q.key r.key)) [
          | less f ↦ (let g : cmp p.key r.key ≡ Less = ap (λ (k : K). cmp k r.key) (laws.only p.key q.key e) ∙ f in rw (e, f, g, e) refl)
          | same f ↦ (let g : cmp p.key r.key ≡ Equal = ap (λ (k : K). cmp k r.key) (laws.only p.key q.key e) ∙ f in rw (e, f, g, e) refl)
          | greater f ↦ rw (e, f) refl
        ]
        | greater e ↦ elim (which (cmp q.key r.key)) [
          | less f ↦ rw (e, f, e) refl
          | same f ↦ rw (e, f, e) refl
          | greater f ↦
              let u = laws.trans r.key q.key p.key (greater_turned cmp laws q.key r.key f) (greater_turned cmp laws p.key q.key e) in
              let g : cmp p.key r.key ≡ Greater = less_turned cmp laws r.key p.key u in rw (e, f, g) refl
        ]
      ]

  pub nearer_none : (a : Option (Part K D)) → nearer cmp a None ≡ a
  nearer_none None = refl
  nearer_none (Some p) = refl
