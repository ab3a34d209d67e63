-- The laws of rising part lists.
use Rattle.std.proofs.Common.{◌≡◌, suc, ◌+◌, List, [], ◌∷◌, ◌++◌, length, Some, None, Option, Ordering, Less, Equal, Greater, sym, refl, ap, ◌∙◌, subst, arith}
use Rattle.std.proofs.lemmas.Option.{none-some}
use Rattle.std.specs.Option.{option_or}
use Rattle.model.specs.declared.part.Part.{Part}
use Rattle.model.specs.declared.part.Change.{Change}
use Rattle.model.specs.declared.part.Status.{Status}
use Rattle.model.specs.Orders.{Lawful, by, if_same}
use Rattle.model.specs.Parts.{AllAbove, Is, Over, Rising, Smallest, above, cut, lookup, put, settle}
use Rattle.model.specs.Changes.{additions, adds, applied, applied_all, by_status, latest, removals, removes, said, said_or}
use Rattle.model.specs.declared.part.Status.TheVariants.{Added, Modified, Removed}

-- which of the three it is
pub data Which (o : Ordering) : Type 0 where
  less : o ≡ Less → Which o
  same : o ≡ Equal → Which o
  greater : o ≡ Greater → Which o

pub which : (o : Ordering) → Which o
which Less = less refl
which Equal = same refl
which Greater = greater refl

pub Less≢Equal : {o : Ordering} → o ≡ Less → o ≡ Equal → ⊥
Less≢Equal e f = cc

pub Greater≢Equal : {o : Ordering} → o ≡ Greater → o ≡ Equal → ⊥
Greater≢Equal e f = cc

pub Less≢Greater : {o : Ordering} → o ≡ Less → o ≡ Greater → ⊥
Less≢Greater e f = cc

-- where two keys differ, it does not matter which is above
pub if_same_other : {A : Type 0} (o : Ordering) (x y : A) → (o ≡ Equal → ⊥) → if_same o x y ≡ y
if_same_other Less x y n = refl
if_same_other Equal x y n = absurd (n refl)
if_same_other Greater x y n = refl

pub part_path : {K D : Type 0} (p q : Part K D) → p.key ≡ q.key → p.details ≡ q.details → p ≡ q
part_path p q e f = λ i. record { key = e i; details = f i }

chosen : {K D : Type 0} (x : Option (Change K D)) (o : Ordering) (c : Change K D) (y : Option D) → said_or x (if_same o (said c) y) ≡ said_or (option_or x (if_same o (Some c) None)) y
chosen (Some x) o c y = refl
chosen None Less c y = refl
chosen None Equal c y = refl
chosen None Greater c y = refl

pub by_past : {A : Type 0} (o : Ordering) (x y : A) → (o ≡ Less → ⊥) → by o x y y ≡ y
by_past Less x y n = absurd (n refl)
by_past Equal x y n = refl
by_past Greater x y n = refl

-- a change of the status s fits where x is fitted: it adds a part that is not there, or modifies or removes one that is
abbrev pub Fits : {D : Type 0} → Status → Option D → Type 0
Fits Added x = x ≡ None
Fits Modified x = Is x
Fits Removed x = Is x

module _ {K D : Type 0} (cmp : K → K → Ordering) where
  -- each change fits in its turn
  abbrev pub AllFit : List (Change K D) → List (Part K D) → Type 0
  AllFit [] l = Unit {0}
  AllFit (c ∷ cs) l = Fits c.status (lookup cmp c.key l) × AllFit cs (applied cmp c l)

  -- asked above k, then above each part just shown, m shows the parts l and then none
  abbrev pub Walks : List (Part K D) → Option K → List (Part K D) → Type 0
  Walks m k [] = None ≡ above cmp k m
  Walks m k (p ∷ l) = (Some p ≡ above cmp k m) × Walks m (Some p.key) l

module _ {K : Type 0} (cmp : K → K → Ordering) (laws : Lawful cmp) where
  pub self : (k : K) → cmp k k ≡ Equal
  self k =
      elim (which (cmp k k)) [
        | less e ↦ cc (laws.turned k k)
        | same e ↦ e
        | greater e ↦ cc (laws.turned k k)
      ]

  pub less_turned : (a b : K) → cmp a b ≡ Less → cmp b a ≡ Greater
  less_turned a b e = cc (laws.turned a b)

  pub greater_turned : (a b : K) → cmp a b ≡ Greater → cmp b a ≡ Less
  greater_turned a b e = cc (laws.turned a b)

module _ {K D : Type 0} (cmp : K → K → Ordering) (laws : Lawful cmp) where
  pub lower : (a b : K) (l : List (Part K D)) → cmp a b ≡ Less → AllAbove cmp b l → AllAbove cmp a l
  lower a b [] e h = tt
  lower a b (p ∷ l) e h = (laws.trans a b p.key e h.0, lower a b l e h.1)

  pub absent : (k : K) (l : List (Part K D)) → AllAbove cmp k l → lookup cmp k l ≡ None
  absent k [] h = refl
  absent k (p ∷ l) h = rw h.0 (absent k l h.1)

  pub here : (p : Part K D) (l : List (Part K D)) → lookup cmp p.key (p ∷ l) ≡ Some p.details
  here p l = rw (self cmp laws p.key)

  -- ---- put

  pub put_same : (k : K) (d : D) (l : List (Part K D)) → lookup cmp k (put cmp k d l) ≡ Some d
  put_same k d [] = rw (self cmp laws k)
  put_same k d (p ∷ l) =
      elim (which (cmp k p.key)) [
        | less e ↦ rw (e, self cmp laws k)
        | same e ↦ rw (e, self cmp laws k)
        | greater e ↦ rw (e, e) (put_same k d l)
      ]

  pub put_other : (k j : K) (d : D) (l : List (Part K D)) → (cmp k j ≡ Equal → ⊥) → lookup cmp k (put cmp j d l) ≡ lookup cmp k l
  put_other k j d [] n = if_same_other (cmp k j) (Some d) None n
  put_other k j d (p ∷ l) n =
      elim (which (cmp j p.key)) [
        | less e ↦ rw e (if_same_other (cmp k j) _ _ n)
        | same e ↦ rw (e, ← (laws.only j p.key e)) (if_same_other (cmp k j) _ _ n ∙ sym (if_same_other (cmp k j) _ _ n))
        | greater e ↦ rw e (ap (λ r. if_same (cmp k p.key) (Some p.details) r) (put_other k j d l n))
      ]

  pub put_above : (a k : K) (d : D) (l : List (Part K D)) → cmp a k ≡ Less → AllAbove cmp a l → AllAbove cmp a (put cmp k d l)
  put_above a k d [] e h = (e, tt)
  put_above a k d (p ∷ l) e h =
      elim (which (cmp k p.key)) [
        | less o ↦ rw o (e, h)
        | same o ↦ rw o (e, h.1)
        | greater o ↦ rw o (h.0, put_above a k d l e h.1)
      ]

  pub put_rising : (k : K) (d : D) (l : List (Part K D)) → Rising cmp l → Rising cmp (put cmp k d l)
  put_rising k d [] h = (tt, tt)
  put_rising k d (p ∷ l) h =
      elim (which (cmp k p.key)) [
        | less o ↦ rw o (((o, lower k p.key l o h.0), h))
        | same o ↦ rw o (rw (laws.only k p.key o) h)
        | greater o ↦ rw o (put_above p.key k d l (greater_turned cmp laws k p.key o) h.0, put_rising k d l h.1)
      ]

  -- ---- cut

  pub cut_same : (k : K) (l : List (Part K D)) → Rising cmp l → lookup cmp k (cut cmp k l) ≡ None
  cut_same k [] h = refl
  cut_same k (p ∷ l) h =
      elim (which (cmp k p.key)) [
        | less o ↦ rw (o, o) (absent k l (lower k p.key l o h.0))
        | same o ↦ rw o (absent k l (rw (laws.only k p.key o) h.0))
        | greater o ↦ rw (o, o) (cut_same k l h.1)
      ]

  pub cut_other : (k j : K) (l : List (Part K D)) → (cmp k j ≡ Equal → ⊥) → lookup cmp k (cut cmp j l) ≡ lookup cmp k l
  cut_other k j [] n = refl
  cut_other k j (p ∷ l) n =
      elim (which (cmp j p.key)) [
        | less o ↦ rw o
        | same o ↦ rw (o, ← (laws.only j p.key o)) (sym (if_same_other (cmp k j) _ _ n))
        | greater o ↦ rw o (ap (λ r. if_same (cmp k p.key) (Some p.details) r) (cut_other k j l n))
      ]

  pub cut_above : (a k : K) (l : List (Part K D)) → AllAbove cmp a l → AllAbove cmp a (cut cmp k l)
  cut_above a k [] h = tt
  cut_above a k (p ∷ l) h =
      elim (which (cmp k p.key)) [
        | less o ↦ rw o h
        | same o ↦ rw o h.1
        | greater o ↦ rw o (h.0, cut_above a k l h.1)
      ]

  pub cut_rising : (k : K) (l : List (Part K D)) → Rising cmp l → Rising cmp (cut cmp k l)
  cut_rising k [] h = tt
  cut_rising k (p ∷ l) h =
      elim (which (cmp k p.key)) [
        | less o ↦ rw o h
        | same o ↦ rw o h.1
        | greater o ↦ rw o (cut_above p.key k l h.0, cut_rising k l h.1)
      ]

  -- ---- lengths

  pub put_grows : (k : K) (d : D) (l : List (Part K D)) → lookup cmp k l ≡ None → length (put cmp k d l) ≡ suc (length l)
  put_grows k d [] n = refl
  put_grows k d (p ∷ l) n =
      elim (which (cmp k p.key)) [
        | less o ↦ rw o
        | same o ↦ absurd (none-some _ (sym (rw o at n)))
        | greater o ↦ rw o (ap suc (put_grows k d l (rw o at n)))
      ]

  pub put_keeps : (k : K) (d : D) (l : List (Part K D)) → Rising cmp l → Is (lookup cmp k l) → length (put cmp k d l) ≡ length l
  put_keeps k d [] h i = absurd i
  put_keeps k d (p ∷ l) h i =
      elim (which (cmp k p.key)) [
        | less o ↦ absurd (subst Is (absent k l (lower k p.key l o h.0)) (rw o at i))
        | same o ↦ rw o
        | greater o ↦ rw o (ap suc (put_keeps k d l h.1 (rw o at i)))
      ]

  pub cut_shrinks : (k : K) (l : List (Part K D)) → Rising cmp l → Is (lookup cmp k l) → suc (length (cut cmp k l)) ≡ length l
  cut_shrinks k [] h i = absurd i
  cut_shrinks k (p ∷ l) h i =
      elim (which (cmp k p.key)) [
        | less o ↦ absurd (subst Is (absent k l (lower k p.key l o h.0)) (rw o at i))
        | same o ↦ rw o
        | greater o ↦ rw o (ap suc (cut_shrinks k l h.1 (rw o at i)))
      ]

  pub cut_keeps : (k : K) (l : List (Part K D)) → lookup cmp k l ≡ None → cut cmp k l ≡ l
  cut_keeps k [] n = refl
  cut_keeps k (p ∷ l) n =
      elim (which (cmp k p.key)) [
        | less o ↦ rw o
        | same o ↦ absurd (none-some _ (sym (rw o at n)))
        | greater o ↦ rw o (ap {B = List (Part K D)} (λ r. p ∷ r) (cut_keeps k l (rw o at n)))
      ]

  -- ---- two rising lists that say the same of every key are equal

  pub tails : (p q : Part K D) (l m : List (Part K D)) → p.key ≡ q.key → Rising cmp (p ∷ l) → Rising cmp (q ∷ m)
      → ((k : K) → lookup cmp k (p ∷ l) ≡ lookup cmp k (q ∷ m)) → (k : K) → lookup cmp k l ≡ lookup cmp k m
  tails p q l m e h g f k =
      elim (which (cmp k p.key)) [
        | less o ↦ rw (o, ← e, o) at (f k)
        | same o ↦ absent k l (rw (laws.only k p.key o) h.0) ∙ sym (absent k m (rw (laws.only k p.key o ∙ e) g.0))
        | greater o ↦ rw (o, ← e, o) at (f k)
      ]

  pub extensional : (l m : List (Part K D)) → Rising cmp l → Rising cmp m → ((k : K) → lookup cmp k l ≡ lookup cmp k m) → l ≡ m
  extensional [] [] h g f = refl
  extensional [] (q ∷ m) h g f = absurd (none-some _ (f q.key ∙ here q m))
  extensional (p ∷ l) [] h g f = absurd (none-some _ (sym (f p.key) ∙ here p l))
  extensional (p ∷ l) (q ∷ m) h g f =
      elim (which (cmp p.key q.key)) [
        | less o ↦ absurd (none-some _ (sym (absent p.key (q ∷ m) (o, lower p.key q.key m o g.0)) ∙ sym (f p.key) ∙ here p l))
        | same o ↦
            let e : p.key ≡ q.key = laws.only p.key q.key o in
            let d : ◌≡◌ {A = Option D} (Some p.details) (Some q.details) =
            sym (here p l) ∙ f p.key ∙ ap (λ k. lookup cmp k (q ∷ m)) e ∙ here q m in
            let r : l ≡ m = extensional l m h.1 g.1 (tails p q l m e h g f) in
            let pq : p ≡ q = part_path p q e (cc) in
            cc
        | greater o ↦
            let u : cmp q.key p.key ≡ Less = greater_turned cmp laws p.key q.key o in
            absurd (none-some _ (sym (absent q.key (p ∷ l) (u, lower q.key p.key l u h.0)) ∙ f q.key ∙ here q m))
      ]

  -- ---- settle, by one law for every key

  pub settle_rising : (k : K) (x : Option D) (l : List (Part K D)) → Rising cmp l → Rising cmp (settle cmp k x l)
  settle_rising k None l h = cut_rising k l h
  settle_rising k (Some d) l h = put_rising k d l h

  pub settle_same : (k : K) (x : Option D) (l : List (Part K D)) → Rising cmp l → lookup cmp k (settle cmp k x l) ≡ x
  settle_same k None l h = cut_same k l h
  settle_same k (Some d) l h = put_same k d l

  pub settle_other : (q k : K) (x : Option D) (l : List (Part K D)) → (cmp q k ≡ Equal → ⊥) → lookup cmp q (settle cmp k x l) ≡ lookup cmp q l
  settle_other q k None l n = cut_other q k l n
  settle_other q k (Some d) l n = put_other q k d l n

  pub settled : (q k : K) (x : Option D) (l : List (Part K D)) → Rising cmp l → lookup cmp q (settle cmp k x l) ≡ if_same (cmp q k) x (lookup cmp q l)
  settled q k x l h =
      elim (which (cmp q k)) [
        | less o ↦ rw o (settle_other q k x l (Less≢Equal o))
        | same o ↦ rw (o, laws.only q k o) (settle_same k x l h)
        | greater o ↦ rw o (settle_other q k x l (Greater≢Equal o))
      ]

  -- ---- changes

  pub all_rising : (cs : List (Change K D)) (l : List (Part K D)) → Rising cmp l → Rising cmp (applied_all cmp cs l)
  all_rising [] l h = h
  all_rising (c ∷ cs) l h = all_rising cs (applied cmp c l) (settle_rising c.key (said c) l h)

  -- what is fitted after some changes: what the latest that names the key says, else what was fitted before
  pub all_told : (cs : List (Change K D)) (l : List (Part K D)) (q : K) → Rising cmp l → lookup cmp q (applied_all cmp cs l) ≡ said_or (latest cmp q cs) (lookup cmp q l)
  all_told [] l q h = refl
  all_told (c ∷ cs) l q h =
      all_told cs (applied cmp c l) q (settle_rising c.key (said c) l h)
      ∙ ap (said_or (latest cmp q cs)) (settled q c.key (said c) l h)
      ∙ chosen (latest cmp q cs) (cmp q c.key) c (lookup cmp q l)

  pub all_append : (cs ds : List (Change K D)) (l : List (Part K D)) → applied_all cmp (cs ++ ds) l ≡ applied_all cmp ds (applied_all cmp cs l)
  all_append [] ds l = refl
  all_append (c ∷ cs) ds l = all_append cs ds (applied cmp c l)

  pub one_length : (k : K) (d : D) (s : Status) (l : List (Part K D)) → Rising cmp l → Fits s (lookup cmp k l)
      → length (settle cmp k (by_status s (Some d) None) l) + removes s ≡ length l + adds s
  one_length k d Added l h f = omega (arith, put_grows k d l f)
  one_length k d Modified l h f = omega (arith, put_keeps k d l h f)
  one_length k d Removed l h f = omega (arith, cut_shrinks k l h f)

  pub all_length : (cs : List (Change K D)) (l : List (Part K D)) → Rising cmp l → AllFit cmp cs l → length (applied_all cmp cs l) + removals cs ≡ length l + additions cs
  all_length [] l h f = refl
  all_length (c ∷ cs) l h f =
      let one : length (applied cmp c l) + removes c.status ≡ length l + adds c.status = one_length c.key c.details c.status l h f.0 in
      let more : length (applied_all cmp cs (applied cmp c l)) + removals cs ≡ length (applied cmp c l) + additions cs =
      all_length cs (applied cmp c l) (settle_rising c.key (said c) l h) f.1 in
      omega arith

  -- ---- above

  pub smallest_of : (t u : K → Option D) (k : Option K) (a : Option (Part K D)) → ((q : K) → Over cmp k q → t q ≡ u q) → Smallest cmp t k a → Smallest cmp u k a
  smallest_of t u k None e s = λ q o. sym (e q o) ∙ s q o
  smallest_of t u k (Some p) e s = (s.0, sym (e p.key s.0) ∙ s.1, λ q o b. sym (e q o) ∙ s.2 q o b)

  pub smallest_one : (t : K → Option D) (k : Option K) (a b : Option (Part K D)) → Smallest cmp t k a → Smallest cmp t k b → a ≡ b
  smallest_one t k None None x y = refl
  smallest_one t k None (Some p) x y = absurd (none-some _ (sym (x p.key y.0) ∙ y.1))
  smallest_one t k (Some p) None x y = absurd (none-some _ (sym (y p.key x.0) ∙ x.1))
  smallest_one t k (Some p) (Some q) x y =
      elim (which (cmp p.key q.key)) [
        | less o ↦ absurd (none-some _ (sym (y.2 p.key x.0 o) ∙ x.1))
        | same o ↦
            let e : p.key ≡ q.key = laws.only p.key q.key o in
            let d : ◌≡◌ {A = Option D} (Some p.details) (Some q.details) = sym x.1 ∙ ap t e ∙ y.1 in
            let pq : p ≡ q = part_path p q e (cc) in
            cc
        | greater o ↦ absurd (none-some _ (sym (x.2 q.key y.0 (greater_turned cmp laws p.key q.key o)) ∙ y.1))
      ]

  first_smallest : (k : Option K) (p : Part K D) (l : List (Part K D)) → Rising cmp (p ∷ l) → Over cmp k p.key → Smallest cmp (λ q. lookup cmp q (p ∷ l)) k (Some p)
  first_smallest k p l h o =
      (o, rw (self cmp laws p.key), λ q _ b. absent q (p ∷ l) (b, lower q p.key l b h.0))

  passed : (k : K) (p : Part K D) (l : List (Part K D)) → (cmp k p.key ≡ Less → ⊥) → (q : K) → cmp k q ≡ Less → lookup cmp q l ≡ lookup cmp q (p ∷ l)
  passed k p l n q o = sym (if_same_other (cmp q p.key) _ _ (λ e. n (rw (← (laws.only q p.key e)) o)))

  pub above_smallest : (k : Option K) (l : List (Part K D)) → Rising cmp l → Smallest cmp (λ q. lookup cmp q l) k (above cmp k l)
  above_smallest None [] h = λ q o. refl
  above_smallest None (p ∷ l) h = first_smallest None p l h tt
  above_smallest (Some k) [] h = λ q o. refl
  above_smallest (Some k) (p ∷ l) h =
      elim (which (cmp k p.key)) [
        | less o ↦ rw o (first_smallest (Some k) p l h o)
        | same o ↦ rw o (smallest_of _ _ (Some k) (above cmp (Some k) l) (passed k p l (λ b. Less≢Equal b o)) (above_smallest (Some k) l h.1))
        | greater o ↦ rw o (smallest_of _ _ (Some k) (above cmp (Some k) l) (passed k p l (λ b. Less≢Greater b o)) (above_smallest (Some k) l h.1))
      ]

  -- ---- walking

  over : (p : Part K D) (m : List (Part K D)) (k : K) (l : List (Part K D)) → (cmp k p.key ≡ Less → ⊥) → AllAbove cmp p.key l → Walks cmp m (Some k) l → Walks cmp (p ∷ m) (Some k) l
  over p m k [] n b w = w ∙ sym (by_past (cmp k p.key) _ _ n)
  over p m k (q ∷ l) n b w =
      (w.0 ∙ sym (by_past (cmp k p.key) _ _ n), over p m q.key l (λ e. Less≢Greater e (less_turned cmp laws p.key q.key b.0)) b.1 w.1)

  pub walks_from : (k : K) (m : List (Part K D)) → AllAbove cmp k m → Rising cmp m → Walks cmp m (Some k) m
  walks_from k [] b h = refl
  walks_from k (p ∷ m) b h =
      (rw b.0, over p m p.key m (λ e. Less≢Equal e (self cmp laws p.key)) h.0 (walks_from p.key m h.0 h.1))

  pub walks_all : (m : List (Part K D)) → Rising cmp m → Walks cmp m None m
  walks_all [] h = refl
  walks_all (p ∷ m) h = (refl, over p m p.key m (λ e. Less≢Equal e (self cmp laws p.key)) h.0 (walks_from p.key m h.0 h.1))

  pub walks_one : (m : List (Part K D)) (k : Option K) (l n : List (Part K D)) → Walks cmp m k l → Walks cmp m k n → l ≡ n
  walks_one m k [] [] w v = refl
  walks_one m k [] (q ∷ n) w v = absurd (none-some _ (w ∙ sym v.0))
  walks_one m k (p ∷ l) [] w v = absurd (none-some _ (v ∙ sym w.0))
  walks_one m k (p ∷ l) (q ∷ n) w v =
      let e : ◌≡◌ {A = Option (Part K D)} (Some p) (Some q) = w.0 ∙ sym v.0 in
      let pq : p ≡ q = cc in
      let r : l ≡ n = walks_one m (Some q.key) l n (rw pq at w.1) v.1 in
      cc
