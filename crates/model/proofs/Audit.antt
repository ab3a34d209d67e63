-- An audit walks both inventories side by side.
use Rattle.std.proofs.Common.{◌≡◌, ◌⊎◌, List, [], ◌∷◌, Some, None, Option, Ordering, Less, Equal, Greater, sym, refl, ap, ◌∙◌, subst, inl, inr}
use Rattle.std.proofs.lemmas.Option.{none-some}
use Rattle.std.specs.List.{slice_get}
use Rattle.model.specs.declared.part.Part.{Part}
use Rattle.model.specs.Orders.{Lawful}
use Rattle.model.specs.Parts.{Over, Rising, lookup, above, beyond, Smallest}
use Rattle.std.specs.Iterator.{Drains}
use Rattle.model.specs.Audits.{Auditing, Agreeing, Differing, Comparison, Comparing}
use Rattle.model.proofs.Lists.{which, greater_turned, above_smallest, extensional}
use Rattle.model.proofs.Walks.{over_trans, beyond_none, beyond_first}
use Rattle.model.proofs.Lists.Which.{less, same, greater}

module _ {K D : Type 0} (cmp : K → K → Ordering) where
  -- above `from` and not above `now` the two say the same, and `now` is not below `from`
  pub record Agreed (l m : List (Part K D)) (from now : Option K) : Type 0 where
    pub same : (q : K) → Over cmp from q → (lookup cmp q l ≡ lookup cmp q m) ⊎ Over cmp now q
    pub past : (q : K) → Over cmp now q → Over cmp from q

  pub agreed_none : (l m : List (Part K D)) (from : Option K) → Agreed l m from from
  agreed_none l m from = record { same = λ q o. inr o; past = λ q o. o }

  -- the two the other way round
  agreed_turned : {l m : List (Part K D)} {from now : Option K} → Agreed l m from now → Agreed m l from now
  agreed_turned g = record { same = λ q o. elim (g.same q o) [ inl s ↦ inl (sym s) | inr a ↦ inr a ]; past = g.past }

  auditing_turned : (l m : List (Part K D)) (k r : Option K) → Auditing cmp l m k r → Auditing cmp m l k r
  auditing_turned l m k None a = λ q o. sym (a q o)
  auditing_turned l m k (Some j) a = (a.0, λ e. a.1 (sym e), λ q o b. sym (a.2 q o b))

module _ {K D : Type 0} (cmp : K → K → Ordering) (laws : Lawful cmp) where
  -- ---- what a turn tells

  module _ (l m : List (Part K D)) (from now : Option K) (up : Rising cmp l) (um : Rising cmp m) (g : Agreed cmp l m from now) where
    left : Smallest cmp (λ q. lookup cmp q l) now (above cmp now l)
    left = above_smallest cmp laws now l up

    right : Smallest cmp (λ q. lookup cmp q m) now (above cmp now m)
    right = above_smallest cmp laws now m um

    -- neither has a part above
    pub audit_none : None ≡ above cmp now l → None ≡ above cmp now m → Auditing cmp l m from None
    audit_none e f = λ q o.
        elim (g.same q o) [
          | inl s ↦ s
          | inr b ↦ subst (Smallest cmp (λ q. lookup cmp q l) now) (sym e) left q b ∙ sym (subst (Smallest cmp (λ q. lookup cmp q m) now) (sym f) right q b)
        ]

    -- what is known of the keys above `now` and below j, where neither has one there
    between : (j : K) → ((q : K) → Over cmp now q → cmp q j ≡ Less → (lookup cmp q l ≡ None) × (lookup cmp q m ≡ None)) → (q : K) → Over cmp from q → cmp q j ≡ Less → lookup cmp q l ≡ lookup cmp q m
    between j none q o b = elim (g.same q o) [ inl s ↦ s | inr a ↦ (let n = none q a b in n.0 ∙ sym n.1) ]

    -- the first of l above `now` stands below all of m above `now`
    pub audit_left : (p : Part K D) → Some p ≡ above cmp now l → ((q : K) → Over cmp now q → (cmp q p.key ≡ Less) ⊎ (q ≡ p.key) → lookup cmp q m ≡ None) → Auditing cmp l m from (Some p.key)
    audit_left p e none =
        let s = subst (Smallest cmp (λ q. lookup cmp q l) now) (sym e) left in (
          g.past p.key s.0,
          (λ same. none-some _ (sym (none p.key s.0 (inr refl)) ∙ (sym same ∙ s.1))),
          between p.key (λ q a b. (s.2 q a b, none q a (inl b))),
        )

    lower : (k j q : K) → cmp k j ≡ Less → (cmp q k ≡ Less) ⊎ (q ≡ k) → cmp q j ≡ Less
    lower k j q b c = elim c [ inl d ↦ laws.trans q k j d b | inr e ↦ subst (λ (x : K). cmp x j ≡ Less) (sym e) b ]

    pub only_left : (p : Part K D) → Some p ≡ above cmp now l → None ≡ above cmp now m → Auditing cmp l m from (Some p.key)
    only_left p e f = audit_left p e (λ q a b. subst (Smallest cmp (λ q. lookup cmp q m) now) (sym f) right q a)

    pub first_left : (p q : Part K D) → Some p ≡ above cmp now l → Some q ≡ above cmp now m → cmp p.key q.key ≡ Less → Auditing cmp l m from (Some p.key)
    first_left p q e f b =
        let s = subst (Smallest cmp (λ x. lookup cmp x m) now) (sym f) right in
        audit_left p e (λ x a c. s.2 x a (lower p.key q.key x b c))

    -- both have the same key next
    pub details_differ : (p q : Part K D) → Some p ≡ above cmp now l → Some q ≡ above cmp now m → cmp p.key q.key ≡ Equal → (p.details ≡ q.details → ⊥) → Auditing cmp l m from (Some p.key)
    details_differ p q e f b d =
        let s = subst (Smallest cmp (λ x. lookup cmp x l) now) (sym e) left in
        let t = subst (Smallest cmp (λ x. lookup cmp x m) now) (sym f) right in
        let k : p.key ≡ q.key = laws.only p.key q.key b in (
          g.past p.key s.0,
          (λ same.
              let z : ◌≡◌ {A = Option D} (Some p.details) (Some q.details) = sym s.1 ∙ (same ∙ (ap (λ (x : K). lookup cmp x m) k ∙ t.1)) in
              d (cc)),
          between p.key (λ x a c. (s.2 x a c, t.2 x a (subst (λ (y : K). cmp x y ≡ Less) k c))),
        )

    pub agreed_more : (p q : Part K D) → Some p ≡ above cmp now l → Some q ≡ above cmp now m → cmp p.key q.key ≡ Equal → p.details ≡ q.details → Agreed cmp l m from (Some p.key)
    agreed_more p q e f b d =
        let s = subst (Smallest cmp (λ x. lookup cmp x l) now) (sym e) left in
        let t = subst (Smallest cmp (λ x. lookup cmp x m) now) (sym f) right in
        let k : p.key ≡ q.key = laws.only p.key q.key b in
        let here : lookup cmp p.key l ≡ lookup cmp p.key m = s.1 ∙ (ap (λ (x : D). Some x) d ∙ (sym t.1 ∙ ap (λ (x : K). lookup cmp x m) (sym k))) in
        record {
          same = λ x o.
              elim (g.same x o) [
                | inl r ↦ inl r
                | inr a ↦ elim (which (cmp x p.key)) [
                  | less c ↦ inl (s.2 x a c ∙ sym (t.2 x a (subst (λ (y : K). cmp x y ≡ Less) k c)))
                  | same c ↦ inl (subst (λ (y : K). lookup cmp y l ≡ lookup cmp y m) (sym (laws.only x p.key c)) here)
                  | greater c ↦ inr (greater_turned cmp laws x p.key c)
                ]
              ];
          past = λ x o. g.past x (over_trans cmp laws now p.key x s.0 o);
        }

  -- ---- two walks side by side

  -- the two agree up to a key, and each walk has still to show what is above it
  pub record Abreast (l m : List (Part K D)) (from : Option K) (left right : List (Part K D)) : Type 0 where
    pub now : Option K
    pub agreed : Agreed cmp l m from now
    pub left_is : left ≡ beyond cmp now l
    pub right_is : right ≡ beyond cmp now m

  pub abreast : (l m : List (Part K D)) (from : Option K) → Abreast l m from (beyond cmp from l) (beyond cmp from m)
  abreast l m from = record { now = from; agreed = agreed_none cmp l m from; left_is = refl; right_is = refl }

  module _ {l m : List (Part K D)} {from : Option K} {left right : List (Part K D)} (up : Rising cmp l) (um : Rising cmp m) (w : Abreast l m from left right) where
    left_end : left ≡ [] → None ≡ above cmp w.now l
    left_end e = beyond_none cmp laws w.now l up (sym w.left_is ∙ e)

    right_end : right ≡ [] → None ≡ above cmp w.now m
    right_end e = beyond_none cmp laws w.now m um (sym w.right_is ∙ e)

    left_first : (p : Part K D) (t : List (Part K D)) → left ≡ p ∷ t → (Some p ≡ above cmp w.now l) × (t ≡ beyond cmp (Some p.key) l)
    left_first p t e = beyond_first cmp laws w.now l t p up (sym w.left_is ∙ e)

    right_first : (q : Part K D) (u : List (Part K D)) → right ≡ q ∷ u → (Some q ≡ above cmp w.now m) × (u ≡ beyond cmp (Some q.key) m)
    right_first q u e = beyond_first cmp laws w.now m u q um (sym w.right_is ∙ e)

    pub both_end : left ≡ [] → right ≡ [] → Auditing cmp l m from None
    both_end e f = audit_none l m from w.now up um w.agreed (left_end e) (right_end f)

    pub left_alone : (p : Part K D) (t : List (Part K D)) → left ≡ p ∷ t → right ≡ [] → Auditing cmp l m from (Some p.key)
    left_alone p t e f = only_left l m from w.now up um w.agreed p (left_first p t e).0 (right_end f)

    pub right_alone : (q : Part K D) (u : List (Part K D)) → left ≡ [] → right ≡ q ∷ u → Auditing cmp l m from (Some q.key)
    right_alone q u e f = auditing_turned cmp m l from (Some q.key) (only_left m l from w.now um up (agreed_turned cmp w.agreed) q (right_first q u f).0 (left_end e))

    -- the two parts that are shown have keys that differ: the answer is the smaller
    pub left_lower : (p q : Part K D) (t u : List (Part K D)) → left ≡ p ∷ t → right ≡ q ∷ u → cmp p.key q.key ≡ Less → Auditing cmp l m from (Some p.key)
    left_lower p q t u e f o = first_left l m from w.now up um w.agreed p q (left_first p t e).0 (right_first q u f).0 o

    pub right_lower : (p q : Part K D) (t u : List (Part K D)) → left ≡ p ∷ t → right ≡ q ∷ u → cmp p.key q.key ≡ Greater → Auditing cmp l m from (Some q.key)
    right_lower p q t u e f o = auditing_turned cmp m l from (Some q.key) (first_left m l from w.now um up (agreed_turned cmp w.agreed) q p (right_first q u f).0 (left_first p t e).0 (greater_turned cmp laws p.key q.key o))

    -- they have one key, and other details
    pub details_apart : (p q : Part K D) (t u : List (Part K D)) → left ≡ p ∷ t → right ≡ q ∷ u → cmp p.key q.key ≡ Equal → (p.details ≡ q.details → ⊥) → Auditing cmp l m from (Some p.key)
    details_apart p q t u e f o d = details_differ l m from w.now up um w.agreed p q (left_first p t e).0 (right_first q u f).0 o d

    -- they are the same: both walks go on
    pub parts_agree : (p q : Part K D) (t u : List (Part K D)) → left ≡ p ∷ t → right ≡ q ∷ u → cmp p.key q.key ≡ Equal → p.details ≡ q.details → Abreast l m from t u
    parts_agree p q t u e f o d =
        let x = left_first p t e in
        let y = right_first q u f in
        record {
          now = Some p.key;
          agreed = agreed_more l m from w.now up um w.agreed p q x.0 y.0 o d;
          left_is = x.1;
          right_is = y.1 ∙ ap (λ j. beyond cmp (Some j) m) (sym (laws.only p.key q.key o));
        }

  -- ---- where all keys are asked for

  pub agreeing : (l m : List (Part K D)) (r : Option K) → Rising cmp l → Rising cmp m → Auditing cmp l m None r → Agreeing cmp l m r
  agreeing l m None h g a = extensional cmp laws l m h g (λ q. a q tt)
  agreeing l m (Some j) h g a = λ e. a.1 (ap (lookup cmp j) e)

  -- ---- all audits in turn

  -- the first of them says whether the two have the same parts
  pub first_agrees : (l m : List (Part K D)) (ks : List K) → Rising cmp l → Rising cmp m → Differing cmp l m None ks → Agreeing cmp l m (slice_get ks 0)
  first_agrees l m [] h g a = agreeing l m None h g a
  first_agrees l m (j ∷ js) h g a = agreeing l m (Some j) h g a.0

  pub in_turn : (s : Comparison K D) (ks : List K) → Drains (Comparing cmp) s ks → Differing cmp s.left s.right s.passed ks
  in_turn s [] d = subst (λ (t : Comparison K D). Auditing cmp t.left t.right t.passed None) (sym d.1.1) d.1.2.0
  in_turn s (k ∷ ks) d =
      let first = d.1.1 in
      let rest = in_turn first.0 ks (d.0, (d.1.0, first.2, d.1.2)) in
      (first.1.0, subst (λ (t : Comparison K D). Differing cmp t.left t.right t.passed ks) first.1.1 rest)
