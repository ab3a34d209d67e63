-- What a layer remembers, laid over what it took over, is its booked changes applied in their order. Changes whose demands are met fit.
use Rattle.std.proofs.Common.{◌≡◌, ℕ, suc, List, [], ◌∷◌, ◌++◌, length, None, Option, Ordering, Less, Equal, Greater, sym, refl, ap, ◌∙◌, inl, inr}
use Rattle.model.specs.declared.part.Part.{Part}
use Rattle.model.specs.declared.part.Change.{Change}
use Rattle.model.specs.declared.part.Status.{Status}
use Rattle.model.specs.declared.part.Memory.{Memory}
use Rattle.model.specs.Orders.{Lawful, if_same}
use Rattle.model.specs.Parts.{Is, Rising, lookup, settle}
use Rattle.model.specs.Changes.{applied, applied_all, keys_named, said, with_key}
use Rattle.model.specs.Layers.{AllMet, Demand, Named, change_demands, overlaid, remember, remember_all}
use Rattle.model.specs.declared.part.Status.TheVariants.{Added, Modified, Removed}
use Rattle.model.proofs.Lists.{which, if_same_other, Less≢Equal, Greater≢Equal, settle_rising, settled, settle_other, extensional, Fits, AllFit}
use Rattle.model.proofs.Lists.Which.{less, same, greater}

pub modified≢added : Modified ≡ Added → ⊥
modified≢added e = cc

pub removed≢added : Removed ≡ Added → ⊥
removed≢added e = cc

fit : {D : Type 0} (s : Status) (x : Option D) → (s ≡ Added → x ≡ None) → ((s ≡ Added → ⊥) → Is x) → Fits s x
fit Added x a b = a refl
fit Modified x a b = b modified≢added
fit Removed x a b = b removed≢added

abbrev pub keys_of : {K D : Type 0} → List (Memory K D) → List K
keys_of [] = []
keys_of (m ∷ ms) = m.key ∷ keys_of ms

pub keys_length : {K D : Type 0} (ms : List (Memory K D)) → length (keys_of ms) ≡ length ms
keys_length [] = refl
keys_length (m ∷ ms) = ap suc (keys_length ms)

module _ {K D : Type 0} (cmp : K → K → Ordering) where
  -- what the memories say of q, else x
  abbrev pub recalled : K → List (Memory K D) → Option D → Option D
  recalled q [] x = x
  recalled q (m ∷ ms) x = if_same (cmp q m.key) m.state (recalled q ms x)

module _ {K D : Type 0} (cmp : K → K → Ordering) (laws : Lawful cmp) where
  pub overlaid_rising : (ms : List (Memory K D)) (l : List (Part K D)) → Rising cmp l → Rising cmp (overlaid cmp ms l)
  overlaid_rising [] l h = h
  overlaid_rising (m ∷ ms) l h = settle_rising cmp laws m.key m.state (overlaid cmp ms l) (overlaid_rising ms l h)

  -- find: the table first, then what was taken over
  pub overlaid_lookup : (q : K) (ms : List (Memory K D)) (l : List (Part K D)) → Rising cmp l → lookup cmp q (overlaid cmp ms l) ≡ recalled cmp q ms (lookup cmp q l)
  overlaid_lookup q [] l h = refl
  overlaid_lookup q (m ∷ ms) l h =
      settled cmp laws q m.key m.state (overlaid cmp ms l) (overlaid_rising ms l h)
      ∙ ap (if_same (cmp q m.key) m.state) (overlaid_lookup q ms l h)

  recalled_remember : (q k : K) (x y : Option D) (ms : List (Memory K D)) → recalled cmp q (remember cmp k x ms) y ≡ if_same (cmp q k) x (recalled cmp q ms y)
  recalled_remember q k x y [] = refl
  recalled_remember q k x y (m ∷ ms) =
      elim (which (cmp k m.key)) [
        | less o ↦ rw o (ap (if_same (cmp q m.key) m.state) (recalled_remember q k x y ms) ∙ crossed q k m.key x m.state _ (Less≢Equal o))
        | same o ↦ rw (o, ← (laws.only k m.key o)) (again (cmp q k) x m.state _)
        | greater o ↦ rw o (ap (if_same (cmp q m.key) m.state) (recalled_remember q k x y ms) ∙ crossed q k m.key x m.state _ (Greater≢Equal o))
      ]
    where
      again : (o : Ordering) (a b c : Option D) → if_same o a c ≡ if_same o a (if_same o b c)
      again Less a b c = refl
      again Equal a b c = refl
      again Greater a b c = refl

      crossed : (q k j : K) (a b c : Option D) → (cmp k j ≡ Equal → ⊥) → if_same (cmp q j) b (if_same (cmp q k) a c) ≡ if_same (cmp q k) a (if_same (cmp q j) b c)
      crossed q k j a b c n =
          elim (which (cmp q j)) [
            | less o ↦ rw o
            | same o ↦ rw o (sym (if_same_other (cmp q k) _ _ (λ e. n (rw (← (laws.only q k e)) o))))
            | greater o ↦ rw o
          ]

  pub overlaid_remember : (k : K) (x : Option D) (ms : List (Memory K D)) (l : List (Part K D)) → Rising cmp l → overlaid cmp (remember cmp k x ms) l ≡ settle cmp k x (overlaid cmp ms l)
  overlaid_remember k x ms l h =
      extensional cmp laws _ _ (overlaid_rising (remember cmp k x ms) l h) (settle_rising cmp laws k x (overlaid cmp ms l) (overlaid_rising ms l h))
      (λ q.
      overlaid_lookup q (remember cmp k x ms) l h
      ∙ recalled_remember q k x (lookup cmp q l) ms
      ∙ ap (if_same (cmp q k) x) (sym (overlaid_lookup q ms l h))
      ∙ sym (settled cmp laws q k x (overlaid cmp ms l) (overlaid_rising ms l h)))

  pub overlaid_all : (cs : List (Change K D)) (ms : List (Memory K D)) (l : List (Part K D)) → Rising cmp l → overlaid cmp (remember_all cmp cs ms) l ≡ applied_all cmp cs (overlaid cmp ms l)
  overlaid_all [] ms l h = refl
  overlaid_all (c ∷ cs) ms l h =
      overlaid_all cs (remember cmp c.key (said c) ms) l h
      ∙ ap (applied_all cmp cs) (overlaid_remember c.key (said c) ms l h)

  -- ---- the keys that are remembered are those named

  keys_remember : (k : K) (x : Option D) (ms : List (Memory K D)) → keys_of (remember cmp k x ms) ≡ with_key cmp k (keys_of ms)
  keys_remember k x [] = refl
  keys_remember k x (m ∷ ms) =
      elim (which (cmp k m.key)) [
        | less o ↦ rw o (ap {B = List K} (λ r. m.key ∷ r) (keys_remember k x ms))
        | same o ↦ rw o (ap {B = List K} (λ j. j ∷ keys_of ms) (laws.only k m.key o))
        | greater o ↦ rw o (ap {B = List K} (λ r. m.key ∷ r) (keys_remember k x ms))
      ]

  pub keys_all : (cs : List (Change K D)) (ms : List (Memory K D)) → keys_of (remember_all cmp cs ms) ≡ keys_named cmp cs (keys_of ms)
  keys_all [] ms = refl
  keys_all (c ∷ cs) ms = keys_all cs (remember cmp c.key (said c) ms) ∙ ap (keys_named cmp cs) (keys_remember c.key (said c) ms)

  pub keys_append : (cs ds : List (Change K D)) (ks : List K) → keys_named cmp (cs ++ ds) ks ≡ keys_named cmp ds (keys_named cmp cs ks)
  keys_append [] ds ks = refl
  keys_append (c ∷ cs) ds ks = keys_append cs ds (with_key cmp c.key ks)

  -- ---- changes whose demands are met fit, each in its turn

  pub changes_fit : (l now : List (Part K D)) (i : ℕ) (earlier cs : List (Change K D)) (more : List Demand) → Rising cmp now
      → ((k : K) → (Named k earlier → ⊥) → lookup cmp k now ≡ lookup cmp k l)
      → AllMet (change_demands cmp l i earlier cs ++ more) → AllFit cmp cs now
  changes_fit l now i earlier [] more h e g = tt
  changes_fit l now i earlier (c ∷ cs) more h e g = (
    rw (e c.key g.0) (fit c.status (lookup cmp c.key l) g.1.0 g.1.1.0),
    changes_fit l (applied cmp c now) (suc i) (c ∷ earlier) cs more (settle_rising cmp laws c.key (said c) now h)
        (λ k n. settle_other cmp laws k c.key (said c) now (λ o. n (inl (laws.only k c.key o))) ∙ e k (λ m. n (inr m)))
        g.1.1.1,
  )
