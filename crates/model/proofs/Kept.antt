-- What every run keeps.
use Rattle.std.proofs.Common.{◌≡◌, ℕ, suc, pred, ◌+◌, ◌≤◌, Bool, true, false, cond, eqb, ◌⊎◌, List, [], ◌∷◌, ◌++◌, length, Some, None, Ok, Err, Option, Ordering, sym, refl, ap, ◌∙◌, subst, inl, inr, append_assoc, append-nil, arith}
use Rattle.std.proofs.lemmas.Option.{none-some}
use Rattle.std.proofs.lemmas.Bool.{eq-eqb, ne_eqb, eqb-true, cases_eq}
use Rattle.model.specs.declared.part.Change.{Change}
use Rattle.model.specs.Orders.{Lawful}
use Rattle.model.specs.Parts.{IsInventory, Rising, most_parts}
use Rattle.model.specs.Changes.{additions, applied_all, keys_named, removals}
use Rattle.model.specs.Layers.{AllMet, Delta, Demand, Layer, Meaning, change_demands, keeping, meaning, most_keys, overlaid, remember_all, staging_demands, with_booked}
use Rattle.model.specs.Histories.{Chained, Event, Fresh, Run, Step, alone, booked_in, bookings, bookings_in, changes_of, claims_out, deeds, last_head, last_staged, one, stagings_in, top, withdrawals_in}
use Rattle.model.specs.Histories.Event.{laid, staged, booked, withdrawn, found, shown, counted, headed}
use Rattle.model.specs.Histories.Run.{made, called}
use Rattle.model.proofs.Lists.{AllFit, all_rising, all_append, all_length}
use Rattle.model.proofs.Layering.{keys_of, keys_length, keys_all, keys_append, overlaid_all, changes_fit}

-- ---- lists of deltas

changes_append : {K D H : Type 0} (δs : List (Delta K D H)) (δ : Delta K D H) → changes_of (δs ++ (δ ∷ [])) ≡ changes_of δs ++ δ.changes
changes_append [] δ = append-nil δ.changes
changes_append (x ∷ δs) δ = ap (λ cs. x.changes ++ cs) (changes_append δs δ) ∙ sym (append_assoc x.changes (changes_of δs) δ.changes)

head_append : {K D H : Type 0} (δs : List (Delta K D H)) (δ : Delta K D H) (x : H) → last_head (δs ++ (δ ∷ [])) x ≡ δ.own
head_append [] δ x = refl
head_append (y ∷ δs) δ x = head_append δs δ y.own

chain_append : {K D H : Type 0} (δs : List (Delta K D H)) (δ : Delta K D H) (x : H) → Chained x δs → δ.holder ≡ last_head δs x → Chained x (δs ++ (δ ∷ []))
chain_append [] δ x c e = (e, tt)
chain_append (y ∷ δs) δ x c e = (c.0, chain_append δs δ y.own c.1 e)

additions_append : {K D : Type 0} (cs ds : List (Change K D)) → additions (cs ++ ds) ≡ additions cs + additions ds
additions_append [] ds = omega arith
additions_append (c ∷ cs) ds = omega (arith, additions_append cs ds)

removals_append : {K D : Type 0} (cs ds : List (Change K D)) → removals (cs ++ ds) ≡ removals cs + removals ds
removals_append [] ds = omega arith
removals_append (c ∷ cs) ds = omega (arith, removals_append cs ds)

-- ---- the claims that the layers of a pile have out

abbrev holds : {K D H : Type 0} → ℕ → ℕ → Option (Delta K D H) → ℕ
holds n m None = 0
holds n m (Some δ) = cond (eqb n m) 1 0

abbrev pub held : {K D H : Type 0} → ℕ → List (Layer K D H) → ℕ
held n [] = 0
held n (s ∷ below) = holds n s.number s.aside + held n below

-- no two layers share a number
abbrev Apart : {K D H : Type 0} → List (Layer K D H) → Type 0
Apart [] = Unit {0}
Apart (s ∷ below) = Fresh s.number below × Apart below

holds_other : {K D H : Type 0} (n m : ℕ) (x : Option (Delta K D H)) → (n ≡ m → ⊥) → holds n m x ≡ 0
holds_other n m None d = refl
holds_other n m (Some δ) d = rw (ne_eqb n m d) refl

holds_few : {K D H : Type 0} (n m : ℕ) (x : Option (Delta K D H)) → holds n m x ≤ 1
holds_few n m None = omega arith
holds_few n m (Some δ) = few (eqb n m)
  where
    few : (b : Bool) → cond b 1 0 ≤ 1
    few true = omega arith
    few false = omega arith

fresh_held : {K D H : Type 0} (n : ℕ) (p : List (Layer K D H)) → Fresh n p → held n p ≡ 0
fresh_held n [] f = refl
fresh_held n (s ∷ below) f = omega (arith, holds_other n s.number s.aside f.0, fresh_held n below f.1)

pub held_one : {K D H : Type 0} (n : ℕ) (p : List (Layer K D H)) → Apart p → held n p ≤ 1
held_one n [] a = omega arith
held_one n (s ∷ below) a =
    elim (cases_eq n s.number) [
      | inl e ↦ omega (arith, holds_few n s.number s.aside, fresh_held n below (subst (λ (m : ℕ). Fresh m below) (sym e) a.0))
      | inr d ↦ omega (arith, holds_other n s.number s.aside d, held_one n below a.1)
    ]

-- ---- the counts of claims, where b says that the layer is meant

stage_claims : (b : Bool) (s k w o : ℕ) → s ≡ k + w + o → cond b (suc s) s ≡ k + w + cond b (suc o) o
stage_claims true s k w o e = omega arith
stage_claims false s k w o e = e

stage_out : (b : Bool) (o r : ℕ) → o ≡ 0 + r → cond b (suc o) o ≡ cond b 1 0 + r
stage_out true o r e = let g : suc o ≡ 1 + r = omega arith in g
stage_out false o r e = e

book_claims : (b : Bool) (s k w o r : ℕ) → s ≡ k + w + o → o ≡ cond b 1 0 + r → s ≡ cond b (suc k) k + w + cond b (pred o) o
book_claims true s k w o r e f = let g : s ≡ suc k + w + pred o = omega arith in g
book_claims false s k w o r e f = e

withdraw_claims : (b : Bool) (s k w o r : ℕ) → s ≡ k + w + o → o ≡ cond b 1 0 + r → s ≡ k + cond b (suc w) w + cond b (pred o) o
withdraw_claims true s k w o r e f = let g : s ≡ k + suc w + pred o = omega arith in g
withdraw_claims false s k w o r e f = e

spent_out : (b : Bool) (o r : ℕ) → o ≡ cond b 1 0 + r → cond b (pred o) o ≡ 0 + r
spent_out true o r f = let g : pred o ≡ 0 + r = omega arith in g
spent_out false o r f = f

decide : (b : Bool) → (b ≡ true) ⊎ (b ≡ false)
decide true = inl refl
decide false = inr refl

-- ---- demands

last_demands : (gs hs : List Demand) → AllMet (gs ++ hs) → AllMet hs
last_demands [] hs n = n
last_demands (g ∷ gs) hs n = last_demands gs hs n.1

some_path : {A : Type 0} (x y : A) → ◌≡◌ {A = Option A} (Some x) (Some y) → x ≡ y
some_path x y e = cc

-- ---- what is kept

module _ {K D H : Type 0} (cmp : K → K → Ordering) where
  -- of the topmost layer: what it took over rises; what it keeps aside is the delta staged last, and fits
  abbrev KeptTop : (ℕ → Option (Delta K D H)) → (ℕ → List (Delta K D H)) → List (Layer K D H) → Type 0
  KeptTop last per [] = Unit {0}
  KeptTop last per (s ∷ below) =
      Rising cmp s.base.parts
      × (keys_of s.remembered ≡ keys_named cmp (changes_of (per s.number)) [])
      × ((δ : Delta K D H) → s.aside ≡ Some δ → (last s.number ≡ Some δ) × AllFit cmp δ.changes (meaning cmp s).parts × (length (applied_all cmp δ.changes (meaning cmp s).parts) ≤ most_parts) × (δ.holder ≡ s.head) × (length (remember_all cmp δ.changes s.remembered) ≤ most_keys))

  -- over what a history says: the booked deltas, the delta staged last, the stagings, bookings, withdrawals and claims out of each layer
  pub record Good (bottom : Meaning K D H) (δs : List (Delta K D H)) (last : ℕ → Option (Delta K D H)) (per : ℕ → List (Delta K D H)) (st bk wd out : ℕ → ℕ) (p : List (Layer K D H)) : Type 0 where
    pub replay : (top cmp bottom p).parts ≡ applied_all cmp (changes_of δs) bottom.parts
    pub head : (top cmp bottom p).head ≡ last_head δs bottom.head
    pub chain : Chained bottom.head δs
    pub count : length (top cmp bottom p).parts + removals (changes_of δs) ≡ length bottom.parts + additions (changes_of δs)
    pub bound : length (top cmp bottom p).parts ≤ most_parts
    pub kept : KeptTop last per p
    pub few : (n : ℕ) → length (keys_named cmp (changes_of (per n)) []) ≤ most_keys
    pub fresh : (n : ℕ) → Fresh n p → per n ≡ []
    pub apart : Apart p
    pub claims : (n : ℕ) → st n ≡ bk n + wd n + out n
    pub outs : (n : ℕ) → out n ≡ held n p

  abbrev pub GoodBy : Meaning K D H → List (Event K D H) → List (Layer K D H) → Type 0
  GoodBy bottom h p =
      Good bottom (bookings (deeds h)) (λ n. last_staged n (deeds h)) (λ n. booked_in n (deeds h)) (λ n. stagings_in n (deeds h)) (λ n. bookings_in n (deeds h)) (λ n. withdrawals_in n (deeds h)) (λ n. claims_out n (deeds h)) p

module _ {K D H : Type 0} (cmp : K → K → Ordering) (laws : Lawful cmp) (bottom : Meaning K D H) (inv : IsInventory cmp bottom.parts) where
  module _ (δs : List (Delta K D H)) (last : ℕ → Option (Delta K D H)) (per : ℕ → List (Delta K D H)) (st bk wd out : ℕ → ℕ) where
    pub rises : (p : List (Layer K D H)) → Good cmp bottom δs last per st bk wd out p → Rising cmp (top cmp bottom p).parts
    rises p g = rw g.replay (all_rising cmp laws (changes_of δs) bottom.parts inv.rising)

    lays : (p : List (Layer K D H)) (n : ℕ) → Good cmp bottom δs last per st bk wd out p → Fresh n p
        → Good cmp bottom δs last per st bk wd out (record { number = n; base = top cmp bottom p; remembered = []; head = (top cmp bottom p).head; aside = None } ∷ p)
    lays p n g f = record {
      replay = g.replay;
      head = g.head;
      chain = g.chain;
      count = g.count;
      bound = g.bound;
      kept = (rises p g, rw (g.fresh n f), λ δ e. absurd (none-some _ e));
      few = g.few;
      fresh = λ k h. g.fresh k h.1;
      apart = (f, g.apart);
      claims = g.claims;
      outs = λ k. omega (arith, g.outs k);
    }

    stages : (s : Layer K D H) (below : List (Layer K D H)) (δ : Delta K D H) → Good cmp bottom δs last per st bk wd out (s ∷ below) → AllMet (staging_demands cmp s δ)
        → Good cmp bottom δs (λ n. cond (eqb n s.number) (Some δ) (last n)) per (λ n. one n s.number (st n)) bk wd (λ n. cond (eqb n s.number) (suc (out n)) (out n)) (keeping s (Some δ) ∷ below)
    stages s below δ g met = record {
      replay = g.replay;
      head = g.head;
      chain = g.chain;
      count = g.count;
      bound = g.bound;
      few = g.few;
      fresh = g.fresh;
      apart = g.apart;
      kept = (
        g.kept.0,
        g.kept.1,
        λ x e. (
          rw (eq-eqb s.number s.number refl) e,
          let same : δ ≡ x = cc in
              rw (← same) (changes_fit cmp laws (meaning cmp s).parts (meaning cmp s).parts 0 [] δ.changes _ (rises (s ∷ below) g) (λ k _. refl) met.1.1),
          rw (← (some_path δ x e)) (let z = last_demands (change_demands cmp (meaning cmp s).parts 0 [] δ.changes) _ met.1.1 in z.1.0),
          rw (← (some_path δ x e)) met.1.0,
          rw (← (some_path δ x e)) (let z = last_demands (change_demands cmp (meaning cmp s).parts 0 [] δ.changes) _ met.1.1 in z.0),
        ),
      );
      claims = λ n. stage_claims (eqb n s.number) (st n) (bk n) (wd n) (out n) (g.claims n);
      outs = λ n. stage_out (eqb n s.number) (out n) (held n below) (g.outs n ∙ ap (λ x. holds n s.number x + held n below) met.0);
    }

    books : (s : Layer K D H) (below : List (Layer K D H)) (δ : Delta K D H) → Good cmp bottom δs last per st bk wd out (s ∷ below) → s.aside ≡ Some δ
        → Good cmp bottom (δs ++ alone (last s.number)) last (λ n. cond (eqb n s.number) (per n ++ alone (last s.number)) (per n)) st (λ n. one n s.number (bk n)) wd (λ n. cond (eqb n s.number) (pred (out n)) (out n)) (with_booked cmp s δ ∷ below)
    books s below δ g e =
        let same : overlaid cmp (remember_all cmp δ.changes s.remembered) s.base.parts ≡ applied_all cmp δ.changes (meaning cmp s).parts =
        overlaid_all cmp laws δ.changes s.remembered s.base.parts g.kept.0 in
        let more : changes_of (δs ++ (δ ∷ [])) ≡ changes_of δs ++ δ.changes = changes_append δs δ in
        let o : (n : ℕ) → out n ≡ cond (eqb n s.number) 1 0 + held n below = λ n. g.outs n ∙ ap (λ x. holds n s.number x + held n below) e in
        let keys : keys_of (remember_all cmp δ.changes s.remembered) ≡ keys_named cmp (changes_of (per s.number ++ (δ ∷ []))) [] =
        keys_all cmp laws δ.changes s.remembered
        ∙ ap (keys_named cmp δ.changes) g.kept.1
        ∙ sym (keys_append cmp laws (changes_of (per s.number)) δ.changes [])
        ∙ ap (λ cs. keys_named cmp cs []) (sym (changes_append (per s.number) δ)) in
        rw (g.kept.2 δ e).0
        (record {
          replay = same ∙ ap (applied_all cmp δ.changes) g.replay ∙ sym (all_append cmp laws (changes_of δs) δ.changes bottom.parts) ∙ ap (λ cs. applied_all cmp cs bottom.parts) (sym more);
          head = sym (head_append δs δ bottom.head);
          chain = chain_append δs δ bottom.head g.chain ((g.kept.2 δ e).3 ∙ g.head);
          count = omega (arith, ap length same, all_length cmp laws δ.changes (meaning cmp s).parts (rises (s ∷ below) g) (g.kept.2 δ e).1, g.count, ap additions more, ap removals more, additions_append (changes_of δs) δ.changes, removals_append (changes_of δs) δ.changes);
          bound = rw same (g.kept.2 δ e).2;
          kept = (g.kept.0, rw (eq-eqb s.number s.number refl) keys, λ x f. absurd (none-some _ f));
          few = λ n.
              elim (decide (eqb n s.number)) [
                | inl y ↦ rw (y, eqb-true n s.number y, ← keys, keys_length) (g.kept.2 δ e).4
                | inr z ↦ rw z (g.few n)
              ];
          fresh = λ n f.
              elim (decide (eqb n s.number)) [ inl y ↦ absurd (f.0 (eqb-true n s.number y)) | inr z ↦ rw z (g.fresh n f) ];
          apart = g.apart;
          claims = λ n. book_claims (eqb n s.number) (st n) (bk n) (wd n) (out n) (held n below) (g.claims n) (o n);
          outs = λ n. spent_out (eqb n s.number) (out n) (held n below) (o n);
        })

    withdraws : (s : Layer K D H) (below : List (Layer K D H)) (δ : Delta K D H) → Good cmp bottom δs last per st bk wd out (s ∷ below) → s.aside ≡ Some δ
        → Good cmp bottom δs last per st bk (λ n. one n s.number (wd n)) (λ n. cond (eqb n s.number) (pred (out n)) (out n)) (keeping s None ∷ below)
    withdraws s below δ g e =
        let o : (n : ℕ) → out n ≡ cond (eqb n s.number) 1 0 + held n below = λ n. g.outs n ∙ ap (λ x. holds n s.number x + held n below) e in
        record {
          replay = g.replay;
          head = g.head;
          chain = g.chain;
          count = g.count;
          bound = g.bound;
          kept = (g.kept.0, g.kept.1, λ x f. absurd (none-some _ f));
          few = g.few;
          fresh = g.fresh;
          apart = g.apart;
          claims = λ n. withdraw_claims (eqb n s.number) (st n) (bk n) (wd n) (out n) (held n below) (g.claims n) (o n);
          outs = λ n. spent_out (eqb n s.number) (out n) (held n below) (o n);
        }

  pub step : (h : List (Event K D H)) (p q : List (Layer K D H)) (e : Event K D H) → GoodBy cmp bottom h p → Step cmp bottom e p q → GoodBy cmp bottom (e ∷ h) q
  step h p q (laid n) g s = rw (s.1.2, s.1.1) (lays _ _ _ _ _ _ _ p n g s.0)
  step h [] q (staged δ a) g s = absurd s
  step h (x ∷ p) q (staged δ (Ok m)) g s = rw (s.2, s.1.2, s.1.1) (stages _ _ _ _ _ _ _ x p δ g s.1.0)
  step h (x ∷ p) q (staged δ (Err r)) g s = rw (s.2, s.1.1) g
  step h [] q (booked n a) g s = absurd s
  step h (x ∷ p) q (booked n (Ok u)) g s = rw (s.2, s.1.1.2, s.1.0) (books _ _ _ _ _ _ _ x p s.1.1.0 g s.1.1.1)
  step h (x ∷ p) q (booked n (Err r)) g s = rw (s.2, s.1.1) g
  step h [] q (withdrawn n a) g s = absurd s
  step h (x ∷ p) q (withdrawn n (Ok u)) g s = rw (s.2, s.1.1.2, s.1.0) (withdraws _ _ _ _ _ _ _ x p s.1.1.0 g s.1.1.1)
  step h (x ∷ p) q (withdrawn n (Err r)) g s = rw (s.2, s.1.1) g
  step h p q (found k a) g s = rw s.1 g
  step h p q (shown k a) g s = rw s.1 g
  step h p q (counted a) g s = rw s.1 g
  step h p q (headed a) g s = rw s.1 g

  pub good : (h : List (Event K D H)) (p : List (Layer K D H)) → Run cmp bottom h p → GoodBy cmp bottom h p
  good h p made = record { replay = refl; head = refl; chain = tt; count = refl; bound = inv.few; kept = tt; apart = tt; few = λ n. omega arith; fresh = λ n f. refl; claims = λ n. refl; outs = λ n. refl }
  good h p (called {h = h'} {p = p'} {e = e} r s) = step h' p' p e (good h' p' r) s
