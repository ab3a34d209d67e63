-- The history theorem, from what every run keeps.
use Rattle.std.proofs.Common.{◌≡◌, ℕ, ◌+◌, ◌≤◌, List, [], ◌∷◌, length, Some, None, Option, Ordering, sym, refl, ap, ◌∙◌, arith}
use Rattle.model.specs.declared.part.Part.{Part}
use Rattle.model.specs.Orders.{Lawful}
use Rattle.model.specs.Parts.{IsInventory, Rising, Shows, Smallest, above, lookup, most_parts}
use Rattle.model.specs.Changes.{additions, removals}
use Rattle.model.specs.Layers.{Layer, Meaning}
use Rattle.model.specs.Histories.{Event, Run, booked_changes, booked_deltas, last_head, told, top, walked}
use Rattle.model.specs.Promise.{HistoryTells, Settled}
use Rattle.model.specs.Histories.Event.{found, shown, counted, headed}
use Rattle.model.specs.Histories.Run.{called}
use Rattle.model.proofs.Lists.{all_told, above_smallest, smallest_of, smallest_one, extensional, Walks, walks_all, walks_one}
use Rattle.model.proofs.Kept.{good, rises, held_one}

module _ {K D H : Type 0} (cmp : K → K → Ordering) (laws : Lawful cmp) (bottom : Meaning K D H) (inv : IsInventory cmp bottom.parts) where
  fitted : (h : List (Event K D H)) (p : List (Layer K D H)) → Run cmp bottom h p → (k : K) → lookup cmp k (top cmp bottom p).parts ≡ told cmp bottom h k
  fitted h p r k = ap (lookup cmp k) (good cmp laws bottom inv h p r).replay ∙ all_told cmp laws (booked_changes h) bottom.parts k inv.rising

  rising : (h : List (Event K D H)) (p : List (Layer K D H)) → Run cmp bottom h p → Rising cmp (top cmp bottom p).parts
  rising h p r = rises cmp laws bottom inv _ _ _ _ _ _ _ p (good cmp laws bottom inv h p r)

  -- ---- a question at the end of a run

  find_end : (h : List (Event K D H)) (p : List (Layer K D H)) (k : K) (a : Option D) → Run cmp bottom (found k a ∷ h) p → a ≡ told cmp bottom h k
  find_end h p k a (called {p = p'} r s) = s.0 ∙ fitted h p' r k

  head_end : (h : List (Event K D H)) (p : List (Layer K D H)) (a : H) → Run cmp bottom (headed a ∷ h) p → a ≡ last_head (booked_deltas h) bottom.head
  head_end h p a (called {p = p'} r s) = s.0 ∙ (good cmp laws bottom inv h p' r).head

  count_end : (h : List (Event K D H)) (p : List (Layer K D H)) (n : ℕ) → Run cmp bottom (counted n ∷ h) p
      → n + removals (booked_changes h) ≡ length bottom.parts + additions (booked_changes h)
  count_end h p n (called {p = p'} r s) = omega (arith, s.0, (good cmp laws bottom inv h p' r).count)

  bound_end : (h : List (Event K D H)) (p : List (Layer K D H)) → (n : ℕ) → Run cmp bottom (counted n ∷ h) p → n ≤ most_parts
  bound_end h p n (called {p = p'} r s) = rw s.0 (good cmp laws bottom inv h p' r).bound

  next_end : (h : List (Event K D H)) (p : List (Layer K D H)) (k : Option K) (a : Option (Part K D)) → Run cmp bottom (shown k a ∷ h) p → Smallest cmp (told cmp bottom h) k a
  next_end h p k a (called {p = p'} r s) =
      rw s.0 (smallest_of cmp laws _ _ k (above cmp k (top cmp bottom p').parts) (λ q o. fitted h p' r q) (above_smallest cmp laws k (top cmp bottom p').parts (rising h p' r)))

  next_start : (h : List (Event K D H)) (p : List (Layer K D H)) (k : Option K) (a : Option (Part K D)) → Run cmp bottom h p → Smallest cmp (told cmp bottom h) k a → a ≡ above cmp k (top cmp bottom p).parts
  next_start h p k a r x =
      smallest_one cmp laws (told cmp bottom h) k a _ x
      (smallest_of cmp laws _ _ k (above cmp k (top cmp bottom p).parts) (λ q o. fitted h p r q) (above_smallest cmp laws k (top cmp bottom p).parts (rising h p r)))

  -- ---- walks

  shown_end : (h : List (Event K D H)) (p : List (Layer K D H)) (k : Option K) (a : Option (Part K D)) → Run cmp bottom (shown k a ∷ h) p
      → Run cmp bottom h p × (a ≡ above cmp k (top cmp bottom p).parts)
  shown_end h p k a (called {p = p'} r s) = rw s.1 (r, s.0)

  walk_end : (l : List (Part K D)) (h : List (Event K D H)) (p : List (Layer K D H)) (k : Option K) → Run cmp bottom (walked k l h) p
      → Run cmp bottom h p × Walks cmp (top cmp bottom p).parts k l
  walk_end [] h p k r = shown_end h p k None r
  walk_end (x ∷ l) h p k r =
      let w = walk_end l (shown k (Some x) ∷ h) p (Some x.key) r in
      let v = shown_end h p k (Some x) w.0 in
      (v.0, (v.1, w.1))

  walk_start : (l : List (Part K D)) (h : List (Event K D H)) (p : List (Layer K D H)) (k : Option K) → Run cmp bottom h p
      → Walks cmp (top cmp bottom p).parts k l → Run cmp bottom (walked k l h) p
  walk_start [] h p k r w = called r (w, refl)
  walk_start (x ∷ l) h p k r w = walk_start l (shown k (Some x) ∷ h) p (Some x.key) (called r (w.0, refl)) w.1

  walk_shows : (l : List (Part K D)) (h : List (Event K D H)) (p : List (Layer K D H)) → Run cmp bottom (walked None l h) p → Shows cmp l (told cmp bottom h)
  walk_shows l h p r =
      let w = walk_end l h p None r in
      let up : Rising cmp (top cmp bottom p).parts = rising h p w.0 in
      let e : l ≡ (top cmp bottom p).parts = walks_one cmp laws (top cmp bottom p).parts None l _ w.1 (walks_all cmp laws _ up) in
      rw e (up, fitted h p w.0)

  shows_walk : (l : List (Part K D)) (h : List (Event K D H)) (p : List (Layer K D H)) → Run cmp bottom h p → Shows cmp l (told cmp bottom h) → Run cmp bottom (walked None l h) p
  shows_walk l h p r s =
      let up : Rising cmp (top cmp bottom p).parts = rising h p r in
      let e : l ≡ (top cmp bottom p).parts = extensional cmp laws l _ s.0 up (λ k. s.1 k ∙ sym (fitted h p r k)) in
      rw e (walk_start _ h p None r (walks_all cmp laws _ up))

  settles : (h : List (Event K D H)) (p : List (Layer K D H)) → Run cmp bottom h p → Settled cmp bottom h p
  settles h p r =
      let g = good cmp laws bottom inv h p r in
      let all = (top cmp bottom p).parts in
      record {
        find = λ k a. (find_end h p k a, λ e. called r (e ∙ sym (fitted h p r k), refl));
        next = λ k a. (next_end h p k a, λ x. called r (next_start h p k a r x, refl));
        count = λ n. (count_end h p n, λ e. called r (omega (arith, e, g.count), refl));
        head = λ a. (head_end h p a, λ e. called r (e ∙ sym g.head, refl));
        chain = g.chain;
        walk = λ l. (walk_shows l h p, shows_walk l h p r);
        ends = (all, walk_start all h p None r (walks_all cmp laws all (rising h p r)), called r (refl, refl));
        bounded = bound_end h p;
        few_keys = g.few;
        claims = g.claims;
        one_out = λ n. rw (g.outs n) (held_one n p g.apart);
      }

pub tells : {K D H : Type 0} → HistoryTells K D H
tells = settles
