-- What is known of each part of an accepted report.
use Rattle.std.proofs.Common.{◌≡◌, ℕ, zero, suc, ◌+◌, ◌<◌, ◌≤◌, Bool, true, false, cond, List, length, is_ok as isOk, Some, None, Ok, Option, Ordering, Less, Equal, Greater, sym, refl, ap, ◌∙◌, subst, inl, inr, arith}
use Rattle.std.proofs.lemmas.Bool.{cases_eq}
use Rattle.std.proofs.iter.Yields.{nat_range_steps}
use Rattle.std.proofs.lemmas.Iterator.{YieldsList-from_range}
use Rattle.std.proofs.lemmas.Iterator.Adapters.{option_map_id}
use Rattle.std.proofs.lemmas.Iterator.Search.{find_from_yields_List}
use denote.Param.Members.{Mut}
use denote.Ref.{Bor}
use Rattle.std.specs.declared.ops.Range.{Range}
use Rattle.std.specs.Bool.{⊤}
use Rattle.std.specs.Fn.{CalledAt}
use Rattle.std.specs.Iterator.{YieldsThen}
use Rattle.std.specs.List.{find, range_with_len, FoldsTo}
use Rattle.std.specs.Option.{IfSome, MatchOption, option_map, option_map_or}
use Rattle.std.specs.Ordering.{is_eq, is_lt}
use Rattle.model.specs.Orders.{by, if_same}
use Rattle.model.specs.Parts.{lookup, above}
use Rattle.parts.specs.declared.key.Key.{Key}
use Rattle.parts.specs.Keys.{Fields, fields_of, in_turn, order}
use Rattle.parts.proofs.Built.{Good, key_from, key_from_lem}
use Rattle.report.specs.Layout.{key_place, details_place, two_at, fields_at}
use Rattle.report.specs.Checks.{key_at, keys_from, details_at, details_from, checked}
use Rattle.report.specs.Meaning.{part_at, parts_from, parts_in}
use Rattle.report.proofs.Steps.{then_ok, told_ok, key_good}
use Rattle.report.proofs.Sound.{KeysMet, keys_met, fields_good}
use Rattle.report.proofs.Whole.{Accepted, accepted, parts_length}

-- ---- every key and all details were checked

keys_each : (file : List ℕ) (i left : ℕ) → keys_from file i left ≡ Ok tt → (k : ℕ) → i ≤ k → k < i + left → key_at file (key_place k) ≡ Ok tt
keys_each file i zero e k a b = let never : ⊥ = omega arith in absurd never
keys_each file i (suc left) e k a b =
    let m : KeysMet file i left = keys_met file i left e in
    elim (cases_eq i k) [
      | inl h ↦ subst (λ (j : ℕ). key_at file (key_place j) ≡ Ok tt) h m.key
      | inr h ↦ keys_each file (i + 1) left m.more k (omega arith) (omega arith)
    ]

details_each : (file : List ℕ) (n i left : ℕ) → details_from file n i left ≡ Ok tt → (k : ℕ) → i ≤ k → k < i + left → details_at file (details_place n k) ≡ Ok tt
details_each file n i zero e k a b = let never : ⊥ = omega arith in absurd never
details_each file n i (suc left) e k a b =
    let m = then_ok (details_at file (details_place n i)) _ tt e in
    let here : details_at file (details_place n i) ≡ Ok tt = m.1 in
    let more : details_from file n (i + 1) left ≡ Ok tt = m.2 in
    elim (cases_eq i k) [
      | inl h ↦ subst (λ (j : ℕ). details_at file (details_place n j) ≡ Ok tt) h here
      | inr h ↦ details_each file n (i + 1) left more k (omega arith) (omega arith)
    ]

-- ---- the part with a number

pub key_checked : (file : List ℕ) (n i : ℕ) → isOk (checked file) ≡ true → n ≡ two_at file 0 → i < n → isOk (key_at file (key_place i)) ≡ true
key_checked file n i ok c h =
    let a : Accepted file = accepted file (told_ok (checked file) ok) in
    ap isOk (keys_each file 0 (two_at file 0) a.keys i (omega arith) (omega arith))

pub details_checked : (file : List ℕ) (n i : ℕ) → isOk (checked file) ≡ true → n ≡ two_at file 0 → i < n → isOk (details_at file (details_place n i)) ≡ true
details_checked file n i ok c h =
    let a : Accepted file = accepted file (told_ok (checked file) ok) in
    subst (λ (m : ℕ). isOk (details_at file (details_place m i)) ≡ true) (sym c) (ap isOk (details_each file (two_at file 0) 0 (two_at file 0) a.details i (omega arith) (omega arith)))

-- the fields of a checked key are those of a key
pub checked_good : (file : List ℕ) (at : ℕ) → at + 200 ≤ length file → isOk (key_at file at) ≡ true → Good (fields_at file at)
checked_good file at l ok = fields_good file at l (key_good file at (told_ok (key_at file at) ok))

-- the order against a key where it stands
pub order_at : (k : Key) (f : Fields) → Good f → in_turn (fields_of k) f ≡ order k (key_from f)
order_at k f g = ap (in_turn (fields_of k)) (sym (key_from_lem f g))

-- ---- what the first part that passes a test answers

looked_up : {D : Type 0} (h : ℕ → D) (o : Ordering) (i : ℕ) (rest : Option D) (found : Option ℕ) → rest ≡ option_map h found → if_same o (Some (h i)) rest ≡ option_map h (cond (is_eq o) (Some i) found)
looked_up h Less i rest found e = e
looked_up h Equal i rest found e = refl
looked_up h Greater i rest found e = e

lookup_first : (file : List ℕ) (n i left : ℕ) (k : Key) → lookup order k (parts_from file n i left) ≡ option_map (λ j. (part_at file n j).details) (find (λ j. is_eq (order k (part_at file n j).key)) (range_with_len i left))
lookup_first file n i zero k = refl
lookup_first file n i (suc left) k = looked_up (λ j. (part_at file n j).details) (order k (part_at file n i).key) i _ _ (lookup_first file n (i + 1) left k)

shown : {P : Type 0} (h : ℕ → P) (o : Ordering) (i : ℕ) (rest : Option P) (found : Option ℕ) → rest ≡ option_map h found → by o (Some (h i)) rest rest ≡ option_map h (cond (is_lt o) (Some i) found)
shown h Less i rest found e = refl
shown h Equal i rest found e = e
shown h Greater i rest found e = e

above_first : {X : Type 0} (now : X → Key) (file : List ℕ) (n i left : ℕ) (q : Option X) → above order (option_map now q) (parts_from file n i left) ≡ option_map (part_at file n) (find (λ j. option_map_or (λ k. is_lt (order (now k) (part_at file n j).key)) q true) (range_with_len i left))
above_first now file n i zero None = refl
above_first now file n i zero (Some k) = refl
above_first now file n i (suc left) None = refl
above_first now file n i (suc left) (Some k) = shown (part_at file n) (order (now k) (part_at file n i).key) i _ _ (above_first now file n (i + 1) left (Some k))

found_below : (test : ℕ → Bool) (i left : ℕ) → IfSome (find test (range_with_len i left)) (λ k. k < i + left)
found_below test i zero = tt
found_below test i (suc left) = elim (test i) as (λ b. IfSome (cond b (Some i) (find test (range_with_len (i + 1) left))) (λ k. k < i + suc left)) [
  | true ↦ omega arith
  | false ↦ further (find test (range_with_len (i + 1) left)) (found_below test (i + 1) left)
]
  where
    further : (found : Option ℕ) → IfSome found (λ k. k < i + 1 + left) → IfSome found (λ k. k < i + suc left)
    further None h = tt
    further (Some k) h = omega arith

-- what `find` answers over the numbers below n, where the closure computes a test
pub found_in : {F : Type 0} {g : Mut F (Bor ℕ × Unit {0}) Bool} (test : ℕ → Bool) (n m : ℕ) → m ≡ n → (u : Range ℕ) (f : F) (r : Option ℕ) → (xs : List ℕ) × (j : F) × YieldsThen nat_range_steps (record { start = 0; end = m }) xs r u × FoldsTo (λ p x q. CalledAt g p x false q) f xs j × MatchOption r ⊤ (λ x. (h : F) × CalledAt g j x true h) → ((x : ℕ) (b : Bool) (q : F) → CalledAt g f x b q → (q ≡ f) × (b ≡ test x)) → (r ≡ find test (range_with_len 0 n)) × IfSome r (λ k. k < n)
found_in test n m same u f r ran computes =
    let is : r ≡ find test (range_with_len 0 n) = sym (option_map_id r) ∙ find_from_yields_List test u f r ran (YieldsList-from_range 0 m n refl (omega arith)) computes in
    let all : 0 + n ≡ n = omega arith in
    let below : IfSome (find test (range_with_len 0 n)) (λ k. k < n) = subst (λ (m : ℕ). IfSome (find test (range_with_len 0 n)) (λ k. k < m)) all (found_below test 0 n) in
    (is, subst (λ (o : Option ℕ). IfSome o (λ k. k < n)) (sym is) below)

pub looked_up_in : (file : List ℕ) (n : ℕ) (k : Key) → n ≡ two_at file 0 → lookup order k (parts_in file) ≡ option_map (λ j. (part_at file n j).details) (find (λ j. is_eq (order k (part_at file n j).key)) (range_with_len 0 n))
looked_up_in file n k c = (λ j. lookup order k (parts_from file (sym c j) 0 (sym c j))) ∙ lookup_first file n 0 n k

pub shown_in : {X : Type 0} (now : X → Key) (file : List ℕ) (n : ℕ) (q : Option X) → n ≡ two_at file 0 → above order (option_map now q) (parts_in file) ≡ option_map (part_at file n) (find (λ j. option_map_or (λ k. is_lt (order (now k) (part_at file n j).key)) q true) (range_with_len 0 n))
shown_in now file n q c = (λ j. above order (option_map now q) (parts_from file (sym c j) 0 (sym c j))) ∙ above_first now file n 0 n q

pub parts_count : (file : List ℕ) (n : ℕ) → n ≡ two_at file 0 → n ≡ length (parts_in file)
parts_count file n c = c ∙ sym (parts_length file (two_at file 0) 0 (two_at file 0))
