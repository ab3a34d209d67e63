-- Each test of a content means what its rule says.
use Rattle.std.proofs.Common.{◌≡◌, ℕ, zero, suc, ◌+◌, ◌-◌, ◌*◌, ◌<◌, ◌≤◌, true, false, eqb, List, [], ◌∷◌, length, get_or, take, Decides, sym, refl, ◌∙◌, subst, inl, inr, arith}
use Rattle.std.proofs.lemmas.Bool.Decides.{nat_tests}
use Rattle.std.proofs.lemmas.Bool.{and_parts, and_from, cases_eq, ltb-true, lt-ltb, eqb-true, eq-eqb}
use Rattle.std.proofs.lemmas.List.{length-take-le, get_or-take}
use Rattle.der.specs.Numbers.{continued, value_of}
use Rattle.der.specs.Contents.{Integer, is_integer, Serial, is_serial, Identifier, identifier_behind, is_identifier}
use Rattle.der.specs.Times.{two_digits, Between, is_between, Time, all_digits, is_time_shaped, is_in_calendar, is_time}

pub integer_decides : (c : List ℕ) → Decides (is_integer c) (Integer c)
integer_decides c = (
  λ e. record { some = grind (arith, nat_tests); not_zeros = λ h k. grind (arith, nat_tests); not_ones = λ h k. grind (arith, nat_tests) },
  λ i. let some = i.some in let zeros = i.not_zeros in let ones = i.not_ones in grind (arith, nat_tests),
)

-- further bytes make no number smaller
pub continued_grows : (n : ℕ) (xs : List ℕ) → n ≤ continued n xs
continued_grows n [] = omega arith
continued_grows n (x ∷ xs) = let h = continued_grows (n * 256 + x) xs in omega arith

not_zero_lem : (x y : ℕ) (xs : List ℕ) → Integer (x ∷ y ∷ xs) → 0 < value_of (x ∷ y ∷ xs)
not_zero_lem x y xs i =
    let grows = continued_grows ((0 * 256 + x) * 256 + y) xs in
    elim (cases_eq x 0) [ inl z ↦ omega (arith, i.not_zeros (omega arith) z) | inr z ↦ omega arith ]

pub serial_decides : (c : List ℕ) → Decides (is_serial c) (Serial c)
serial_decides [] = (λ e. let never : ◌≡◌ {A = ℕ} 0 1 = cc in let no : ⊥ = omega arith in absurd no, λ s. let never : ⊥ = omega (arith, s.integer.some) in absurd never)
serial_decides (x ∷ []) = (
  λ e. record { integer = (integer_decides (x ∷ [])).0 refl; few = omega arith; not_negative = grind (arith, nat_tests); not_zero = (let h : 0 < x = grind (arith, nat_tests) in omega arith) },
  λ s. let a = s.not_negative in let b = s.not_zero in let h : 0 < x = omega arith in grind (arith, nat_tests),
)
serial_decides (x ∷ y ∷ xs) = (
  λ e.
      let p = and_parts (is_integer (x ∷ y ∷ xs)) _ e in
      let i = (integer_decides (x ∷ y ∷ xs)).0 p.0 in
      record { integer = i; few = grind (arith, nat_tests); not_negative = grind (arith, nat_tests); not_zero = not_zero_lem x y xs i },
  λ s. let a = s.not_negative in let b = s.few in and_from _ _ ((integer_decides (x ∷ y ∷ xs)).1 s.integer) (grind (arith, nat_tests)),
)

-- the rule of identifiers behind a byte that was read
record Behind (last : ℕ) (c : List ℕ) : Type 0 where
  ended : get_or (last ∷ c) (length c) 0 < 128
  shortest : (k : ℕ) → k < length c → get_or c k 0 ≡ 128 → 128 ≤ get_or (last ∷ c) k 0

shortest_more : (last x : ℕ) (xs : List ℕ) → (x ≡ 128 → 128 ≤ last) → ((k : ℕ) → k < length xs → get_or xs k 0 ≡ 128 → 128 ≤ get_or (x ∷ xs) k 0) → (k : ℕ) → k < length (x ∷ xs) → get_or (x ∷ xs) k 0 ≡ 128 → 128 ≤ get_or (last ∷ x ∷ xs) k 0
shortest_more last x xs here rest zero h e = here e
shortest_more last x xs here rest (suc k) h e = rest k (omega arith) e

-- one byte on, and where the reading stops
pub behind_more : (last x : ℕ) (xs : List ℕ) → (x ≡ 128 → 128 ≤ last) → identifier_behind last (x ∷ xs) ≡ identifier_behind x xs
behind_more last x xs here = elim (cases_eq x 128) [ inl e ↦ (let h = here e in grind (arith, nat_tests)) | inr e ↦ grind (arith, nat_tests) ]

pub behind_stop : (last x : ℕ) (xs : List ℕ) → x ≡ 128 → last < 128 → identifier_behind last (x ∷ xs) ≡ false
behind_stop last x xs e h = grind (arith, nat_tests)

behind_decides : (last : ℕ) (c : List ℕ) → Decides (identifier_behind last c) (Behind last c)
behind_decides last [] = (λ e. record { ended = ltb-true last 128 e; shortest = λ k h. let never : ⊥ = omega arith in absurd never }, λ b. let h = b.ended in grind (arith, nat_tests))
behind_decides last (x ∷ xs) = (
  λ e.
      let here : x ≡ 128 → 128 ≤ last = λ z. grind (arith, nat_tests) in
      let b : Behind x xs = (behind_decides x xs).0 (sym (behind_more last x xs here) ∙ e) in
      record { ended = b.ended; shortest = shortest_more last x xs here b.shortest },
  λ b.
      behind_more last x xs (b.shortest 0 (omega arith))
      ∙ (behind_decides x xs).1 (record { ended = b.ended; shortest = λ k h. b.shortest (suc k) (omega arith) }),
)

needed : (xs : List ℕ) → ((k : ℕ) → k < length xs → get_or xs k 0 ≡ 128 → 128 ≤ get_or (0 ∷ xs) k 0) → (k : ℕ) → k < length xs → get_or xs k 0 ≡ 128 → (0 < k) × (128 ≤ get_or xs (k - 1) 0)
needed xs rest zero h e = let never : ⊥ = omega (arith, rest 0 h e) in absurd never
needed xs rest (suc k) h e = let back : suc k - 1 ≡ k = omega arith in (omega arith, rw back (rest (suc k) h e))

needed_back : (xs : List ℕ) → ((k : ℕ) → k < length xs → get_or xs k 0 ≡ 128 → (0 < k) × (128 ≤ get_or xs (k - 1) 0)) → (k : ℕ) → k < length xs → get_or xs k 0 ≡ 128 → 128 ≤ get_or (0 ∷ xs) k 0
needed_back xs rest zero h e = let never : ⊥ = omega (arith, (rest 0 h e).0) in absurd never
needed_back xs rest (suc k) h e = let back : suc k - 1 ≡ k = omega arith in rw back at (rest (suc k) h e).1

pub identifier_decides : (c : List ℕ) → Decides (is_identifier c) (Identifier c)
identifier_decides [] = (λ e. let never : ◌≡◌ {A = ℕ} 0 1 = cc in let no : ⊥ = omega arith in absurd no, λ i. let never : ⊥ = omega (arith, i.some) in absurd never)
identifier_decides (x ∷ xs) =
    let last : suc (length xs) - 1 ≡ length xs = omega arith in
    let some : is_identifier (x ∷ xs) ≡ identifier_behind 0 (x ∷ xs) = rw (lt-ltb 0 (suc (length xs)) (omega arith)) refl in (
      λ e.
          let b = (behind_decides 0 (x ∷ xs)).0 (sym some ∙ e) in
          record { some = omega arith; ended = rw last b.ended; shortest = needed (x ∷ xs) b.shortest },
      λ i. some ∙ (behind_decides 0 (x ∷ xs)).1 (record { ended = rw last at i.ended; shortest = needed_back (x ∷ xs) i.shortest }),
    )

between_decides : (low n high : ℕ) → Decides (is_between low n high) (Between low n high)
between_decides low n high = (
  λ e. record { least = grind (arith, nat_tests); most = grind (arith, nat_tests) },
  λ b. let l = b.least in let m = b.most in grind (arith, nat_tests),
)

digits_each : (xs : List ℕ) → all_digits xs ≡ true → (k : ℕ) → k < length xs → Between 48 (get_or xs k 0) 57
digits_each [] e k h = let never : ⊥ = omega arith in absurd never
digits_each (x ∷ xs) e zero h = (between_decides 48 x 57).0 (and_parts (is_between 48 x 57) (all_digits xs) e).0
digits_each (x ∷ xs) e (suc k) h = digits_each xs (and_parts (is_between 48 x 57) (all_digits xs) e).1 k (omega arith)

digits_all : (xs : List ℕ) → ((k : ℕ) → k < length xs → Between 48 (get_or xs k 0) 57) → all_digits xs ≡ true
digits_all [] h = refl
digits_all (x ∷ xs) h = and_from _ _ ((between_decides 48 x 57).1 (h 0 (omega arith))) (digits_all xs (λ k l. h (suc k) (omega arith)))

-- the first fourteen bytes of fifteen
fourteen_decides : (c : List ℕ) → length c ≡ 15 → Decides (all_digits (take 14 c)) ((k : ℕ) → k < 14 → Between 48 (get_or c k 0) 57)
fourteen_decides c n =
    let size : length (take 14 c) ≡ 14 = length-take-le 14 c (omega arith) in
    let same : (k : ℕ) → k < 14 → get_or (take 14 c) k 0 ≡ get_or c k 0 = λ k h. get_or-take 14 c k 0 h in (
      λ e k h. subst (λ (x : ℕ). Between 48 x 57) (same k h) (digits_each (take 14 c) e k (omega arith)),
      λ f. digits_all (take 14 c) (λ k h. subst (λ (x : ℕ). Between 48 x 57) (sym (same k (omega arith))) (f k (omega arith))),
    )

pub time_decides : (c : List ℕ) → Decides (is_time c) (Time c)
time_decides c = (
  λ e.
      let parts = and_parts (is_time_shaped c) _ e in
      let shaped = and_parts (eqb (length c) 15) _ parts.0 in
      let n : length c ≡ 15 = eqb-true (length c) 15 shaped.0 in
      let digits = and_parts (all_digits (take 14 c)) _ shaped.1 in
      let numbers = and_parts (is_in_calendar c) _ parts.1 in
      let date = and_parts (is_between 1 (two_digits c 4) 12) _ numbers.0 in
      let hour = and_parts (is_between 0 (two_digits c 8) 23) _ numbers.1 in
      let minute = and_parts (is_between 0 (two_digits c 10) 59) _ hour.1 in
      record {
        size = n;
        digits = (fourteen_decides c n).0 digits.0;
        zone = eqb-true (get_or c 14 0) 90 digits.1;
        month = (between_decides _ _ _).0 date.0;
        day = (between_decides _ _ _).0 date.1;
        hour = (between_decides _ _ _).0 hour.0;
        minute = (between_decides _ _ _).0 minute.0;
        second = (between_decides _ _ _).0 minute.1;
      },
  λ t.
      and_from _ _
      (and_from _ _ (eq-eqb (length c) 15 t.size) (and_from _ _ ((fourteen_decides c t.size).1 t.digits) (eq-eqb (get_or c 14 0) 90 t.zone)))
      (and_from _ _
      (and_from _ _ ((between_decides _ _ _).1 t.month) ((between_decides _ _ _).1 t.day))
      (and_from _ _ ((between_decides _ _ _).1 t.hour) (and_from _ _ ((between_decides _ _ _).1 t.minute) ((between_decides _ _ _).1 t.second)))),
)
