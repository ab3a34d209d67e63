-- A length is read exactly where its bytes stand.
use Rattle.std.proofs.Common.{◌≡◌, ℕ, suc, ◌+◌, ◌-◌, ◌/◌, ◌%◌, ◌<◌, ◌≤◌, cond, ◌||◌, eqb, ltb, leb, ◌⊎◌, List, [], ◌∷◌, ◌++◌, length, get_or, Ok, Result, sym, refl, ap, ◌∙◌, subst, inl, inr, arith}
use Rattle.std.proofs.lemmas.Bool.{cases_lt}
use Rattle.std.proofs.lemmas.Bool.Decides.{nat_tests}
use Rattle.std.proofs.lemmas.List.{length-append}
use Rattle.der.specs.declared.refusal.Refusal.{Refusal}
use Rattle.der.specs.declared.refusal.Reason.TheVariants.{CutShort, LengthForm}
use Rattle.der.specs.Refusals.{refused}
use Rattle.der.specs.Numbers.{Bytes, part, value_of}
use Rattle.der.specs.Elements.{most_length_bytes, fitting, length_at}
use Rattle.der.specs.Encoding.{bytes_of, length_bytes, LengthForms}
use Rattle.der.proofs.Parts.{part_length, part_none, part_more, part_split, bytes_part, same_halves}
use Rattle.der.proofs.Digits.{First, split_small, split_large, bytes_value, bytes_read, bytes_first}

-- the two forms of the bytes of a length
pub length_short : (n : ℕ) → n < 128 → length_bytes n ≡ n ∷ []
length_short n h = grind (arith, nat_tests)

pub length_long : (n : ℕ) → 128 ≤ n → length_bytes n ≡ (128 + length (bytes_of n)) ∷ bytes_of n
length_long n h = grind (arith, nat_tests)

-- the forms one by one
one_byte : (n : ℕ) → 128 ≤ n → n < 256 → length_bytes n ≡ 0x81 ∷ n ∷ []
one_byte n h k = length_long n h ∙ ap (λ (ys : List ℕ). (128 + length ys) ∷ ys) (split_small (most_length_bytes - 1) n [] k)

two_bytes : (n : ℕ) → 256 ≤ n → length_bytes n ≡ 0x82 ∷ n / 256 ∷ n % 256 ∷ []
two_bytes n h = length_long n (omega arith) ∙ ap (λ (ys : List ℕ). (128 + length ys) ∷ ys) (split_large 0 n [] h)

pub length_forms : LengthForms
length_forms = record {
  below128 = length_short;
  below256 = one_byte;
  below65536 = λ n h k. two_bytes n h;
  longer = λ n h b. omega (arith, subst (λ (ys : List ℕ). get_or ys 1 0 < 256) (two_bytes n (omega arith)) (b 1));
}

-- the reading of a length over its first byte x, its first further byte y and what the further bytes stand for
abbrev read_by : ℕ → ℕ → ℕ → ℕ → ℕ → Result (ℕ × ℕ) Refusal
read_by at end x y v =
    cond (leb end (at + 1)) (refused CutShort at)
    (cond (ltb x 128) (fitting at end (at + 2) x)
    (cond (eqb x 128 || ltb (128 + most_length_bytes) x) (refused LengthForm at)
    (cond (ltb (end - (at + 2)) (x - 128)) (refused CutShort at)
    (cond (eqb y 0 || ltb v 128) (refused LengthForm at)
    (fitting at end (at + 2 + (x - 128)) v)))))

-- a short length that was read
pub record Short (at end x from to : ℕ) : Type 0 where
  pub small : x < 128
  pub begins : from ≡ at + 2
  pub size : to ≡ from + x

-- a long one
pub record Long (at end x y v from to : ℕ) : Type 0 where
  pub some : 128 < x
  pub few : x ≤ 128 + most_length_bytes
  pub first : 1 ≤ y
  pub large : 128 ≤ v
  pub begins : from ≡ at + 2 + (x - 128)
  pub size : to ≡ from + v

read_cases : (at end x y v from to : ℕ) → read_by at end x y v ≡ Ok (from, to) → (at + 1 < end) × (from ≤ to) × (to ≤ end) × (Short at end x from to ⊎ Long at end x y v from to)
read_cases at end x y v from to e =
    let a : at + 1 < end = grind (arith, nat_tests) in
    let b : (from ≤ to) × (to ≤ end) = grind (arith, nat_tests) in (
      a,
      b.0,
      b.1,
      elim (cases_lt x 128) [
        | inl h ↦ inl (let g : (from ≡ at + 2) × (to ≡ from + x) = grind (arith, nat_tests) in record { small = h; begins = g.0; size = g.1 })
        | inr h ↦ inr (record {
          some = grind (arith, nat_tests);
          few = grind (arith, nat_tests);
          first = grind (arith, nat_tests);
          large = grind (arith, nat_tests);
          begins = grind (arith, nat_tests);
          size = grind (arith, nat_tests);
        })
      ],
    )

read_short : (at end x y v from : ℕ) → x < 128 → from ≡ at + 2 → from + x ≤ end → read_by at end x y v ≡ Ok (from, from + x)
read_short at end x y v from a b d = grind (arith, nat_tests)

read_long : (at end x y v from : ℕ) → 128 < x → x ≤ 128 + most_length_bytes → 1 ≤ y → 128 ≤ v → from ≡ at + 2 + (x - 128) → from + v ≤ end → read_by at end x y v ≡ Ok (from, from + v)
read_long at end x y v from a b d e f g = grind (arith, nat_tests)

-- a length that was read: the bytes between the tag and the content are those of the content's length
pub record Measured (file : List ℕ) (at end from to : ℕ) : Type 0 where
  pub some : at + 1 < end
  pub behind : at + 1 < from
  pub ordered : from ≤ to
  pub within : to ≤ end
  pub bytes : part file (at + 1) from ≡ length_bytes (to - from)

short_sound : (file : List ℕ) (at end from to : ℕ) → end ≤ length file → at + 1 < end → Short at end (get_or file (at + 1) 0) from to → part file (at + 1) from ≡ length_bytes (to - from)
short_sound file at end from to l h s =
    let x : ℕ = get_or file (at + 1) 0 in
    let size : to - from ≡ x = omega (arith, s.size) in
    let begins : part file (at + 1) from ≡ x ∷ part file (at + 1 + 1) from = part_more file (at + 1) from (omega (arith, s.begins)) (omega (arith, s.begins)) in
    let none : part file (at + 1 + 1) from ≡ [] = part_none file (at + 1 + 1) from (omega (arith, s.begins)) in
    begins ∙ (ap (λ (ys : List ℕ). x ∷ ys) none ∙ (sym (length_short x s.small) ∙ ap (λ (n : ℕ). length_bytes n) (sym size)))

long_sound : (file : List ℕ) (at end from to : ℕ) → Bytes file → from ≤ length file → Long at end (get_or file (at + 1) 0) (get_or file (at + 2) 0) (value_of (part file (at + 2) (at + 2 + (get_or file (at + 1) 0 - 128)))) from to → part file (at + 1) from ≡ length_bytes (to - from)
long_sound file at end from to b l s =
    let x : ℕ = get_or file (at + 1) 0 in
    let y : ℕ = get_or file (at + 2) 0 in
    let begins : from ≡ at + 2 + (x - 128) = s.begins in
    let some : 128 < x = s.some in
    let few : x ≤ 128 + most_length_bytes = s.few in
    let ds : List ℕ = part file (at + 2) from in
    let tail : List ℕ = part file (at + 2 + 1) from in
    let cut : ds ≡ y ∷ tail = part_more file (at + 2) from (omega arith) l in
    let tail_length : length tail ≡ from - (at + 2 + 1) = part_length file (at + 2 + 1) from l in
    let ds_length : length ds ≡ from - (at + 2) = part_length file (at + 2) from l in
    let fine : Bytes (y ∷ tail) = subst (λ (ys : List ℕ). Bytes ys) cut (bytes_part file (at + 2) from b) in
    let again : bytes_of (value_of ds) ≡ ds = ap (λ (ys : List ℕ). bytes_of (value_of ys)) cut ∙ (bytes_read y tail fine s.first (omega arith) ∙ sym cut) in
    let value : to - from ≡ value_of ds = (let same : value_of (part file (at + 2) (at + 2 + (x - 128))) ≡ value_of ds = ap (λ (m : ℕ). value_of (part file (at + 2) m)) (sym begins) in omega (arith, s.size)) in
    let large : 128 ≤ value_of ds = (let same : value_of (part file (at + 2) (at + 2 + (x - 128))) ≡ value_of ds = ap (λ (m : ℕ). value_of (part file (at + 2) m)) (sym begins) in omega (arith, s.large)) in
    let count : x ≡ 128 + length (bytes_of (value_of ds)) = (let k : length (bytes_of (value_of ds)) ≡ length ds = ap length again in omega arith) in
    let next : at + 1 + 1 ≡ at + 2 = omega arith in
    part_more file (at + 1) from (omega arith) l
    ∙ (ap (λ (m : ℕ). x ∷ part file m from) next
    ∙ (ap (λ (n : ℕ). n ∷ ds) count
    ∙ (ap (λ (ys : List ℕ). (128 + length (bytes_of (value_of ds))) ∷ ys) (sym again)
    ∙ (sym (length_long (value_of ds) large)
    ∙ ap (λ (n : ℕ). length_bytes n) (sym value)))))

pub length_sound : (file : List ℕ) (at end from to : ℕ) → Bytes file → end ≤ length file → length_at file at end ≡ Ok (from, to) → Measured file at end from to
length_sound file at end from to b l e =
    let q = read_cases at end (get_or file (at + 1) 0) (get_or file (at + 2) 0) (value_of (part file (at + 2) (at + 2 + (get_or file (at + 1) 0 - 128)))) from to e in
    record {
      some = q.0;
      ordered = q.1;
      within = q.2;
      behind = elim q.3 [ inl s ↦ omega (arith, s.begins) | inr s ↦ omega (arith, s.begins, s.some) ];
      bytes = elim q.3 [ inl s ↦ short_sound file at end from to l q.0 s | inr s ↦ long_sound file at end from to b (omega (arith, q.1, q.2)) s ];
    }

-- where the bytes of a length stand, and content enough behind them, a length is read
short_complete : (file : List ℕ) (at end n : ℕ) (xs : List ℕ) → end ≤ length file → n < 128 → part file (at + 1) end ≡ n ∷ xs → n ≤ length xs → (from to : ℕ) × (length_at file at end ≡ Ok (from, to))
short_complete file at end n xs l h e enough =
    let long : end - (at + 1) ≡ suc (length xs) = sym (part_length file (at + 1) end l) ∙ ap length e in
    let cut = part_more file (at + 1) end (omega arith) l in
    let x : get_or file (at + 1) 0 ≡ n = cc in
    (at + 2, at + 2 + get_or file (at + 1) 0, read_short at end (get_or file (at + 1) 0) (get_or file (at + 2) 0) (value_of (part file (at + 2) (at + 2 + (get_or file (at + 1) 0 - 128)))) (at + 2) (omega arith) refl (omega arith))

long_complete : (file : List ℕ) (at end n : ℕ) (xs : List ℕ) → end ≤ length file → 128 ≤ n → part file (at + 1) end ≡ (128 + length (bytes_of n)) ∷ (bytes_of n ++ xs) → n ≤ length xs → (from to : ℕ) × (length_at file at end ≡ Ok (from, to))
long_complete file at end n xs l h e enough =
    let ds : List ℕ = bytes_of n in
    let p : First ds (most_length_bytes - 1) = bytes_first n (omega arith) in
    let k : length ds ≡ suc (length p.tail) = ap length p.is in
    let joined : length (ds ++ xs) ≡ length ds + length xs = length-append ds xs in
    let long : end - (at + 1) ≡ suc (length (ds ++ xs)) = sym (part_length file (at + 1) end l) ∙ ap length e in
    let cut : part file (at + 1) end ≡ get_or file (at + 1) 0 ∷ part file (at + 1 + 1) end = part_more file (at + 1) end (omega arith) l in
    let x : get_or file (at + 1) 0 ≡ 128 + length ds = cc in
    let next : at + 1 + 1 ≡ at + 2 = omega arith in
    let behind : part file (at + 2) end ≡ ds ++ xs = (let moved : part file (at + 1 + 1) end ≡ part file (at + 2) end = ap (λ (m : ℕ). part file m end) next in cc) in
    let mid : ℕ = at + 2 + (get_or file (at + 1) 0 - 128) in
    let split : part file (at + 2) end ≡ part file (at + 2) mid ++ part file mid end = part_split file (at + 2) mid end (omega arith) (omega arith) l in
    let front_length : length (part file (at + 2) mid) ≡ mid - (at + 2) = part_length file (at + 2) mid (omega arith) in
    let halves = same_halves (part file (at + 2) mid) ds (part file mid end) xs (omega arith) (sym split ∙ behind) in
    let value : value_of (part file (at + 2) mid) ≡ n = ap (λ (ys : List ℕ). value_of ys) halves.0 ∙ bytes_value n in
    let first_cut : part file (at + 2) mid ≡ get_or file (at + 2) 0 ∷ part file (at + 2 + 1) mid = part_more file (at + 2) mid (omega arith) (omega arith) in
    let y : get_or file (at + 2) 0 ≡ p.head = (let i = p.is in let f = halves.0 in cc) in
    (mid, mid + value_of (part file (at + 2) mid), read_long at end (get_or file (at + 1) 0) (get_or file (at + 2) 0) (value_of (part file (at + 2) mid)) mid (omega arith) (omega (arith, p.few)) (omega (arith, p.some)) (omega arith) refl (omega arith))

pub length_complete : (file : List ℕ) (at end n : ℕ) (xs : List ℕ) → end ≤ length file → part file (at + 1) end ≡ length_bytes n ++ xs → n ≤ length xs → (from to : ℕ) × (length_at file at end ≡ Ok (from, to))
length_complete file at end n xs l e enough = elim (cases_lt n 128) [
  | inl h ↦ short_complete file at end n xs l h (e ∙ ap (λ (ys : List ℕ). ys ++ xs) (length_short n h)) enough
  | inr h ↦ long_complete file at end n xs l h (e ∙ ap (λ (ys : List ℕ). ys ++ xs) (length_long n h)) enough
]

-- no two lengths begin alike
pub length_unique : (n m : ℕ) (x y : List ℕ) → length_bytes n ++ x ≡ length_bytes m ++ y → (n ≡ m) × (x ≡ y)
length_unique n m x y e =
    let joins : (p q : List ℕ) → length_bytes n ≡ p → length_bytes m ≡ q → p ++ x ≡ q ++ y = λ p q u v. sym (ap (λ (ys : List ℕ). ys ++ x) u) ∙ (e ∙ ap (λ (ys : List ℕ). ys ++ y) v) in
    elim (cases_lt n 128) [
      | inl h ↦ elim (cases_lt m 128) [
        | inl k ↦ (let f = joins (n ∷ []) (m ∷ []) (length_short n h) (length_short m k) in (cc, cc))
        | inr k ↦
            let f = joins (n ∷ []) ((128 + length (bytes_of m)) ∷ bytes_of m) (length_short n h) (length_long m k) in
            let heads : n ≡ 128 + length (bytes_of m) = cc in
            let never : ⊥ = omega arith in absurd never
      ]
      | inr h ↦ elim (cases_lt m 128) [
        | inl k ↦
            let f = joins ((128 + length (bytes_of n)) ∷ bytes_of n) (m ∷ []) (length_long n h) (length_short m k) in
            let heads : 128 + length (bytes_of n) ≡ m = cc in
            let never : ⊥ = omega arith in absurd never
        | inr k ↦
            let f = joins ((128 + length (bytes_of n)) ∷ bytes_of n) ((128 + length (bytes_of m)) ∷ bytes_of m) (length_long n h) (length_long m k) in
            let heads : 128 + length (bytes_of n) ≡ 128 + length (bytes_of m) = cc in
            let halves = same_halves (bytes_of n) (bytes_of m) x y (omega arith) (cc) in
            (sym (bytes_value n) ∙ (ap (λ (ys : List ℕ). value_of ys) halves.0 ∙ bytes_value m), halves.1)
      ]
    ]
