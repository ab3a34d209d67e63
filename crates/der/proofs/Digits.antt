-- A number and its bytes.
use Rattle.std.proofs.Common.{◌≡◌, ℕ, zero, suc, ◌+◌, ◌-◌, ◌*◌, ◌/◌, ◌%◌, ◌^◌, ◌<◌, ◌≤◌, List, [], ◌∷◌, ◌++◌, length, refl, ap, ◌∙◌, inl, inr, add-zero, pow-suc, div-add-mod', add-one, arith}
use native.Mathlib.Nat.{pow-le-pow_right}
use Rattle.std.proofs.lemmas.Bool.{cases_lt, lt-ltb, le-ltb}
use Rattle.std.proofs.lemmas.List.{append-nil}
use Rattle.der.specs.Numbers.{Bytes, continued, value_of}
use Rattle.der.specs.Elements.{most_length_bytes}
use Rattle.der.specs.Encoding.{split_up, bytes_of}

-- a byte more makes at most 256 times as much
pub more_below : (v b i : ℕ) → v < 256 ^ i → b < 256 → v * 256 + b < 256 ^ (i + 1)
more_below v b i h k =
    let grows : 256 ^ (i + 1) ≡ 256 ^ i * 256 = ap (λ (n : ℕ). 256 ^ n) (add-one i) ∙ pow-suc 256 i in
    omega arith

-- what fewer than seven bytes stand for has room for a byte more in 64 bits
pub few_below : (v i : ℕ) → v < 256 ^ i → i ≤ 6 → v < 256 ^ 6
few_below v i h few =
    let grows : 256 ^ i ≤ 256 ^ 6 = pow-le-pow_right {n = 256} (omega arith) {i = i} {j = 6} few in
    omega arith

pub value_cons : (x : ℕ) (xs : List ℕ) → value_of (x ∷ xs) ≡ continued x xs
value_cons x xs = let z : 0 * 256 + x ≡ x = omega arith in ap (λ (v : ℕ). continued v xs) z

-- a split in a small and in a large number
pub split_small : (times top : ℕ) (rest : List ℕ) → top < 256 → split_up times top rest ≡ top ∷ rest
split_small zero top rest h = refl
split_small (suc times) top rest h = rw (lt-ltb top 256 h) refl

pub split_large : (times top : ℕ) (rest : List ℕ) → 256 ≤ top → split_up (suc times) top rest ≡ split_up times (top / 256) (top % 256 ∷ rest)
split_large times top rest h = rw (le-ltb top 256 h) refl

-- splitting does not change what the bytes stand for
pub split_value : (times top : ℕ) (rest : List ℕ) → value_of (split_up times top rest) ≡ continued top rest
split_value zero top rest = value_cons top rest
split_value (suc times) top rest = elim (cases_lt top 256) [
  | inl h ↦ ap (λ (xs : List ℕ). value_of xs) (split_small (suc times) top rest h) ∙ value_cons top rest
  | inr h ↦ ap (λ (xs : List ℕ). value_of xs) (split_large times top rest h) ∙ (split_value times (top / 256) (top % 256 ∷ rest) ∙ ap (λ (v : ℕ). continued v rest) (div-add-mod' top 256))
]

pub bytes_value : (n : ℕ) → value_of (bytes_of n) ≡ n
bytes_value n = split_value (most_length_bytes - 1) n []

-- bytes that were read are split off again, one by one
pub split_read : (times top : ℕ) (xs rest : List ℕ) → Bytes xs → 1 ≤ top → split_up (times + length xs) (continued top xs) rest ≡ split_up times top (xs ++ rest)
split_read times top [] rest b h = ap (λ (n : ℕ). split_up n top rest) (add-zero times)
split_read times top (x ∷ xs) rest b h =
    let small : x < 256 = b 0 in
    let count : times + suc (length xs) ≡ suc times + length xs = omega arith in
    let high : (top * 256 + x) / 256 ≡ top = omega arith in
    let low : (top * 256 + x) % 256 ≡ x = omega arith in
    ap (λ (n : ℕ). split_up n (continued (top * 256 + x) xs) rest) count
    ∙ (split_read (suc times) (top * 256 + x) xs rest (λ k. b (suc k)) (omega arith)
    ∙ (split_large times (top * 256 + x) (xs ++ rest) (omega arith)
    ∙ (ap (λ (n : ℕ). split_up times n ((top * 256 + x) % 256 ∷ (xs ++ rest))) high
    ∙ ap (λ (n : ℕ). split_up times top (n ∷ (xs ++ rest))) low)))

-- bytes of which the first is not 0 are the bytes of what they stand for
pub bytes_read : (x : ℕ) (xs : List ℕ) → Bytes (x ∷ xs) → 1 ≤ x → length xs < most_length_bytes → bytes_of (value_of (x ∷ xs)) ≡ x ∷ xs
bytes_read x xs b h few =
    let small : x < 256 = b 0 in
    let spare : ℕ = most_length_bytes - 1 - length xs in
    let count : most_length_bytes - 1 ≡ spare + length xs = omega arith in
    ap (λ (v : ℕ). bytes_of v) (value_cons x xs)
    ∙ (ap (λ (n : ℕ). split_up n (continued x xs) []) count
    ∙ (split_read spare x xs [] (λ k. b (suc k)) h
    ∙ (ap (λ (ys : List ℕ). split_up spare x ys) (append-nil xs)
    ∙ split_small spare x xs small)))

-- the bytes of a number above 0: the first is not 0, and there are not too many
pub record First (xs : List ℕ) (most : ℕ) : Type 0 where
  pub head : ℕ
  pub tail : List ℕ
  pub is : xs ≡ head ∷ tail
  pub some : 1 ≤ head
  pub few : length tail ≤ most

pub split_first : (times top : ℕ) (rest : List ℕ) → 1 ≤ top → First (split_up times top rest) (times + length rest)
split_first zero top rest h = record { head = top; tail = rest; is = refl; some = h; few = omega arith }
split_first (suc times) top rest h = elim (cases_lt top 256) [
  | inl k ↦ record { head = top; tail = rest; is = split_small (suc times) top rest k; some = h; few = omega arith }
  | inr k ↦
      let p = split_first times (top / 256) (top % 256 ∷ rest) (omega arith) in
      let n : times + suc (length rest) ≡ suc times + length rest = omega arith in
      record { head = p.head; tail = p.tail; is = split_large times top rest k ∙ p.is; some = p.some; few = omega (arith, p.few) }
]

pub bytes_first : (n : ℕ) → 1 ≤ n → First (bytes_of n) (most_length_bytes - 1)
bytes_first n h = let p = split_first (most_length_bytes - 1) n [] h in record { head = p.head; tail = p.tail; is = p.is; some = p.some; few = omega (arith, p.few) }
