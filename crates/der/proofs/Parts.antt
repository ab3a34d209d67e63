-- Parts of a list: how long they are, how they split, what their first elements are.
use Rattle.std.proofs.Common.{◌≡◌, ℕ, suc, ◌+◌, ◌-◌, ◌<◌, ◌≤◌, List, [], ◌∷◌, ◌++◌, length, get_or, take, drop, sym, refl, ap, ◌∙◌, inl, inr, arith}
use Rattle.std.proofs.lemmas.Bool.{cases_lt}
use Rattle.std.proofs.lemmas.List.{take_rest, take_at, drop_at, length-take, length-drop, drop_more, take-append-drop, drop-drop, take-take, drop-take, get_or-take, get_or-drop, get_or_past}
use Rattle.der.specs.Numbers.{Bytes, part}

pub part_length : (xs : List ℕ) (from to : ℕ) → to ≤ length xs → length (part xs from to) ≡ to - from
part_length xs from to h = simp (length-take, length-drop) (omega arith)

pub part_none : (xs : List ℕ) (from to : ℕ) → to ≤ from → part xs from to ≡ []
part_none xs from to h = let z : to - from ≡ 0 = omega arith in rw z refl

pub part_all : (xs : List ℕ) (from : ℕ) → part xs from (length xs) ≡ drop from xs
part_all xs from = take_rest xs from

pub part_more : (xs : List ℕ) (from to : ℕ) → from < to → to ≤ length xs → part xs from to ≡ get_or xs from 0 ∷ part xs (from + 1) to
part_more xs from to h l =
    let e : drop from xs ≡ get_or xs from 0 ∷ drop (from + 1) xs = drop_more xs from 0 (omega arith) in
    let n : to - from ≡ suc (to - (from + 1)) = omega arith in
    rw (e, n) refl

pub part_split : (xs : List ℕ) (from mid to : ℕ) → from ≤ mid → mid ≤ to → to ≤ length xs → part xs from to ≡ part xs from mid ++ part xs mid to
part_split xs from mid to h k l =
    let n : to - from ≡ (mid - from) + (to - mid) = omega arith in
    let m : from + (mid - from) ≡ mid = omega arith in
    let behind : drop (mid - from) (drop from xs) ≡ drop mid xs = drop-drop (mid - from) from xs ∙ ap (λ (x : ℕ). drop x xs) m in
    let whole : take (to - from) (drop from xs) ≡ take (mid - from) (take (to - from) (drop from xs)) ++ drop (mid - from) (take (to - from) (drop from xs)) = sym (take-append-drop (mid - from) (take (to - from) (drop from xs))) in
    let front : take (mid - from) (take (to - from) (drop from xs)) ≡ take (mid - from) (drop from xs) = take-take (mid - from) (to - from) (drop from xs) (omega arith) in
    let back : drop (mid - from) (take (to - from) (drop from xs)) ≡ take (to - mid) (drop mid xs) = ap (λ (k : ℕ). drop (mid - from) (take k (drop from xs))) n ∙ (drop-take (mid - from) (to - mid) (drop from xs) ∙ ap (take (to - mid)) behind) in
    cc

pub bytes_part : (xs : List ℕ) (from to : ℕ) → Bytes xs → Bytes (part xs from to)
bytes_part xs from to b k = elim (cases_lt k (to - from)) [
  | inl h ↦ omega (arith, get_or-take (to - from) (drop from xs) k 0 h, get_or-drop from xs k 0, b (from + k))
  | inr h ↦ omega (arith, get_or_past (part xs from to) k 0 (simp length-take (omega arith)))
]

-- two lists that are joined alike, with fronts of one length, are alike in front and behind
pub same_halves : (a b x y : List ℕ) → length a ≡ length b → a ++ x ≡ b ++ y → (a ≡ b) × (x ≡ y)
same_halves a b x y n e = (
  sym (take_at a x _ refl) ∙ (ap (take (length a)) e ∙ take_at b y (length a) (sym n)),
  sym (drop_at a x _ refl) ∙ (ap (drop (length a)) e ∙ drop_at b y (length a) (sym n)),
)
