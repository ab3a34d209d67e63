-- Spans that reach behind the file.
use Rattle.std.proofs.Common.{◌≡◌, ℕ, ◌-◌, min, List, length, take, drop, sym, ap, ◌∙◌, inl, inr, arith}
use Rattle.std.proofs.lemmas.Bool.{cases_lt}
use Rattle.std.proofs.lemmas.List.{take_all, length-drop, drop_all}
use Rattle.der.specs.Numbers.{part}
use Rattle.der.proofs.Parts.{part_none}

pub cut_within : (file : List ℕ) (from to a b : ℕ) → b ≡ min to (length file) → a ≡ min from b → part file a b ≡ part file from to
cut_within file from to a b eb ea = elim (cases_lt from b) [
  | inl h ↦ (
      let same : a ≡ from = omega arith in
      ap (λ (x : ℕ). take (b - x) (drop x file)) same
      ∙ elim (cases_lt (length file) to) [
        | inl k ↦ take_all (b - from) (drop from file) (omega (arith, length-drop from file)) ∙ sym (take_all (to - from) (drop from file) (omega (arith, length-drop from file)))
        | inr k ↦ (let e : b ≡ to = omega arith in ap (λ (x : ℕ). take (x - from) (drop from file)) e)
      ]
      )
  | inr h ↦ (
      let none : part file a b ≡ _ = part_none file a b (omega arith) in
      none ∙ elim (cases_lt (length file) to) [
        | inl k ↦ sym (take_all (to - from) (drop from file) (omega (arith, length-drop from file)) ∙ drop_all from file (omega arith))
        | inr k ↦ sym (part_none file from to (omega arith))
      ]
      )
]
