use Rattle.std.proofs.Common.{◌≡◌, ℕ, ◌-◌, min, List, [], ◌∷◌, length, take, drop, ap, ◌∙◌, arith}
use Rattle.std.proofs.lemmas.List.{take_all}
use Rattle.certificate.proofs.lent.LentCertificate.signature.Goals as goal

behind_first : (xs : List ℕ) (n : ℕ) → n ≡ min (length xs) 1 → take (length xs - n) (drop n xs) ≡ drop 1 xs
behind_first [] n e = let z : n ≡ 0 = omega arith in ap (λ (k : ℕ). take (0 - k) (drop k [])) z
behind_first (x ∷ xs) n e = let o : n ≡ 1 = omega arith in ap (λ (k : ℕ). take (length (x ∷ xs) - k) (drop k (x ∷ xs))) o ∙ take_all (length (x ∷ xs) - 1) xs (omega arith)

pub returns : goal.returns
returns c = behind_first c.of-content.result.now c.min-front.result c.min-front.ensures ∙ ap (drop 1) c.of-content.ensures
