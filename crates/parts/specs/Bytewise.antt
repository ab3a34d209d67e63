-- Byte strings in their order.
use Rattle.std.specs.Prelude.{◌≡◌, ℕ, ◌<◌, List, [], ◌∷◌, ◌++◌}
use Rattle.std.specs.declared.cmp.Ordering.TheVariants.{Less, Equal, Greater}
use Rattle.std.specs.declared.cmp.Ordering.{Ordering}
use Rattle.std.specs.Ordering.{ordering_then, nat_cmp}

-- byte by byte, a proper beginning first
abbrev pub lexed : List ℕ → List ℕ → Ordering
lexed [] [] = Equal
lexed [] (y ∷ ys) = Less
lexed (x ∷ xs) [] = Greater
lexed (x ∷ xs) (y ∷ ys) = ordering_then (nat_cmp x y) (lexed xs ys)

-- what that comes to: a proper beginning is less, and else the first byte that differs decides
pub record ByteOrder : Type 0 where
  pub beginning : (xs ys : List ℕ) (y : ℕ) → lexed xs (xs ++ y ∷ ys) ≡ Less
  pub differing : (p xs ys : List ℕ) (x y : ℕ) → x < y → lexed (p ++ x ∷ xs) (p ++ y ∷ ys) ≡ Less
