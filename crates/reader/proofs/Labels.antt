-- Byte strings compared, and entries told apart by their labels.
use Rattle.std.proofs.Common.{◌≡◌, ℕ, List, [], ◌∷◌, ◌++◌, Decides, sym, subst, inl, inr}
use Rattle.std.proofs.lemmas.Slice.Eq.{bytes_eq-Decides}
use Rattle.reader.specs.Readers.{same}
use Rattle.reader.specs.Syntax.{Each, Among, Absent, Apart}

pub same_decides : (xs ys : List ℕ) → Decides (same xs ys) (xs ≡ ys)
unfolding same
same_decides xs ys = bytes_eq-Decides xs ys

-- of one that keeps two rules
pub among_weaker : {X : Type 0} (P Q : X → Type 0) (xs : List X) → ((x : X) → P x → Q x) → Among P xs → Among Q xs
among_weaker P Q [] w a = a
among_weaker P Q (x ∷ xs) w (inl h) = inl (w x h)
among_weaker P Q (x ∷ xs) w (inr h) = inr (among_weaker P Q xs w h)

pub among_each : {X : Type 0} (P Q : X → Type 0) (xs : List X) → Among P xs → Each Q xs → Among (λ x. P x × Q x) xs
among_each P Q [] a e = absurd a
among_each P Q (x ∷ xs) (inl h) e = inl (h, e.0)
among_each P Q (x ∷ xs) (inr h) e = inr (among_each P Q xs h e.1)

module _ {X L : Type 0} (label : X → L) where
  absent_front : (l : L) (xs : List X) (x : X) → Absent label l (xs ++ x ∷ []) → Absent label l xs
  absent_front l [] x a = tt
  absent_front l (y ∷ xs) x a = (a.0, absent_front l xs x a.1)

  absent_last : (l : L) (xs : List X) (x : X) → Absent label l (xs ++ x ∷ []) → l ≡ label x → ⊥
  absent_last l [] x a = a.0
  absent_last l (y ∷ xs) x a = absent_last l xs x a.1

  -- the labels of later entries are absent from those before
  apart_absent : (P : X → Type 0) (l : L) (before xs : List X) → Apart label before xs → Among (λ x. (label x ≡ l) × P x) xs → Absent label l before
  apart_absent P l before [] a m = absurd m
  apart_absent P l before (x ∷ xs) a (inl h) = subst (λ (z : L). Absent label z before) h.0 a.0
  apart_absent P l before (x ∷ xs) a (inr h) = absent_front l before x (apart_absent P l (before ++ x ∷ []) xs a.1 h)

  -- no label stands twice, so what two rules say of one label they say of one entry
  pub only : (P Q : X → Type 0) (l : L) (before xs : List X) → Apart label before xs → Among (λ x. (label x ≡ l) × P x) xs → Among (λ x. (label x ≡ l) × Q x) xs → Among (λ x. (label x ≡ l) × (P x × Q x)) xs
  only P Q l before [] a m n = absurd m
  only P Q l before (x ∷ xs) a (inl h) (inl k) = inl (h.0, (h.1, k.1))
  only P Q l before (x ∷ xs) a (inl h) (inr k) = let no : ⊥ = absent_last l before x (apart_absent Q l (before ++ x ∷ []) xs a.1 k) (sym h.0) in absurd no
  only P Q l before (x ∷ xs) a (inr h) (inl k) = let no : ⊥ = absent_last l before x (apart_absent P l (before ++ x ∷ []) xs a.1 h) (sym k.0) in absurd no
  only P Q l before (x ∷ xs) a (inr h) (inr k) = inr (only P Q l (before ++ x ∷ []) xs a.1 h k)
