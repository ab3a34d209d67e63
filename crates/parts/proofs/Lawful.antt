-- The order of keys is lawful.
use Rattle.std.proofs.Common.{◌≡◌, ◌&&◌, ℕ, ◌<◌, List, [], ◌∷◌, ◌++◌, length, Some, Option, Ordering, Less, Equal, sym, refl, ap, ◌∙◌, subst, rules}
use native.Mathlib.Nat.{ℕ_set}
use mathlib.Core.HLevel.{is_prop→PathP}
use Rattle.std.specs.Bool.{Decides}
use Rattle.std.proofs.lemmas.Bool.Decides.{Decides-and, Decides-at, Decides-like}
use Rattle.std.specs.Cmp.{IsTotalOrder, Equal-is, nat_cmp_total, nat_cmp_is, unsigned_tied, unsigned_Decides, tied_then, tied_itself, first_so, second_so}
use Rattle.std.specs.Cmp.Lexicographic.{texts_ties, bytes_decides}
use Rattle.std.specs.Ordering.{is_eq, ordering_then, nat_cmp}
use Rattle.model.specs.Orders.{Lawful}
use Rattle.model.specs.declared.part.Part.{Part}
use Rattle.parts.specs.declared.key.Key.{Key}
use Rattle.parts.specs.declared.key.Registry.{Registry}
use Rattle.parts.specs.declared.key.Registry.TheVariants.{Tcg, Dmtf, Pcie, Storage}
use Rattle.parts.specs.contracts.key.KeyOrd.TheImpl.{ghosts}
use Rattle.parts.specs.contracts.key.KeyOrd.TheImpl.Laws.{total-law, matches_eq-law}
use Rattle.parts.specs.contracts.key.KeyPartialEq.TheImpl.{ghosts as equality}
use Rattle.parts.specs.declared.details.Details.{Details}
use Rattle.parts.specs.Equality.{details_equal}
use Rattle.parts.specs.Bytewise.{lexed, ByteOrder}
use Rattle.parts.specs.Keys.{Fields, fields_of, number_of, registry_of, in_turn, order}
use Rattle.parts.proofs.Same.{same_content, details_decides}

-- ---- what is equal in the order is the same

both_equal : (a b : Ordering) → ordering_then a b ≡ Equal → (a ≡ Equal) × (b ≡ Equal)
both_equal a b e =
    let h = tied_then a b ∙ ap is_eq e in
    ((Equal-is a).0 (first_so _ _ h), (Equal-is b).0 (second_so _ _ h))

number_only : (x y : ℕ) → nat_cmp x y ≡ Equal → x ≡ y
number_only x y e = (unsigned_Decides x y).0 (sym (unsigned_tied x y) ∙ ap is_eq e)

lexed_only : (xs ys : List ℕ) → lexed xs ys ≡ Equal → xs ≡ ys
lexed_only xs ys e = (bytes_decides xs ys).0 (texts_ties xs ys ∙ ap is_eq e)

fields_only : (a b : Fields) → in_turn a b ≡ Equal → a ≡ b
fields_only a b e =
    let r = both_equal (nat_cmp a.registry b.registry) _ e in
    let c = both_equal (lexed a.class b.class) _ r.1 in
    let m = both_equal (lexed a.maker b.maker) _ c.1 in
    let n = both_equal (lexed a.model b.model) (lexed a.serial b.serial) m.1 in
    λ i. record {
      registry = number_only a.registry b.registry r.0 i;
      class = lexed_only a.class b.class c.0 i;
      maker = lexed_only a.maker b.maker m.0 i;
      model = lexed_only a.model b.model n.0 i;
      serial = lexed_only a.serial b.serial n.1 i;
    }

-- ---- keys

-- no two registries share a number
registry_only : (r s : Registry) → number_of r ≡ number_of s → r ≡ s
registry_only r s e =
    let back : (t : Registry) → registry_of (number_of t) ≡ Some t = λ t. elim t as (λ u. registry_of (number_of u) ≡ Some u) [ Tcg ↦ refl | Dmtf ↦ refl | Pcie ↦ refl | Storage ↦ refl ] in
    let both : ◌≡◌ {A = Option Registry} (Some r) (Some s) = sym (back r) ∙ (ap registry_of e ∙ back s) in
    cc

key_path : (k j : Key) → k.registry ≡ j.registry → k.class ≡ j.class → k.maker ≡ j.maker → k.model ≡ j.model → k.serial ≡ j.serial → k ≡ j
key_path k j r c m n s = λ i. record {
  registry = r i;
  class = c i;
  maker = m i;
  model = n i;
  serial = s i;
  four = is_prop→PathP (λ j. length (c j) ≡ 4) (λ j. ℕ_set _ _) k.four j.four i;
}

-- keys are told by their fields
pub key_only : (k j : Key) → fields_of k ≡ fields_of j → k ≡ j
key_only k j e =
    key_path k j
    (registry_only k.registry j.registry (ap (λ (f : Fields). f.registry) e))
    (ap (λ (f : Fields). f.class) e)
    (same_content k.maker j.maker (ap (λ (f : Fields). f.maker) e))
    (same_content k.model j.model (ap (λ (f : Fields). f.model) e))
    (same_content k.serial j.serial (ap (λ (f : Fields). f.serial) e))

-- what the derived `cmp` computes is the order, so its laws are the order's
pub compared : (k j : Key) → ghosts.cmp k j ≡ order k j
compared k j = search rules

order_total : IsTotalOrder order
order_total = subst IsTotalOrder (λ i k j. compared k j i) total-law

pub order_lawful : Lawful order
order_lawful = record {
  turned = λ a b. order_total.antisymm b a;
  only = λ a b e. key_only a b (fields_only (fields_of a) (fields_of b) e);
  trans = order_total.trans;
}

-- `==` tells whether two keys are the same
pub key_told : (k j : Key) → Decides (equality.eq k j) (k ≡ j)
key_told k j =
    let told = Equal-is (order k j) in
    Decides-at _ _ (matches_eq-law k j ∙ ap is_eq (compared k j)) (λ e. order_lawful.only k j (told.0 e), λ e. told.1 (ap (order k) (sym e) ∙ tied_itself order_total k))

-- and two parts
pub part_told : (p q : Part Key Details) → Decides (equality.eq p.key q.key && details_equal p.details q.details) (p ≡ q)
part_told p q =
    Decides-like (equality.eq p.key q.key && details_equal p.details q.details)
    (λ h i. record { key = h.0 i; details = h.1 i })
    (λ e. (ap (λ (x : Part Key Details). x.key) e, ap (λ (x : Part Key Details). x.details) e))
    (Decides-and _ _ (key_told p.key q.key) (details_decides p.details q.details))

-- ---- in the rule's words

begins : (xs ys : List ℕ) (y : ℕ) → lexed xs (xs ++ y ∷ ys) ≡ Less
begins [] ys y = refl
begins (x ∷ xs) ys y = rw (tied_itself nat_cmp_total x) (begins xs ys y)

differs : (p xs ys : List ℕ) (x y : ℕ) → x < y → lexed (p ++ x ∷ xs) (p ++ y ∷ ys) ≡ Less
differs [] xs ys x y h = ap (λ (o : Ordering). ordering_then o (lexed xs ys)) (sym (nat_cmp_is x y Less h))
differs (z ∷ p) xs ys x y h = rw (tied_itself nat_cmp_total z) (differs p xs ys x y h)

pub byte_order : ByteOrder
byte_order = record { beginning = begins; differing = differs }
