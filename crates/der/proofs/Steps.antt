-- The reading of an element, from its tag and the reading of its length.
use Rattle.std.proofs.Common.{◌≡◌, ℕ, ◌%◌, ◌<◌, cond, eqb, leb, List, get_or, Result, sym, ap, ◌∙◌, arith}
use Rattle.std.proofs.lemmas.Bool.Decides.{nat_tests}
use Rattle.der.specs.declared.refusal.Refusal.{Refusal}
use Rattle.der.specs.declared.refusal.Reason.TheVariants.{WrongTag}
use Rattle.der.specs.Refusals.{refused}
use Rattle.der.specs.Elements.{with_tag, length_at, end_within, any_at, element_at}

tag_then : (at end tag : ℕ) (q : Result (ℕ × ℕ × ℕ) Refusal) → at < end → (tag % 32 ≡ 31 → ⊥) → cond (leb end at) (refused WrongTag at) (cond (eqb (tag % 32) 31) (refused WrongTag at) q) ≡ q
tag_then at end tag q h n = grind (arith, nat_tests)

-- behind a tag that may stand there, the length decides
pub element_by_length : (file : List ℕ) (at end e : ℕ) (q : Result (ℕ × ℕ) Refusal) → e ≡ end_within file end → at < e → (get_or file at 0 % 32 ≡ 31 → ⊥) → q ≡ length_at file at e → with_tag (get_or file at 0) q ≡ element_at file at end
unfolding element_at
element_by_length file at end e q is h n g =
    ap (with_tag (get_or file at 0)) g ∙ (sym (tag_then at e (get_or file at 0) (with_tag (get_or file at 0) (length_at file at e)) h n) ∙ ap (any_at file at) is)
