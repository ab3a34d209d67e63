use Rattle.std.proofs.Common.{◌≡◌, ℕ, ◌+◌, false, ltb, List, get_or, drop, sym, ap, ◌∙◌, inl, inr, arith}
use Rattle.std.proofs.lemmas.Bool.Decides.{nat_tests, Decides-at}
use Rattle.std.proofs.lemmas.List.{drop_more, drop_all}
use Rattle.der.specs.Contents.{is_identifier, identifier_behind}
use Rattle.der.proofs.Rules.{identifier_decides, behind_more, behind_stop}
use Rattle.der.proofs.content.is_identifier.Goals as goal

pub returns-then-last-lt128 : goal.returns-then-last-lt128
returns-then-last-lt128 c =
    let xs : List ℕ = c.args.content.now in
    let i : ℕ = c.loop-byte.byte-index in
    let stop : identifier_behind 0 xs ≡ false = sym c.loop-byte.invariant ∙ (ap (identifier_behind c.loop-byte.last) (drop_more xs i 0 (omega arith)) ∙ behind_stop c.loop-byte.last (get_or xs i 0) (drop (i + 1) xs) (omega arith) (omega arith)) in
    let is : false ≡ is_identifier xs = grind (arith, nat_tests) in
    record { is = is; means = Decides-at _ _ is (identifier_decides xs) }

pub loop-byte-preserved : goal.loop-byte-preserved
loop-byte-preserved c =
    let xs : List ℕ = c.args.content.now in
    let i : ℕ = c.loop-byte.byte-index in
    sym (behind_more c.loop-byte.last (get_or xs i 0) (drop (i + 1) xs) (λ e. elim c.else-byte.either [ inl p ↦ p.1 | inr p ↦ absurd (p e) ])) ∙ (sym (ap (identifier_behind c.loop-byte.last) (drop_more xs i 0 (omega arith))) ∙ c.loop-byte.invariant)

pub returns : goal.returns
returns c =
    let xs : List ℕ = c.args.content.now in
    let end : identifier_behind 0 xs ≡ ltb c.loop-byte.last 128 = sym c.loop-byte.invariant ∙ ap (identifier_behind c.loop-byte.last) (drop_all c.loop-byte.byte-index xs (omega arith)) in
    let is : ltb c.loop-byte.last 128 ≡ is_identifier xs = grind (arith, nat_tests) in
    record { is = is; means = Decides-at _ _ is (identifier_decides xs) }
