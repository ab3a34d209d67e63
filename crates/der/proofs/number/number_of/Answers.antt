use Rattle.std.proofs.Common.{ℕ, ◌+◌, ◌*◌, List, get_or, sym, ap, ◌∙◌, arith}
use Rattle.std.proofs.lemmas.List.Sums.{fold_more}
use Rattle.std.proofs.lemmas.List.{take_all}
use Rattle.der.specs.Numbers.{value_of}
use Rattle.der.proofs.Digits.{more_below, few_below}
use Rattle.der.proofs.number.number_of.Goals as goal

pub overflow_mul-value : goal.overflow_mul-value
overflow_mul-value c =
    let room = few_below c.loop-byte.value c.loop-byte.byte-index c.loop-byte.invariant.1 (omega arith) in
    omega arith

pub overflow_add-value : goal.overflow_add-value
overflow_add-value c =
    let room = few_below c.loop-byte.value c.loop-byte.byte-index c.loop-byte.invariant.1 (omega arith) in
    omega arith

pub loop-byte-preserved : goal.loop-byte-preserved
loop-byte-preserved c =
    let byte : ℕ = get_or c.args.bytes.now c.loop-byte.byte-index 0 in (
      ap (λ (b : ℕ). c.loop-byte.value * 256 + b) c.from.ensures
          ∙ (ap (λ (v : ℕ). v * 256 + byte) c.loop-byte.invariant.0 ∙ sym (fold_more (λ (v b : ℕ). v * 256 + b) 0 c.args.bytes.now c.loop-byte.byte-index 0 (omega arith))),
      more_below c.loop-byte.value c.from.result c.loop-byte.byte-index c.loop-byte.invariant.1 (omega (arith, c.from.ensures)),
    )

pub returns : goal.returns
returns c = c.loop-byte.invariant.0 ∙ ap (λ (xs : List ℕ). value_of xs) (take_all _ c.args.bytes.now (omega arith))
