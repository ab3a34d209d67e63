use Rattle.std.proofs.Common.{◌≡◌, ℕ, ◌+◌, ◌-◌, true, false, List, is_ok, Ok, Err, sym, ap, ◌∙◌, arith}
use Rattle.std.proofs.lemmas.Result.{err_from_is_err_and}
use Rattle.der.specs.declared.refusal.Refusal.{Refusal}
use Rattle.der.specs.declared.refusal.Reason.TheVariants.{Repeated}
use Rattle.parts.specs.Keys.{Fields}
use Rattle.report.specs.Layout.{key_place, key_size, fields_at}
use Rattle.report.specs.Checks.{key_at}
use Rattle.report.specs.declared.fields.Record.{Record}
use Rattle.report.specs.declared.fields.CheckedKey.{CheckedKey}
use Rattle.report.proofs.Steps.{told_ok, keys_stop, keys_repeated, keys_more, rises_told}
use Rattle.report.proofs.check.check_keys.Goals as goal

-- where a checked key has its fields
abbrev stand : CheckedKey → Fields
stand k = fields_at k.found.file.now k.found.at

-- what a checked key at a place says of the file
record Met (file : List ℕ) (at : ℕ) (key : CheckedKey) : Type 0 where
  checks : key_at file at ≡ Ok tt
  fields : stand key ≡ fields_at file at

met : (file : List ℕ) (at : ℕ) (r : Record key_size) (k : CheckedKey) → r.file.now ≡ file → r.at ≡ at → k.found ≡ r → Met file at k
met file at r k f a e =
    let file_is : k.found.file.now ≡ file = ap (λ (x : Record key_size). x.file.now) e ∙ f in
    let at_is : k.found.at ≡ at = ap (λ (x : Record key_size). x.at) e ∙ a in
    record { checks = told_ok _ (sym (λ j. is_ok (key_at (file_is j) (at_is j))) ∙ k.met); fields = λ j. fields_at (file_is j) (at_is j) }

pub returns-in_err-key : goal.returns-in_err-key
returns-in_err-key c =
    let t = c.args.tables.now in
    let p = err_from_is_err_and c.from_residual.result c.from_residual.ensures.1 in
    let here : key_at t.file.now (key_place c.loop-i.i) ≡ Err c.in_err-key.field-0.0 = sym (λ j. key_at (c.key-record.ensures.0 j) (c.key-record.ensures.1 j)) ∙ c.in_err-key.ensures in
    rw (p.1, p.2) (keys_stop t.file.now t.count c.loop-i.i _ _ c.loop-i-test.true here c.loop-i.invariant.so_far)

pub returns-then-not-rises : goal.returns-then-not-rises
returns-then-not-rises c =
    let t = c.args.tables.now in
    let i = c.loop-i.i in
    let m : Met t.file.now (key_place i) c.in_ok-key.key = met _ _ c.key-record.result c.in_ok-key.key c.key-record.ensures.0 c.key-record.ensures.1 c.in_ok-key.ensures in
    let falls = rises_told stand t.file.now i c.loop-i.before c.in_ok-key.key false c.loop-i.invariant.before m.fields c.if-not-rises.ensures in
    ap (λ (e : Refusal). Err e) (c.at.ensures ∙ (λ j. record { reason = Repeated; place = c.key-record.ensures.1 j }))
    ∙ keys_repeated t.file.now t.count i _ c.loop-i-test.true m.checks falls c.loop-i.invariant.so_far

pub loop-i-preserved : goal.loop-i-preserved
loop-i-preserved c =
    let t = c.args.tables.now in
    let i = c.loop-i.i in
    let m : Met t.file.now (key_place i) c.in_ok-key.key = met _ _ c.key-record.result c.in_ok-key.key c.key-record.ensures.0 c.key-record.ensures.1 c.in_ok-key.ensures in
    let up = rises_told stand t.file.now i c.loop-i.before c.in_ok-key.key true c.loop-i.invariant.before m.fields c.if-not-rises.ensures in
    let back : i ≡ i + 1 - 1 = omega arith in
    record {
      so_far = keys_more t.file.now t.count i _ c.loop-i-test.true m.checks up c.loop-i.invariant.so_far;
      before = (omega arith, m.fields ∙ ap (λ (k : ℕ). fields_at t.file.now (key_place k)) back);
    }
