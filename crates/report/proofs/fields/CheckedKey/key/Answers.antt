use Rattle.std.proofs.Common.{◌≡◌, ℕ, List, length, take, ap, ◌∙◌, arith}
use Rattle.std.proofs.lemmas.List.{take_all}
use Rattle.parts.specs.Keys.{Fields, said, key_of}
use Rattle.parts.proofs.Built.{key_made, fields_made}
use Rattle.report.specs.Layout.{fields_at}
use Rattle.report.proofs.Entries.{checked_good}
use Rattle.report.proofs.fields.CheckedKey.key.Goals as goal

same_fields : (f g : Fields) (class : List ℕ) → f ≡ g → class ≡ take 4 f.class → length g.class ≡ 4 → said f.registry class f.maker f.model f.serial ≡ g
same_fields f g class e t n =
    let class_is : class ≡ g.class = t ∙ (ap (λ (h : Fields). take 4 h.class) e ∙ take_all 4 g.class (omega arith)) in
    λ i. said (e i).registry (class_is i) (e i).maker (e i).model (e i).serial

pub unreachable-requires-in-Err : goal.unreachable-requires-in-Err
unreachable-requires-in-Err c =
    let r = c.args.self.now.found in
    let g = checked_good r.file.now r.at r.within c.args.self.now.met in
    let made = c.in-Err.ensures ∙ ap key_of (same_fields _ (fields_at r.file.now r.at) _ c.lent-lent.ensures c.in-Some.ensures.cases.same g.class) ∙ fields_made _ g in
    let z : ◌≡◌ {A = ℕ} 0 1 = cc in
    omega arith

pub returns : goal.returns
returns c =
    let r = c.args.self.now.found in
    let g = checked_good r.file.now r.at r.within c.args.self.now.met in
    key_made (fields_at r.file.now r.at) c.in-Ok.key g (c.in-Ok.ensures ∙ ap key_of (same_fields _ (fields_at r.file.now r.at) _ c.lent-lent.ensures c.in-Some.ensures.cases.same g.class))
