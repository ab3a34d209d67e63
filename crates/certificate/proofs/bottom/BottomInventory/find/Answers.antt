use Rattle.std.proofs.Common.{◌≡◌, List, Option, sym, ap, ◌∙◌, rules, tests}
use Rattle.std.specs.List.{find}
use Rattle.std.specs.Option.{option_map}
use Rattle.std.specs.Ordering.{is_eq}
use Rattle.std.proofs.lemmas.Iterator.Adapters.{option_map_id}
use Rattle.std.proofs.lemmas.Iterator.Consumers.{YieldsList-from_first}
use Rattle.std.proofs.lemmas.Iterator.Search.{find_from_yields_List}
use Rattle.reader.specs.declared.kind.Kind.TheVariants.{Platform}
use Rattle.model.specs.Parts.{lookup}
use Rattle.parts.specs.declared.key.Key.{Key}
use Rattle.parts.specs.Keys.{order}
use Rattle.certificate.specs.declared.line.Line.{Line}
use Rattle.certificate.specs.Readings.{reading_at}
use Rattle.certificate.specs.Bottoms.{parts_of}
use Rattle.certificate.proofs.Bottoms.{found_first}
use Rattle.certificate.proofs.bottom.BottomInventory.find.Goals as goal

-- what the search for the key found, as the answer to find
told : (key : Key) (all : List Line) (o : Option Line) → option_map (λ l. l) o ≡ find (λ (l : Line). is_eq (order key l.key)) all → option_map (λ (l : Line). l.details) o ≡ lookup order key (parts_of all)
told key all o e = ap (option_map (λ (l : Line). l.details)) (sym (option_map_id o) ∙ e) ∙ found_first key all

pub returns-in_err-line : goal.returns-in_err-line
returns-in_err-line c =
    let all = (reading_at Platform c.args.self.now.file.now c.args.self.now.places).components in
    let first = find_from_yields_List (λ (l : Line). is_eq (order c.args.key.now l.key)) _ _ c.find.result c.find.ensures.ran (YieldsList-from_first (λ l. l) (λ w. w) all c.lines-lines.ensures) (λ x b q k. search (rules, tests)) in
    c.from_residual.ensures ∙ (ap (option_map (λ (l : Line). l.details)) (sym c.in_err-line.was) ∙ told c.args.key.now all c.find.result first)

pub returns : goal.returns
returns c =
    let all = (reading_at Platform c.args.self.now.file.now c.args.self.now.places).components in
    let first = find_from_yields_List (λ (l : Line). is_eq (order c.args.key.now l.key)) _ _ c.find.result c.find.ensures.ran (YieldsList-from_first (λ l. l) (λ w. w) all c.lines-lines.ensures) (λ x b q k. search (rules, tests)) in
    ap (option_map (λ (l : Line). l.details)) (sym c.in_ok-line.was) ∙ told c.args.key.now all c.find.result first
