use Rattle.std.proofs.Common.{◌≡◌, ℕ, List, map, Some, Option, sym, ap, ◌∙◌}
use Rattle.std.specs.List.{slice_get}
use Rattle.std.specs.Option.{option_map}
use Rattle.std.proofs.lemmas.Option.{slice_get-map}
use Rattle.std.proofs.lemmas.Iterator.Adapters.{option_map_id}
use Rattle.std.proofs.lemmas.Iterator.Consumers.{nth_from_yields_List, YieldsList-from_first}
use Rattle.component.specs.declared.places.ComponentPlaces.{ComponentPlaces}
use Rattle.certificate.specs.declared.line.Line.{Line}
use Rattle.certificate.specs.Readings.{line_in, places_in, nth_of}
use Rattle.certificate.proofs.lent.LentCertificate.component.Goals as goal

-- the place with a number tells the component with that number
told : (file : List ℕ) (all : List ComponentPlaces) (n : ℕ) (o : Option ComponentPlaces) → option_map (λ x. x) o ≡ slice_get all n → option_map (line_in file) o ≡ nth_of n (map (line_in file) all)
told file all n o e = ap (option_map (line_in file)) (sym (option_map_id o) ∙ e) ∙ sym (slice_get-map (line_in file) all n)

pub returns-in_err-places : goal.returns-in_err-places
returns-in_err-places c =
    let file = c.args.self.now.file.now in
    let all = places_in c.args.self.now.kind file c.args.self.now.places in
    let there = nth_from_yields_List c.nth.result _ c.args.number c.nth.ensures.ran (YieldsList-from_first (λ x. x) (λ w. w) all c.listed.ensures) in
    c.from_residual.ensures ∙ (ap (option_map (line_in file)) (sym c.in_err-places.was) ∙ told file all c.args.number c.nth.result there)

pub returns : goal.returns
returns c =
    let file = c.args.self.now.file.now in
    let all = places_in c.args.self.now.kind file c.args.self.now.places in
    let there = nth_from_yields_List c.nth.result _ c.args.number c.nth.ensures.ran (YieldsList-from_first (λ x. x) (λ w. w) all c.listed.ensures) in
    ap (λ (l : Line). Some l) c.from.ensures ∙ (ap (option_map (line_in file)) (sym c.in_ok-places.was) ∙ told file all c.args.number c.nth.result there)
