use Rattle.std.proofs.Common.{[], ◌∷◌, ◌∙◌, rules, tests}
use Rattle.std.specs.Str.{bytes_eq}
use Rattle.std.proofs.lemmas.Iterator.{YieldsList-from_slice}
use Rattle.std.proofs.lemmas.Iterator.Search.{find_from_yields_List}
use Rattle.parts.specs.declared.key.Registry.{Registry}
use Rattle.parts.specs.declared.key.Registry.TheVariants.{Tcg, Dmtf, Pcie, Storage}
use Rattle.component.specs.Registries.{registry_bytes}
use Rattle.component.proofs.registry.registry_named.Goals as goal

pub returns : goal.returns
returns c =
    let found = find_from_yields_List (λ (r : Registry). bytes_eq c.args.name.now (registry_bytes r)) _ _ c.find.result c.find.ensures.ran (YieldsList-from_slice (Tcg ∷ Dmtf ∷ Pcie ∷ Storage ∷ []) cc) (λ x b q k. search (rules, tests)) in
    c.copied.ensures ∙ found
