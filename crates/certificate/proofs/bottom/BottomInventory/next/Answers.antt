use Rattle.std.proofs.Common.{Option, sym, ap, ◌∙◌}
use Rattle.std.specs.Option.{option_map}
use Rattle.model.specs.declared.part.Part.{Part}
use Rattle.model.specs.Gathered.{nearer}
use Rattle.parts.specs.declared.details.Details.{Details}
use Rattle.parts.specs.declared.key.Key.{Key}
use Rattle.parts.specs.Keys.{order}
use Rattle.certificate.proofs.Bottoms.{nearest_in, nearest_more}
use Rattle.certificate.proofs.bottom.BottomInventory.next.Goals as goal

pub loop-line-preserved : goal.loop-line-preserved
loop-line-preserved c =
    let k = option_map (λ x. x.now) c.args.above in
    let best = c.nearer_of-nearest.ensures ∙ ap (nearer order c.loop-line.nearest) c.over_only.ensures in
    ap (λ (b : Option (Part Key Details)). nearest_in k b c.next.new.self) best
    ∙ (nearest_more k c.loop-line.nearest c.in-Some.line c.next.new.self ∙ (sym (ap (nearest_in k c.loop-line.nearest) c.in-Some.ensures.steps) ∙ c.loop-line.invariant))
