use Rattle.std.proofs.Common.{◌≡◌, ◌∙◌}
use Rattle.std.specs.Str.{bytes_eq}
use Rattle.std.proofs.lemmas.Bool.Decides.{Decides-at}
use Rattle.parts.specs.Bounds.{hold_same}
use Rattle.parts.proofs.Same.{hold_same_decides}
use Rattle.parts.proofs.bounded.calls.BoundedPartialEq.eq.Goals as goal

pub returns-clause-same : goal.returns-clause-same
returns-clause-same g c =
    let tested : c.eq.result ≡ hold_same c.args.self.now c.args.other.now = c.eq.ensures ∙ (λ i. bytes_eq (c.held.ensures i) (c.held-2.ensures i)) in
    Decides-at _ _ tested (hold_same_decides c.args.self.now c.args.other.now)
