use Rattle.std.proofs.Common.{◌≡◌, rules}
use Rattle.std.proofs.lemmas.Bool.Decides.{Decides-at}
use Rattle.der.specs.Times.{is_time}
use Rattle.der.proofs.Rules.{time_decides}
use Rattle.der.proofs.time.is_time.Goals as goal
use Rattle.der.proofs.time.is_time.Goals.{then-is_time_shaped, else-is_time_shaped}

pub returns-then-is_in_calendar-clause-means : goal.returns-then-is_in_calendar-clause-means
returns-then-is_in_calendar-clause-means c = Decides-at _ _ (search rules) (time_decides c.args.content.now)

pub returns-else-is_in_calendar-clause-means : goal.returns-else-is_in_calendar-clause-means
returns-else-is_in_calendar-clause-means c =
    let is : c.if-is_time_shaped.value ≡ is_time c.args.content.now = elim c.if-is_time_shaped.branch [ then-is_time_shaped w ↦ search rules | else-is_time_shaped w ↦ search rules ] in
    Decides-at _ _ is (time_decides c.args.content.now)
