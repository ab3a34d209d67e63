use Rattle.std.proofs.Common.{Ok, Err, sym, ap, rules}
use Rattle.component.specs.Syntax.{most}
use Rattle.component.proofs.Makings.{components_made}
use Rattle.component.proofs.configuration.read_components.Goals as goal

pub returns-in_err-read_entries-in-Platform : goal.returns-in_err-read_entries-in-Platform
returns-in_err-read_entries-in-Platform c = components_made c.args.kind c.args.cursor.now c.enter.new.self c.in_ok-content.content 128 (Err c.in_err-read_entries-in-Platform.field-0.0) _ c.in_ok-content.ensures.is c.in_ok-content.ensures.enters c.enter.ensures.stays c.if-content.false (ap most (sym c.in-Platform.is)) c.in_err-read_entries-in-Platform.ensures (search rules)

pub returns-in_ok-read_entries-in-Platform : goal.returns-in_ok-read_entries-in-Platform
returns-in_ok-read_entries-in-Platform c = components_made c.args.kind c.args.cursor.now c.enter.new.self c.in_ok-content.content 128 (Ok c.in_ok-read_entries-in-Platform.field-0.items) _ c.in_ok-content.ensures.is c.in_ok-content.ensures.enters c.enter.ensures.stays c.if-content.false (ap most (sym c.in-Platform.is)) c.in_ok-read_entries-in-Platform.ensures (search rules)

pub returns-in_err-read_entries-in-Delta : goal.returns-in_err-read_entries-in-Delta
returns-in_err-read_entries-in-Delta c = components_made c.args.kind c.args.cursor.now c.enter.new.self c.in_ok-content.content 16 (Err c.in_err-read_entries-in-Delta.field-0.0) _ c.in_ok-content.ensures.is c.in_ok-content.ensures.enters c.enter.ensures.stays c.if-content.false (ap most (sym c.in-Delta.is)) c.in_err-read_entries-in-Delta.ensures (search rules)

pub returns-in_ok-read_entries-in-Delta : goal.returns-in_ok-read_entries-in-Delta
returns-in_ok-read_entries-in-Delta c = components_made c.args.kind c.args.cursor.now c.enter.new.self c.in_ok-content.content 16 (Ok c.in_ok-read_entries-in-Delta.field-0.items) _ c.in_ok-content.ensures.is c.in_ok-content.ensures.enters c.enter.ensures.stays c.if-content.false (ap most (sym c.in-Delta.is)) c.in_ok-read_entries-in-Delta.ensures (search rules)
