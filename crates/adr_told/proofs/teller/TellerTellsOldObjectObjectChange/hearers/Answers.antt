use Rattle.std.proofs.Common.{ℕ, List, ap}
use Rattle.adr_subscription.specs.declared.kept_sub.Sub.{Sub}
use Rattle.adr_told.specs.Told.{object_entries}
use Rattle.adr_told.proofs.Hearers.{all_hear, report_heard}
use Rattle.adr_told.proofs.teller.TellerTellsOldObjectObjectChange.hearers.Goals as goal

pub returns-in-Report-Some : goal.returns-in-Report-Some
returns-in-Report-Some c subs item = report_heard c.args.change.now c.in-Report-Some.ven c.in-Report-Some.field-0-0 c.in-Report-Some.is-0 c.in-Report-Some.is-1 subs item

pub returns-in_default : goal.returns-in_default
returns-in_default c subs item = ap (λ (all : List (ℕ × Sub)). object_entries all item c.args.change.now) (all_hear subs)
