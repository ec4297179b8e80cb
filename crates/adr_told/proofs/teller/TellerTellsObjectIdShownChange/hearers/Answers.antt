use Rattle.std.proofs.Common.{refl}
use Rattle.adr_told.specs.Told.{shown_notice}
use Rattle.adr_told.proofs.Hearers.{heard_alone}
use Rattle.adr_told.proofs.teller.TellerTellsObjectIdShownChange.hearers.Goals as goal

pub returns : goal.returns
returns c subs item = heard_alone (shown_notice item c.args.change.now) c.args.change.now.ven refl refl subs
