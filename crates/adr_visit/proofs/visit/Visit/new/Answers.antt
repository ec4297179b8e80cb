use Rattle.std.proofs.Common.{refl}
use Rattle.adr_visit.proofs.visit.Visit.new.Goals as goal

pub returns : goal.returns
returns c kept = record { come = c.new.ensures kept; sharing = c.none.ensures kept; listening = c.unread.ensures kept; none = refl }
