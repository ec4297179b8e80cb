use Rattle.adr_lent.proofs.Picks.{any_wanted}
use Rattle.adr_lent.proofs.picked.wanted.Goals as goal

pub returns-in-None-Any : goal.returns-in-None-Any
returns-in-None-Any c entries = any_wanted c.args.asked.now c.args.ven.now c.shown_to.result entries c.in-None-Any.is-0 c.in-None-Any.is-1 c.shown_to.ensures
