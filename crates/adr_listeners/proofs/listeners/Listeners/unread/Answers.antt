use Rattle.std.proofs.Common.{false, refl}
use Rattle.adr_listeners.proofs.Hearing.{none_read}
use Rattle.adr_listeners.proofs.listeners.Listeners.unread.Goals as goal

pub returns : goal.returns
returns c kept = none_read kept (record { all = false; operator = false; vens = c.new.result; subs = c.new-2.result }) refl refl c.new.ensures c.new-2.ensures
