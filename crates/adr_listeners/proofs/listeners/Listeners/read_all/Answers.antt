use Rattle.std.proofs.Common.{true, refl}
use Rattle.adr_listeners.specs.declared.listeners.Listeners.{Listeners}
use Rattle.adr_listeners.proofs.Hearing.{all_read}
use Rattle.adr_listeners.proofs.listeners.Listeners.read_all.Goals as goal

pub returns-clause-finds : goal.returns-clause-finds
returns-clause-finds g c clean kept was are =
    let those = c.args.self.now in
    let later : Listeners = record { all = true; operator = those.operator; vens = those.vens; subs = c.in_ok-self.field-0 } in
    let found = c.in_ok-self.ensures.finds clean kept was in
    (all_read kept later refl found.0, found.1)
