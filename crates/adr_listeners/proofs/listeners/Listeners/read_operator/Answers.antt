use Rattle.std.proofs.Common.{true, refl, ap, ◌∙◌}
use Rattle.adr_db.proofs.Common.{nat_cmp}
use Rattle.adr_state.specs.Keys.{with_rows}
use Rattle.adr_listeners.specs.declared.listeners.Listeners.{Listeners}
use Rattle.adr_listeners.specs.Hearers.{is_operators}
use Rattle.adr_listeners.proofs.Hearing.{operators_more, put_more}
use Rattle.adr_listeners.proofs.listeners.Listeners.read_operator.Goals as goal

pub returns-clause-finds : goal.returns-clause-finds
returns-clause-finds g c clean kept was are =
    let those = c.args.self.now in
    let later : Listeners = record { all = those.all; operator = true; vens = those.vens; subs = c.put_subs.new.subs } in
    let found = c.in_ok-more.ensures.finds clean kept was in
    (put_more kept _ was those later is_operators are (operators_more those later refl refl refl) (c.in_ok-put_subs.ensures ∙ ap (with_rows nat_cmp those.subs) found.0), found.1)
