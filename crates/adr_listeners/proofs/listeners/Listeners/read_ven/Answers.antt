use Rattle.std.proofs.Common.{refl, ap, ◌∙◌}
use Rattle.adr_db.proofs.Common.{nat_cmp, is_sub_of}
use Rattle.adr_state.specs.Keys.{with_rows}
use Rattle.adr_listeners.specs.declared.listeners.Listeners.{Listeners}
use Rattle.adr_listeners.proofs.Hearing.{vens_more, put_more}
use Rattle.adr_listeners.proofs.listeners.Listeners.read_ven.Goals as goal

pub returns-clause-finds : goal.returns-clause-finds
returns-clause-finds g c clean kept was are =
    let those = c.args.self.now in
    let later : Listeners = record { all = those.all; operator = those.operator; vens = c.push.new.self; subs = c.put_subs.new.subs } in
    let found = c.in_ok-more.ensures.finds clean kept was in
    (put_more kept _ was those later (is_sub_of c.args.ven) are (vens_more those later c.args.ven refl refl c.in_ok-push.ensures.ok) (c.in_ok-put_subs.ensures ∙ ap (with_rows nat_cmp those.subs) found.0), found.1)
