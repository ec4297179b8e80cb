use Rattle.std.proofs.Common.{◌≡◌, List, sym, ap, subst, arith, ◌∙◌}
use Rattle.std.specs.List.{All}
use Rattle.adr_db.proofs.Common.{state, HasCleanDisk}
use Rattle.adr_db.specs.Bases.{kept_beside}
use Rattle.adr_db.specs.Kept.{Keeps}
use Rattle.adr_kept_view.proofs.OrderLemmas.{held_in_order}
use Rattle.adr_kept_view.specs.declared.change.ShownChange.{ShownChange}
use Rattle.adr_kept_view.specs.declared.found.Found.{Found}
use Rattle.adr_kept_view.specs.Changes.{found_of, numbers_of, changes_found}
use Rattle.adr_kept_view.specs.Laws.{ReadsFound, with_found}
use Rattle.adr_kept_view.specs.Refreshed.{IsRefreshed, as_shown}
use Rattle.adr_kept_view.proofs.EventLemmas.{event_refreshed}
use Rattle.adr_upkeep.proofs.Common.{ok_with}
use Rattle.adr_upkeep.proofs.events.refresh_sharing.Goals as goal

pub returns-clause-refreshes : goal.returns-clause-refreshes
returns-clause-refreshes g c clean =
    let id = c.args.event.now in
    let now = c.args.now in
    let early : HasCleanDisk (state g.S.Store c.find.new.tx.conn.now) = omega (arith, c.turn_each.ensures.lent.stays.crash.clean) in
    ok_with c.turn_each.result (λ changes turns reads owner rows beside before base was keeps owns so_was right.
    let it = c.in_ok-found.ensures.finds early beside base was right in
    let same : c.in_ok-found.found ≡ found_of beside base id = it.0 in
    let turned = turns (kept_beside beside base) it.2 in
    let all : All (ReadsFound (found_of beside base id)) (numbers_of (found_of beside base id)) = subst (λ (f : Found). All (ReadsFound f) (numbers_of f)) same reads in
    let so = event_refreshed owner rows beside base now id keeps owns (held_in_order beside base _ was) all before in (
      with_found beside base now id (found_of beside base id),
      subst (λ (f : Found). Keeps (kept_beside (with_found beside base now id f) base) (state g.S.Store c.turn_each.new.tx.conn.now)) same turned.1,
      it.1,
      subst (λ (cs : List ShownChange). IsRefreshed as_shown owner rows beside before base now id cs (with_found beside base now id (found_of beside base id))) (sym (turned.0 ∙ ap (changes_found base.portfolio now) same)) so,
    ))
    (c.turn_each.ensures.turns clean) c.turn_each.ensures.reads
