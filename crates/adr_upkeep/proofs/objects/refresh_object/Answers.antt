use Rattle.std.proofs.Common.{◌≡◌, Some, None, sym, ap, subst, arith, ◌∙◌}
use Rattle.std.specs.Prelude.{option_map, slice_get}
use Rattle.std.specs.Option.{option_copied}
use Rattle.adr_state.specs.Keys.{view_cmp, at}
use Rattle.adr_view.specs.declared.changes.Change.{Change}
use Rattle.adr_view.specs.Changes.{changes}
use Rattle.adr_db.proofs.Common.{state, HasCleanDisk}
use Rattle.adr_db.specs.Bases.{kept_beside}
use Rattle.adr_db.specs.Kept.{Kept, Keeps}
use Rattle.adr_kept_view.proofs.OrderLemmas.{held_in_order}
use Rattle.adr_kept_view.specs.Objects.{view_key, shown_at, row_at, restamped_at, with_object, with_stamps_at}
use Rattle.adr_kept_view.proofs.ObjectLemmas.{kept_is_shown, object_refreshed, tells_first}
use Rattle.adr_upkeep.specs.Turns.{turn_at, IsChangeIn}
use Rattle.adr_upkeep.proofs.ChangeLemmas.{changed_so}
use Rattle.adr_upkeep.proofs.objects.refresh_object.Goals as goal

pub returns-in-Some-clause-refreshes : goal.returns-in-Some-clause-refreshes
returns-in-Some-clause-refreshes g c clean owner rows beside before base was keeps stood =
    let late : HasCleanDisk (state g.S.Store c.set_stamps.new.tx.conn.now) = omega (arith, c.change_of.ensures.lent.stays.crash.clean) in
    let old = c.args.old.now in
    let k = view_key old.key in
    let now = c.args.now in
    let kept : Kept = kept_beside beside base in
    let early : HasCleanDisk (state g.S.Store c.read_stamps_of.new.tx.conn.now) = omega (arith, late, c.set_stamps.ensures.lent.stays.crash.clean) in
    let first : HasCleanDisk (state g.S.Store c.content_now.new.tx.conn.now) = omega (arith, early, c.read_stamps_of.ensures.lent.stays.crash.clean) in
    let key : c.in_ok-key.key ≡ k = c.in_ok-key.ensures in
    let one = c.in_ok-new.ensures.finds first kept was in
    let two = c.in_ok-stamps.ensures.finds early kept one.1 in
    let new : c.in_ok-new.new ≡ shown_at base k = one.0 ∙ kept_is_shown beside base old.key in
    let stamps : c.in_ok-stamps.stamps ≡ at view_cmp k beside.stamps = two.0 ∙ ap (λ j. at view_cmp j beside.stamps) key in
    let turn : c.in_ok-turn.turn ≡ turn_at k old.content (shown_at base k) (at view_cmp k beside.stamps) now = c.in_ok-turn.ensures ∙ λ i. turn_at (key i) (c.in_ok-copy.ensures i) (new i) (stamps i) now in
    let restamped : option_copied c.row_at.result ≡ restamped_at k (at view_cmp k beside.stamps) old.content (shown_at base k) now = c.row_at.ensures ∙ λ i. at view_cmp (key i) (turn i).restamped in
    let three = c.in_ok-set_stamps.ensures.leaves late kept two.1 in
    let held : Keeps (kept_beside (with_object beside base now old) base) (state g.S.Store c.set_stamps.new.tx.conn.now) = subst (λ (all : Kept). Keeps all (state g.S.Store c.set_stamps.new.tx.conn.now)) (λ i. with_stamps_at (key i) (restamped i) kept) three in
    let happened : c.operation_of.result ≡ option_map (λ (x : Change). x.operation) (slice_get (changes (row_at k old.content) (row_at k (shown_at base k))) 0) =
    c.operation_of.ensures ∙ ap (λ cs. option_map (λ (x : Change). x.operation) (slice_get cs 0)) (c.deref.ensures.value ∙ c.in_ok-changes.ensures ∙ λ i. changes (turn i).before (turn i).after) in
    let change = c.in_ok-change_of-in-Some.field-0 in
    let four = c.in_ok-change_of-in-Some.ensures.finds clean (kept_beside (with_object beside base now old) base) held in
    let is : IsChangeIn base.portfolio k old.ven c.in-Some.operation (turn_at k old.content (shown_at base k) (at view_cmp k beside.stamps) now) change =
    subst (λ t. IsChangeIn base.portfolio k old.ven c.in-Some.operation t change) turn (subst (λ j. IsChangeIn base.portfolio j old.ven c.in-Some.operation c.in_ok-turn.turn change) key four.0) in
    let tells = tells_first old (shown_at base k) (Some change) (sym happened ∙ c.in-Some.is ∙ ap (λ o. Some o) (sym is.happened)) in (
      with_object beside base now old,
      four.1,
      object_refreshed owner rows beside before base now old keeps (held_in_order beside base _ was) stood (Some change) tells (changed_so base.portfolio now (at view_cmp k beside.stamps) old (shown_at base k) c.in-Some.operation change is),
    )

pub returns-clause-refreshes : goal.returns-clause-refreshes
returns-clause-refreshes g c clean owner rows beside before base was keeps stood =
    let old = c.args.old.now in
    let k = view_key old.key in
    let now = c.args.now in
    let kept : Kept = kept_beside beside base in
    let early : HasCleanDisk (state g.S.Store c.read_stamps_of.new.tx.conn.now) = omega (arith, clean, c.set_stamps.ensures.lent.stays.crash.clean) in
    let first : HasCleanDisk (state g.S.Store c.content_now.new.tx.conn.now) = omega (arith, early, c.read_stamps_of.ensures.lent.stays.crash.clean) in
    let key : c.in_ok-key.key ≡ k = c.in_ok-key.ensures in
    let one = c.in_ok-new.ensures.finds first kept was in
    let two = c.in_ok-stamps.ensures.finds early kept one.1 in
    let new : c.in_ok-new.new ≡ shown_at base k = one.0 ∙ kept_is_shown beside base old.key in
    let stamps : c.in_ok-stamps.stamps ≡ at view_cmp k beside.stamps = two.0 ∙ ap (λ j. at view_cmp j beside.stamps) key in
    let turn : c.in_ok-turn.turn ≡ turn_at k old.content (shown_at base k) (at view_cmp k beside.stamps) now = c.in_ok-turn.ensures ∙ λ i. turn_at (key i) (c.in_ok-copy.ensures i) (new i) (stamps i) now in
    let restamped : option_copied c.row_at.result ≡ restamped_at k (at view_cmp k beside.stamps) old.content (shown_at base k) now = c.row_at.ensures ∙ λ i. at view_cmp (key i) (turn i).restamped in
    let three = c.in_ok-set_stamps.ensures.leaves clean kept two.1 in
    let held : Keeps (kept_beside (with_object beside base now old) base) (state g.S.Store c.set_stamps.new.tx.conn.now) = subst (λ (all : Kept). Keeps all (state g.S.Store c.set_stamps.new.tx.conn.now)) (λ i. with_stamps_at (key i) (restamped i) kept) three in
    let happened : c.operation_of.result ≡ option_map (λ (x : Change). x.operation) (slice_get (changes (row_at k old.content) (row_at k (shown_at base k))) 0) =
    c.operation_of.ensures ∙ ap (λ cs. option_map (λ (x : Change). x.operation) (slice_get cs 0)) (c.deref.ensures.value ∙ c.in_ok-changes.ensures ∙ λ i. changes (turn i).before (turn i).after) in
    let tells = tells_first old (shown_at base k) None (sym happened ∙ c.in-None.is) in (
      with_object beside base now old,
      held,
      object_refreshed owner rows beside before base now old keeps (held_in_order beside base _ was) stood None tells tt,
    )
