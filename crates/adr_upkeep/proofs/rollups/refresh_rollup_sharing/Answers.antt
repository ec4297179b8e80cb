use Rattle.std.proofs.Common.{◌≡◌, Option, sym, ap, ap₂, subst, arith, ◌∙◌}
use Rattle.std.specs.Option.{option_copied, option_to_list}
use Rattle.adr_state.specs.declared.keys.ViewKey.TheVariants as key
use Rattle.adr_state.specs.Keys.{id_cmp, view_cmp, at}
use Rattle.adr_view.specs.Rollups.{rollup_at}
use Rattle.adr_db.proofs.Common.{state, HasCleanDisk}
use Rattle.adr_db.specs.Bases.{kept_beside}
use Rattle.adr_db.specs.Kept.{Kept, Keeps}
use Rattle.adr_kept_view.proofs.OrderLemmas.{held_in_order}
use Rattle.adr_kept_view.specs.declared.change.RollupChange.{RollupChange}
use Rattle.adr_kept_view.specs.Laws.{with_rollup}
use Rattle.adr_kept_view.specs.Refreshed.{IsRefreshed, as_rolled_up}
use Rattle.adr_kept_view.specs.Rollups.{change_of, kept_with}
use Rattle.adr_kept_view.proofs.RolledLemmas.{rollup_refreshed}
use Rattle.adr_upkeep.specs.Rolled.{operation_of, told_of, ReadsRolled}
use Rattle.adr_upkeep.proofs.Common.{told_is}
use Rattle.adr_upkeep.proofs.rollups.refresh_rollup_sharing.Goals as goal

pub returns-clause-refreshes : goal.returns-clause-refreshes
returns-clause-refreshes g c clean owner rows beside before base was keeps right =
    let id = c.args.event.now in
    let now = c.args.now in
    let kept : Kept = kept_beside beside base in
    let third : HasCleanDisk (state g.S.Store c.rollup_by.new.tx.conn.now) = omega (arith, c.turn_rollup.ensures.lent.stays.crash.clean) in
    let second : HasCleanDisk (state g.S.Store c.read_stamps_of.new.tx.conn.now) = omega (arith, third, c.rollup_by.ensures.lent.stays.crash.clean) in
    let first : HasCleanDisk (state g.S.Store c.read_rollup.new.tx.conn.now) = omega (arith, second, c.read_stamps_of.ensures.lent.stays.crash.clean) in
    let one = c.in_ok-old.ensures.finds first kept was in
    let two = c.in_ok-stamps.ensures.finds second kept one.1 in
    let three = c.in_ok-new.ensures.finds third kept two.1 right in
    let four = c.in_ok-operation.ensures.turns clean kept three.2 in
    let old : option_copied c.as_ref.result ≡ at id_cmp id beside.rollups = c.as_ref.ensures.value ∙ one.0 in
    let stamps : option_copied c.as_ref-2.result ≡ at view_cmp (key.Rollup id) beside.stamps = c.as_ref-2.ensures.value ∙ two.0 ∙ ap (λ e. at view_cmp (key.Rollup e) beside.stamps) c.in_ok-copy.ensures in
    let new : option_copied c.as_ref-3.result ≡ rollup_at base.mirror base.portfolio id = c.as_ref-3.ensures.value ∙ three.0 in
    let reads : ReadsRolled id (rollup_at base.mirror base.portfolio id) = subst (ReadsRolled id) new c.in_ok-operation.ensures.reads in
    let so = rollup_refreshed owner rows beside base now id keeps (held_in_order beside base _ was) reads before in
    let told : c.told.result ≡ change_of id (at id_cmp id beside.rollups) (rollup_at base.mirror base.portfolio id) =
    c.told.ensures ∙ ap₂ told_of (four.0 ∙ ap₂ (operation_of id) old new) three.0 ∙ told_is id (at id_cmp id beside.rollups) (rollup_at base.mirror base.portfolio id) in (
      with_rollup beside base now id,
      subst (λ (k : Kept). Keeps k (state g.S.Store c.turn_rollup.new.tx.conn.now)) (λ i. kept_with id now (old i) (stamps i) (new i) kept) four.1,
      three.1,
      subst (λ (o : Option RollupChange). IsRefreshed as_rolled_up owner rows beside before base now id (option_to_list o) (with_rollup beside base now id)) (sym told) so,
    )
