use Rattle.std.proofs.Common.{◌≡◌, Some, None, sym, ap, ap₂, subst, arith}
use Rattle.std.specs.Option.{option_copied}
use Rattle.adr_db.proofs.Common.{state, HasCleanDisk}
use Rattle.adr_db.specs.Kept.{Kept, Keeps, without_rollup, without_stamps}
use Rattle.adr_kept_view.specs.Rollups.{kept_with}
use Rattle.adr_upkeep.specs.Rolled.{operation_of}
use Rattle.adr_upkeep.proofs.rollups.turn_rollup.Goals as goal

pub returns-in_ok-remove_stamps-in-Some-None-clause-turns : goal.returns-in_ok-remove_stamps-in-Some-None-clause-turns
returns-in_ok-remove_stamps-in-Some-None-clause-turns g c clean kept was =
    let id = c.args.event.now in
    let early : HasCleanDisk (state g.S.Store c.remove_rollup.new.tx.conn.now) = omega (arith, c.remove_stamps.ensures.lent.stays.crash.clean) in
    let rolled = c.in_ok-remove_rollup-in-Some-None.ensures.leaves early kept was in
    let all = c.in_ok-remove_stamps-in-Some-None.ensures.leaves clean (without_rollup id kept) rolled in
    let old : option_copied c.args.old ≡ Some c.in-Some-None.field-0-0.now = ap option_copied c.in-Some-None.is-0 in
    let new : option_copied c.args.new ≡ None = ap option_copied c.in-Some-None.is-1 in
    let those = subst (λ (k : Kept). Keeps k (state g.S.Store c.remove_stamps.new.tx.conn.now)) (λ i. without_stamps (c.requires i) (without_rollup id kept)) all in
    (sym (ap₂ (operation_of id) old new), subst (λ (k : Kept). Keeps k (state g.S.Store c.remove_stamps.new.tx.conn.now)) (sym (λ i. kept_with id c.args.now (old i) (option_copied c.args.stamps) (new i) kept)) those)
