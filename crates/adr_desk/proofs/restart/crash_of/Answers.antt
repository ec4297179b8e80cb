use Rattle.std.proofs.Common.{sym, ◌∙◌, arith}
use Rattle.sqlite_trees.specs.View.{IsClean}
use Rattle.adr_db.proofs.Common.{state, HasCleanDisk}
use Rattle.adr_desk.proofs.Restarts.{some_then, went_well, recovered}
use Rattle.adr_desk.proofs.restart.crash_of.Goals as goal

pub returns-in-Ok : goal.returns-in-Ok
returns-in-Ok g c =
    let ok = sym c.is_err.ensures.value ∙ c.if-is_err.false in
    some_then c.over_left.result (λ again found clean is_open.
    let it = found clean is_open in
    let opened = c.in-Ok.ensures.opens it.0 in
    let fresh = went_well _ c.crash_and_reopen.result ok c.crash_and_reopen.ensures.fresh in
    let same = c.in-Ok.ensures.trees it.0 ∙ fresh.clean in
    let still : IsClean (g.S.Store.view c.crash_and_reopen.new.self) = omega (arith, c.in-Ok.ensures.clean) in
    let may = c.into_store-store.ensures.quiet.outcomes _ (went_well _ c.crash_and_reopen.result ok c.crash_and_reopen.ensures.found still) in
    let was_clean : HasCleanDisk (state g.S.Store c.args.conn) = omega (arith, c.in-Ok.ensures.clean, c.crash_and_reopen.ensures.clean, c.into_store-store.ensures.quiet.clean) in
    (was_clean, (_, recovered (g.S.Store.recovers c.args.conn.store) _ _ same may, it.1 opened.0.is_open))) c.over_left.ensures
