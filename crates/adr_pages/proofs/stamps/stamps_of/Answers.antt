use Rattle.std.proofs.Common.{◌≡◌, ◌++◌, ◌∷◌, [], ◌+◌, ap, sym, subst, take, Bool, arith, Ok, ◌∙◌}
use Rattle.adr_db.proofs.Common.{state, HasCleanDisk, lent_then, take_all, take_more}
use Rattle.adr_db_shown.specs.Entries.{is_key_between}
use Rattle.adr_state.specs.declared.keys.ViewKey.{ViewKey}
use Rattle.adr_pages.specs.Stamps.{AreFound, GoesOn}
use Rattle.adr_pages.proofs.StampLemmas.{AreFoundBut, found_anyway, one_more, run_goes_on, run_put, waits_itself}
use Rattle.adr_pages.proofs.stamps.stamps_of.Goals as goal
use Rattle.adr_pages.proofs.stamps.stamps_of.Goals.{then-not-is_near+in_ok-put_run, else-not-is_near}

pub rows-preserved : goal.rows-preserved
rows-preserved g c =
    let rows = c.args.rows.now in
    let so_many = take c.rows.row-index rows in
    let key = c.row-item.result.0 in
    let before = c.rows.last.now in
    let same : so_many ++ c.row-item.result ∷ [] ≡ take (c.rows.row-index + 1) rows = ap (λ row. so_many ++ row ∷ []) c.row-item.is ∙ sym (take_more rows c.rows.row-index c.row-item.result c.rows-test.true) in
    elim c.if-not-is_near.branch [
      | then-not-is_near+in_ok-put_run w ↦ rw (w.tx-is, w.stamps-is, w.first-is, w.last-is) (record {
        lent =
            let one = w.in_ok-put_run.ensures.lent in
            lent_then g.S.Store _ _ _ _ (Ok tt) c.rows.invariant.lent (record { same = one.same; stays = record { crash = one.stays.crash; commit = one.stays.commit; inside = one.stays.inside } });
        begun = omega arith;
        found = λ clean kept was.
            let early : HasCleanDisk (state g.S.Store c.rows.tx.conn.now) = omega (arith, w.put_run.ensures.lent.stays.crash.clean) in
            let so_far = c.rows.invariant.found early kept was in
            let more = w.in_ok-put_run.ensures.puts clean kept so_far.2 in
            let joined = more.0 so_far.0 in
            let stamps = w.put_run.new.stamps in
            let waits : ViewKey → Bool = is_key_between key.event key.resource key.resource in
            let found : AreFound kept.stamps stamps so_many = run_put kept.stamps c.rows.stamps stamps (is_key_between before.event c.rows.first before.resource) so_many joined.1 joined.2 so_far.1 in
            (joined.0, subst (AreFoundBut kept.stamps stamps waits) same (one_more kept.stamps stamps waits so_many c.row-item.result (found_anyway kept.stamps stamps waits so_many found) (waits_itself key key.resource (omega arith))), more.1);
      })
      | else-not-is_near w ↦
          let on : GoesOn before key = c.is_near.ensures (grind (arith, w.if-not-is_near)) in
          rw (w.tx-is, w.stamps-is, w.first-is, w.last-is) (record {
            lent = c.rows.invariant.lent;
            begun = omega (arith, c.rows.invariant.begun, on.1);
            found = λ clean kept was.
                let so_far = c.rows.invariant.found clean kept was in
                let waits : ViewKey → Bool = is_key_between key.event c.rows.first key.resource in
                (so_far.0, subst (AreFoundBut kept.stamps c.rows.stamps waits) same (one_more kept.stamps c.rows.stamps waits so_many c.row-item.result (run_goes_on kept.stamps c.rows.stamps before key c.rows.first on so_many so_far.1) (waits_itself key c.rows.first (omega (arith, c.rows.invariant.begun, on.1)))), so_far.2);
          })
    ]

pub returns-clause-finds : goal.returns-clause-finds
returns-clause-finds g c clean kept was =
    let rows = c.args.rows.now in
    let last = c.rows.last.now in
    let early : HasCleanDisk (state g.S.Store c.rows.tx.conn.now) = omega (arith, c.put_run-2.ensures.lent.stays.crash.clean) in
    let so_far = c.rows.invariant.found early kept was in
    let more = c.in_ok-put_run-2.ensures.puts clean kept so_far.2 in
    let joined = more.0 so_far.0 in
    let stamps = c.put_run-2.new.stamps in
    let whole : take c.rows.row-index rows ≡ rows = take_all c.rows.row-index rows (omega (arith, c.rows-test.false)) in
    (subst (AreFound kept.stamps stamps) whole (run_put kept.stamps c.rows.stamps stamps (is_key_between last.event c.rows.first last.resource) (take c.rows.row-index rows) joined.1 joined.2 so_far.1), more.1)
