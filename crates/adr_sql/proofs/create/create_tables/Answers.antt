use Rattle.std.proofs.lemmas.Result.{err_from_is_err_and}
use Rattle.std.proofs.lemmas.List.{drop_all}
use Rattle.std.proofs.Common.{map, drop, ap, subst, arith, drop-cons, add-one, suc}
use Rattle.adr_sql.proofs.Common.{HasCleanDisk, state}
use Rattle.adr_sql.specs.Creations.{IsUnderWay}
use Rattle.adr_sql.proofs.Creations.{makes_one, all_made, HaveRun, one_ran, one_failed}
use Rattle.adr_sql.proofs.Transactions.{lent_then}
use Rattle.adr_sql.proofs.create.create_tables.Goals as goal

pub texts-preserved : goal.texts-preserved
texts-preserved g c = record {
  lent = lent_then g.S.Store _ _ _ _ _ c.texts.invariant.lent c.in_ok-run.ensures.lent;
  made = λ clean schema all tables makes was.
      let early : HasCleanDisk (state g.S.Store c.texts.tx.conn.now) = omega (arith, c.run.ensures.lent.stays.crash.clean) in
      let so_far = c.texts.invariant.made early schema all tables makes was in
      let ran = c.in_ok-run.ensures.runs clean in
      let cell = drop-cons c.args.texts.now c.texts.text-index _ c.texts-test.true in
      let now = state g.S.Store c.texts.tx.conn.now in
      let next = makes_one schema all tables _ (map (λ t. t.now) (drop (suc c.texts.text-index) c.args.texts.now)) now (state g.S.Store c.run.new.tx.conn.now) ran.0 (subst (λ l. IsUnderWay schema all tables (map (λ t. t.now) l) now) cell so_far) ran.1 in
      rw add-one next;
  ran = λ clean inside.
      let early : HasCleanDisk (state g.S.Store c.texts.tx.conn.now) = omega (arith, c.run.ensures.lent.stays.crash.clean) in
      let so_far = c.texts.invariant.ran early inside in
      let executed = c.in_ok-run.ensures.runs clean in
      let cell = drop-cons c.args.texts.now c.texts.text-index _ c.texts-test.true in
      let texts = map (λ t. t.now) c.args.texts.now in
      let next = one_ran g.S.Store texts _ (map (λ t. t.now) (drop (suc c.texts.text-index) c.args.texts.now)) c.args.tx.now.conn.now c.texts.tx.conn.now c.run.new.tx.conn.now executed.0
      (subst (λ l. HaveRun g.S.Store texts (map (λ t. t.now) l) c.args.tx.now.conn.now c.texts.tx.conn.now) cell so_far) executed.1 in
      rw add-one next;
}

pub returns-in_err-run-clause-fails : goal.returns-in_err-run-clause-fails
returns-in_err-run-clause-fails g c clean inside =
    let early : HasCleanDisk (state g.S.Store c.texts.tx.conn.now) = omega (arith, c.run.ensures.lent.stays.crash.clean) in
    let so_far = c.texts.invariant.ran early inside in
    let cell = drop-cons c.args.texts.now c.texts.text-index _ c.texts-test.true in
    let texts = map (λ t. t.now) c.args.texts.now in
    let p = err_from_is_err_and c.from_residual.result c.from_residual.ensures.1 in
    rw (p.1, p.2) (one_failed g.S.Store texts _ (map (λ t. t.now) (drop (suc c.texts.text-index) c.args.texts.now)) c.args.tx.now.conn.now c.texts.tx.conn.now c.run.new.tx.conn.now _
    (subst (λ l. HaveRun g.S.Store texts (map (λ t. t.now) l) c.args.tx.now.conn.now c.texts.tx.conn.now) cell so_far) (c.in_err-run.ensures.fails clean (c.texts.invariant.lent.stays.inside early inside)))

pub returns-clause-made : goal.returns-clause-made
returns-clause-made g c clean schema all tables makes was =
    all_made schema all tables _ (state g.S.Store c.texts.tx.conn.now) (ap (map (λ t. t.now)) (drop_all c.texts.text-index c.args.texts.now (omega (arith, c.texts-test.false)))) (c.texts.invariant.made clean schema all tables makes was)
