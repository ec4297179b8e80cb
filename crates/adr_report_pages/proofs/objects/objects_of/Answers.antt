use Rattle.std.proofs.Common.{◌∷◌, ◌++◌, [], map, ap, ap₂, sym, arith, ◌∙◌, List, Option, Some, Ok}
use Rattle.adr_db.proofs.Common.{state, HasCleanDisk, map-append, lent_then}
use Rattle.adr_queries.specs.declared.answer.Object.{Object}
use Rattle.adr_report_pages.specs.Objects.{object_kept}
use Rattle.adr_report_pages.proofs.objects.objects_of.Goals as goal

pub rows-preserved : goal.rows-preserved
rows-preserved g c = record {
  lent =
      let one = c.in_ok-object.ensures.lent in
      lent_then g.S.Store _ _ _ _ (Ok tt) c.rows.invariant.lent (record { same = one.same; stays = record { crash = one.stays.crash; commit = one.stays.commit; inside = one.stays.inside } });
  found = λ clean kept was.
      let early : HasCleanDisk (state g.S.Store c.rows.tx.conn.now) = omega (arith, c.told.ensures.lent.stays.crash.clean) in
      let so_far = c.rows.invariant.found early kept was in
      let one = c.in_ok-object.ensures.finds clean kept so_far.1 in (
        ap (map Some) c.in_ok-push.ensures.ok
            ∙ map-append Some c.rows.objects (c.in_ok-object.object ∷ [])
            ∙ ap₂ (λ (all : List (Option Object)) (o : Option Object). all ++ o ∷ []) so_far.0 (sym one.0)
            ∙ sym (map-append (object_kept kept) c.rows.yielded (c.in-Some.row ∷ [])),
        one.1,
      );
}
