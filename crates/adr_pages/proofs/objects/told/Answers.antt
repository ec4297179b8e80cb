use Rattle.std.proofs.Common.{sym, ap, ◌∙◌, option_map}
use Rattle.adr_state.specs.Keys.{view_cmp, at}
use Rattle.adr_db.proofs.Results.{ok_then}
use Rattle.adr_pages.specs.Objects.{object_with}
use Rattle.adr_pages.proofs.objects.told.Goals as goal

pub returns-clause-finds : goal.returns-clause-finds
returns-clause-finds g c clean =
    ok_then c.object_of.result
    (λ object is kept was.
    let found = c.in_ok-stamps.ensures.finds clean kept was in
    let its = found.0 ∙ ap (λ k. at view_cmp k kept.stamps) c.in_ok-event_key.ensures in
    (ap (option_map (object_with c.args.key c.args.columns)) (sym its) ∙ is, found.1))
    c.object_of.ensures.object
