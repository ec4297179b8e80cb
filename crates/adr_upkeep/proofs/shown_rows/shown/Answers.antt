use Rattle.std.proofs.Common.{sym, ◌∙◌}
use Rattle.adr_db.proofs.Results.{ok_then}
use Rattle.adr_db.specs.Bases.{kept_beside}
use Rattle.adr_kept_view.proofs.OrderLemmas.{held_in_order}
use Rattle.adr_view.proofs.ShownLemmas.{shown_is_of_view}
use Rattle.adr_upkeep.proofs.shown_rows.shown.Goals as goal

pub returns-clause-finds : goal.returns-clause-finds
returns-clause-finds g c clean =
    ok_then c.shown_by.result (λ rows finds beside base was.
    let found = finds beside base was (c.none-sharers.ensures (kept_beside beside base)) in
    (record { made_of_its_mark = found.0; all_of_the_view = found.0 ∙ sym (shown_is_of_view base c.args.event.now (held_in_order beside base _ was)) }, found.2)) (c.shown_by.ensures.finds clean)
