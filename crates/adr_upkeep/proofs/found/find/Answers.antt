use Rattle.std.proofs.Common.{map, ap, arith, ◌∙◌}
use Rattle.std.specs.List.{filter_map}
use Rattle.std.specs.Ordering.{nat_cmp}
use Rattle.adr_db.proofs.Common.{state, HasCleanDisk, map_of}
use Rattle.adr_db.specs.Bases.{kept_beside}
use Rattle.adr_kept_view.specs.Changes.{kept_row, stamps_row, event_row}
use Rattle.adr_upkeep.proofs.found.find.Goals as goal

pub returns-clause-finds : goal.returns-clause-finds
returns-clause-finds g c clean beside base was right =
    let late : HasCleanDisk (state g.S.Store c.read_event_stamps.new.tx.conn.now) = omega (arith, c.shown_by.ensures.lent.stays.crash.clean) in
    let early : HasCleanDisk (state g.S.Store c.read_shown_of.new.tx.conn.now) = omega (arith, late, c.read_event_stamps.ensures.lent.stays.crash.clean) in
    let one = c.in_ok-rows.ensures.finds early (kept_beside beside base) was in
    let two = c.in_ok-rows-2.ensures.finds late (kept_beside beside base) one.1 in
    let three = c.in_ok-rows-3.ensures.finds clean beside base two.1 right in (
      λ i. record {
        kept = (c.in_ok-kept.ensures.map ∙ ap (map_of nat_cmp) (c.in_ok-kept_rows.ensures ∙ ap (map kept_row) one.0)) i;
        stamps = (c.in_ok-stamps.ensures.map ∙ ap (map_of nat_cmp) (c.in_ok-stamps_rows.ensures ∙ ap (filter_map stamps_row) (c.as_slice.ensures ∙ two.0))) i;
        shown = (c.in_ok-shown.ensures.map ∙ ap (map_of nat_cmp) (c.in_ok-event_rows.ensures ∙ ap (filter_map event_row) (c.as_slice-2.ensures ∙ three.0))) i;
      },
      three.1,
      three.2,
    )
