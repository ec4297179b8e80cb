use Rattle.std.proofs.Common.{◌≡◌, ap, Bool, filter, List, subst, sym, ◌∙◌}
use Rattle.adr_db.proofs.Rises.{keys_in_order, stamps_rise}
use Rattle.adr_db_shown.specs.Entries.{is_key_between}
use Rattle.adr_objects.specs.declared.shown.Stamps.{Stamps}
use Rattle.adr_refresh.proofs.Common.{view_cmp}
use Rattle.adr_state.specs.declared.keys.ViewKey.{ViewKey}
use Rattle.adr_state.proofs.KeyLemmas.{view_order}
use Rattle.adr_state.specs.Keys.{with_rows}
use Rattle.adr_pages.specs.Stamps.{AreJoined}
use Rattle.adr_pages.proofs.StampLemmas.{are_joined}
use Rattle.adr_pages.proofs.stamps.put_run.Goals as goal

pub returns-clause-puts : goal.returns-clause-puts
returns-clause-puts g c clean kept was =
    let more = c.in_ok-more.ensures.finds clean kept was in
    let passes : ViewKey → Bool = is_key_between c.args.event.now c.args.first c.args.last in
    let put : c.put_all.new.table ≡ with_rows view_cmp c.args.stamps.now c.in_ok-more.more = rw view_order at c.in_ok-put_all.ensures in
    let these : with_rows view_cmp c.args.stamps.now c.in_ok-more.more ≡ with_rows view_cmp c.args.stamps.now (filter (λ e. passes e.0) kept.stamps) = ap (λ (rows : List (ViewKey × Stamps)). with_rows view_cmp c.args.stamps.now rows) more.0 in (
      subst (λ (new : List (ViewKey × Stamps)). AreJoined kept.stamps c.args.stamps.now new passes) (sym (put ∙ these)) (are_joined kept.stamps c.args.stamps.now passes (keys_in_order view_cmp kept.stamps (stamps_rise kept _ was))),
      more.1,
    )
