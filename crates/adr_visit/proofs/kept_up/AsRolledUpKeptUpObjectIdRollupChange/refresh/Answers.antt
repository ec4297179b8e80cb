use Rattle.std.proofs.Common.{List, sym, subst}
use Rattle.adr_kept_view.specs.declared.change.RollupChange.{RollupChange}
use Rattle.adr_kept_view.specs.Refreshed.{IsRefreshed, as_rolled_up}
use Rattle.adr_visit.proofs.kept_up.AsRolledUpKeptUpObjectIdRollupChange.refresh.Goals as goal

pub returns-clause-refreshes : goal.returns-clause-refreshes
returns-clause-refreshes g c clean owner rows beside before base was keeps owns so_was right =
    let so = c.in_ok-change.ensures.refreshes clean owner rows beside before base was keeps right in
    (so.0, so.1, so.2, subst (λ (cs : List RollupChange). IsRefreshed as_rolled_up owner rows beside before base c.args.now c.args.event.now cs so.0) (sym c.in_ok-rows_of.ensures) so.3)
