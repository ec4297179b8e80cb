use Rattle.adr_kept_view.specs.Refreshed.{as_rolled_up}
use Rattle.adr_refresh.proofs.Common.{each_there}
use Rattle.adr_told.specs.Told.{rollup_entries}
use Rattle.adr_told.proofs.RolledUp.{rollup_as_whole}
use Rattle.adr_told.proofs.Trails.{trail_as_whole}
use Rattle.adr_told.proofs.laws.rollups_are_told_as_whole.Goals as goal

pub returns : goal.returns
returns c client subs owner before stamps after now ids rows beside last end es many stands_before stands up keeps untouched trail =
    trail_as_whole as_rolled_up (rollup_entries client) client subs owner before stamps after now stands
    (λ id rows beside later cs so keeps untouched refreshed. rollup_as_whole client subs owner before stamps after now id rows beside later cs stands_before stands keeps untouched refreshed)
    ids rows beside last end es many up (each_there (λ id. Unit {0}) ids (λ id there. tt)) keeps untouched trail
