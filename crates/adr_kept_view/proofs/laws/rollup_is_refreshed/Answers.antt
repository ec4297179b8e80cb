use Rattle.adr_kept_view.proofs.RolledLemmas.{rollup_refreshed}
use Rattle.adr_kept_view.proofs.laws.rollup_is_refreshed.Goals as goal

pub returns : goal.returns
returns c owner rows beside before base now id keeps stands reads = rollup_refreshed owner rows beside base now id keeps stands reads before
